-- The cases P1 to P12 of document 01 as one table: `look` at each case of `cases` gives the row of `wanted` beside it.
-- n = 3, HBUSREQ 0, ready, IDLE, SINGLE, locks low, Done, GRANTED low unless said. The count is k, which the page leaves open.
--
--   three .. == a state of three masters: g, m, HMASTLOCK, GRANTED, the phase and the count
--   lines .. == inputs: HBUSREQ, HLOCK, HREADY, HTRANS, HBURST
--   look c   == what is seen of a case: DECIDE and the state after a step, or the answer of a reset
--   cases k  == the cases, those of a step at the count k
--   wanted k == what the page says of each
--   table    == the two agree (proofs/Cases.antt)
use Rattle.std.specs.Prelude.{ℕ, ◌+◌, Bool, true, false, List, [], ◌∷◌, Err, Ok}
use Rattle.rules.specs.declared.Phase.{Phase}
use Rattle.rules.specs.declared.Phase.TheVariants.{Fresh, Fixed, Done}
use Rattle.rules.specs.declared.State.{State}
use Rattle.rules.specs.declared.Inputs.{Inputs}
use Rattle.rules.specs.Results.{Answer, Start}
use Rattle.rules.specs.Refusals.{number_of}
use Rattle.rules.specs.State.{reset_of, reset_state}
use Rattle.rules.specs.Step.{step_of}

pub data Case : Type 0 where
  cycle : State → Inputs → Case
  reset : ℕ → Case

-- after a step: DECIDE as its column has it, then the state; after a reset the state; or the number of a refusal
pub data Look : Type 0 where
  after : ℕ → State → Look
  ready : State → Look
  refused : ℕ → Look

abbrev look_at : Answer → Look
look_at (Ok (s, o)) = after o.decide s
look_at (Err (r, s)) = refused (number_of r)

abbrev look_on : Start → Look
look_on (Ok s) = ready s
look_on (Err r) = refused (number_of r)

unfoldable pub look : Case → Look
look (cycle s x) = look_at (step_of s x)
look (reset n) = look_on (reset_of n)

-- a state of three masters: g, m, HMASTLOCK, GRANTED, the phase and the count
abbrev pub three : ℕ → ℕ → Bool → Bool → Phase → ℕ → State
three g m lock granted p k =
    record { n = 3; g = g; m = m; hmastlock = lock; granted = granted; phase = p; count = k }

-- HBUSREQ, HLOCK, HREADY, HTRANS, HBURST
abbrev pub lines : ℕ → ℕ → ℕ → ℕ → ℕ → Inputs
lines hbusreq hlock hready htrans hburst =
    record { hbusreq = hbusreq; hlock = hlock; hready = hready; htrans = htrans; hburst = hburst }

unfoldable pub cases : ℕ → List Case
cases k =
    -- P1 to P5
    cycle (three 0 0 false false Done k) (lines 0x0 0 1 0 0)
    ∷ cycle (three 0 0 false false Done k) (lines 0x6 0 1 0 0)
    ∷ cycle (three 1 1 false false Done k) (lines 0x6 0 1 0 0)
    ∷ cycle (three 2 2 false false Done k) (lines 0x4 0 1 0 0)
    ∷ cycle (three 2 2 false false Done k) (lines 0x0 0 1 0 0)
    -- P6 and P7: GRANTED
    ∷ cycle (three 1 0 false true Done k) (lines 0x0 0 0 0 0)
    ∷ cycle (three 1 0 false true Done k) (lines 0x0 0x2 1 0 0)
    -- P8 and P9: Fixed 1
    ∷ cycle (three 1 1 false false (Fixed 1) k) (lines 0x2 0 1 0 0)
    ∷ cycle (three 1 1 false false (Fixed 1) k) (lines 0x2 0 0 0 0)
    -- P10: NONSEQ INCR4, not ready
    ∷ cycle (three 1 1 false false Fresh k) (lines 0x6 0 0 2 3)
    -- P11: HMASTLOCK and HLOCK of the owner
    ∷ cycle (three 1 1 true false Done k) (lines 0x6 0x2 1 0 0)
    -- P12
    ∷ reset 17
    ∷ reset 16
    ∷ []

unfoldable pub wanted : ℕ → List Look
wanted k =
    -- P1: DECIDE, then g 0, GRANTED low
    after 1 (three 0 0 false false Done (k + 1))
    -- P2: g 1, GRANTED
    ∷ after 1 (three 1 0 false true Done (k + 1))
    -- P3: g 2
    ∷ after 1 (three 2 1 false true Done (k + 1))
    -- P4: g 2, GRANTED (a new access)
    ∷ after 1 (three 2 2 false true Done (k + 1))
    -- P5: g 0, GRANTED
    ∷ after 1 (three 0 2 false true Done (k + 1))
    -- P6: unchanged but for the count
    ∷ after 0 (three 1 0 false true Done (k + 1))
    -- P7: m 1, HMASTLOCK, Fresh
    ∷ after 0 (three 1 1 true false Fresh (k + 1))
    -- P8: DECIDE, then Done, g 1, GRANTED
    ∷ after 1 (three 1 1 false true Done (k + 1))
    -- P9: DECIDE low, Fixed 1
    ∷ after 0 (three 1 1 false false (Fixed 1) (k + 1))
    -- P10: DECIDE low, Fresh
    ∷ after 0 (three 1 1 false false Fresh (k + 1))
    -- P11: DECIDE low
    ∷ after 0 (three 1 1 true false Done (k + 1))
    -- P12: refusal 1; n = 16 is taken
    ∷ refused 1
    ∷ ready (reset_state 16)
    ∷ []
