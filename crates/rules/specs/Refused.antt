-- Each refusal of a reset and of a step by its number, and beside it the neighbours that are taken, as one table: what is `heard` of
-- each entry of `asked` is what is `wanted` of it.
-- n = 3, g = m = 1, Done, locks and GRANTED low, count 0, HBUSREQ 0, ready, IDLE, SINGLE unless said.
--
--   Asked              == a step or a reset, and the number that the page gives it
--   standing n g m ..  == a state: n, g, m, HMASTLOCK, GRANTED, the phase and the count
--   well, good         == the state and the inputs unless said
--   bad, full          == a state that is not well formed, and one at the end of a run
--   heard a            == what the definitions answer: the number, the state that a reset begins with or a refused step hands back
--   wanted a           == what the page says: the number, and of a refused step the state as it came
--   named, numbers     == the refusals, and their numbers
--   table, all_numbers == they agree (proofs/Refused.antt)
use Rattle.std.specs.Prelude.{ℕ, Bool, true, false, List, [], ◌∷◌, Err, Ok}
use Rattle.rules.specs.declared.Refusal.{Refusal}
use Rattle.rules.specs.declared.Refusal.TheVariants as refusal
use Rattle.rules.specs.declared.Phase.{Phase}
use Rattle.rules.specs.declared.Phase.TheVariants.{Fresh, Fixed, Open, Done}
use Rattle.rules.specs.declared.State.{State}
use Rattle.rules.specs.declared.Inputs.{Inputs}
use Rattle.rules.specs.Results.{Start}
use Rattle.rules.specs.Refusals.{answer_of, state_of, reset_answer}
use Rattle.rules.specs.State.{reset_of}
use Rattle.rules.specs.Step.{step_of}
use Rattle.rules.specs.Cases.{lines}

pub data Asked : Type 0 where
  -- a reset for n masters is refused by this number; or begins with this state
  declines : ℕ → ℕ → Asked
  begins : ℕ → State → Asked
  -- a step is refused by this number; or taken
  refuses : ℕ → State → Inputs → Asked
  takes : State → Inputs → Asked

-- the number, and the state that comes with it where the table says which
pub data Heard : Type 0 where
  back : ℕ → State → Heard
  number : ℕ → Heard

abbrev heard_of : Start → Heard
heard_of (Ok s) = back (reset_answer (Ok s)) s
heard_of (Err r) = number (reset_answer (Err r))

unfoldable pub heard : Asked → Heard
heard (declines k n) = heard_of (reset_of n)
heard (begins n s) = heard_of (reset_of n)
heard (refuses k s x) = back (answer_of (step_of s x)) (state_of (step_of s x))
heard (takes s x) = number (answer_of (step_of s x))

unfoldable pub wanted : Asked → Heard
wanted (declines k n) = number k
wanted (begins n s) = back 0 s
wanted (refuses k s x) = back k s
wanted (takes s x) = number 0

abbrev standing : ℕ → ℕ → ℕ → Bool → Bool → Phase → ℕ → State
standing n g m lock granted p k =
    record { n = n; g = g; m = m; hmastlock = lock; granted = granted; phase = p; count = k }

abbrev well : State
well = standing 3 1 1 false false Done 0

abbrev good : Inputs
good = lines 0 0 1 0 0

abbrev bad : State
bad = standing 3 1 2 false false Done 0

abbrev full : State
full = standing 3 1 1 false false Done 1000000

unfoldable pub asked : List Asked
asked =
    -- Reset: 1
    declines 1 0
    ∷ declines 1 1
    ∷ begins 2 (standing 2 0 0 false false Fresh 0)
    ∷ begins 16 (standing 16 0 0 false false Fresh 0)
    ∷ declines 1 17
    -- 10: n from 2 to 16
    ∷ refuses 10 (standing 1 0 0 false false Done 0) good
    ∷ refuses 10 (standing 17 0 0 false false Done 0) good
    ∷ takes (standing 2 0 0 false false Done 0) good
    ∷ takes (standing 16 0 0 false false Done 0) good
    -- g and m below n
    ∷ refuses 10 (standing 3 3 1 false true Done 0) good
    ∷ refuses 10 (standing 3 1 3 false true Done 0) good
    ∷ refuses 10 (standing 3 3 3 false false Done 0) good
    ∷ takes (standing 3 2 2 false false Done 0) good
    -- g = m when GRANTED is low
    ∷ refuses 10 (standing 3 1 2 false false Done 0) good
    ∷ takes (standing 3 1 2 false true Done 0) good
    -- k from 1 to 3
    ∷ refuses 10 (standing 3 1 1 false false (Fixed 0) 0) good
    ∷ takes (standing 3 1 1 false false (Fixed 1) 0) good
    ∷ takes (standing 3 1 1 false false (Fixed 3) 0) good
    ∷ refuses 10 (standing 3 1 1 false false (Fixed 4) 0) good
    -- Fresh or Done when GRANTED is high
    ∷ refuses 10 (standing 3 1 1 false true (Fixed 1) 0) good
    ∷ refuses 10 (standing 3 1 1 true true Open 0) good
    ∷ takes (standing 3 1 1 true true Fresh 0) good
    ∷ takes (standing 3 1 1 true true Done 0) good
    -- HMASTLOCK high when Open
    ∷ refuses 10 (standing 3 1 1 false false Open 0) good
    ∷ takes (standing 3 1 1 true false Open 0) good
    ∷ takes (standing 3 1 1 true false (Fixed 2) 0) good
    ∷ takes (standing 3 1 1 true false Fresh 0) good
    -- count at most 1,000,000; and 8: it is 1,000,000 already
    ∷ takes (standing 3 1 1 false false Done 999999) good
    ∷ refuses 8 (standing 3 1 1 false false Done 1000000) good
    ∷ refuses 10 (standing 3 1 1 false false Done 1000001) good
    -- 4: a mask above 65,535
    ∷ takes (standing 16 1 1 false false Done 0) (lines 0xffff 0xffff 1 0 0)
    ∷ refuses 4 (standing 16 1 1 false false Done 0) (lines 0x10000 0 1 0 0)
    ∷ refuses 4 (standing 16 1 1 false false Done 0) (lines 0 0x10000 1 0 0)
    -- a flag above 1, HTRANS above 3, HBURST above 7
    ∷ takes well (lines 0 0 0 0 0)
    ∷ refuses 4 well (lines 0 0 2 0 0)
    ∷ takes well (lines 0 0 1 2 0)
    ∷ takes well (lines 0 0 1 3 0)
    ∷ refuses 4 well (lines 0 0 1 4 0)
    ∷ takes well (lines 0 0 1 0 1)
    ∷ takes well (lines 0 0 1 0 3)
    ∷ refuses 4 well (lines 0 0 1 0 8)
    -- 5: HTRANS 1, or HBURST 2, 4, 5, 6, 7
    ∷ refuses 5 well (lines 0 0 1 1 0)
    ∷ refuses 5 well (lines 0 0 1 0 2)
    ∷ refuses 5 well (lines 0 0 1 0 4)
    ∷ refuses 5 well (lines 0 0 1 0 5)
    ∷ refuses 5 well (lines 0 0 1 0 6)
    ∷ refuses 5 well (lines 0 0 1 0 7)
    -- 6: HBUSREQ or HLOCK names a master not below n
    ∷ takes well (lines 0x7 0x7 1 0 0)
    ∷ refuses 6 well (lines 0x8 0 1 0 0)
    ∷ refuses 6 well (lines 0 0x8 1 0 0)
    ∷ refuses 6 (standing 15 1 1 false false Done 0) (lines 0x8001 0 1 0 0)
    -- "The first test that applies, in the order given here, answers": 10, 8, 4, 5, 6, each pair
    ∷ refuses 10 (standing 3 1 2 false false Done 1000000) good
    ∷ refuses 10 bad (lines 0 0 2 0 0)
    ∷ refuses 10 bad (lines 0 0 1 1 0)
    ∷ refuses 10 bad (lines 0x8 0 1 0 0)
    ∷ refuses 8 full (lines 0 0 2 0 0)
    ∷ refuses 8 full (lines 0 0 1 1 0)
    ∷ refuses 8 full (lines 0x8 0 1 0 0)
    ∷ refuses 4 well (lines 0 0 2 1 0)
    ∷ refuses 4 well (lines 0x8 0 2 0 0)
    ∷ refuses 5 well (lines 0x8 0 1 1 0)
    ∷ []

-- the page's table "Refusal numbers", from 1 on, and after it the numbers of the requests
abbrev pub named : List Refusal
named =
    refusal.Masters
    ∷ refusal.Header
    ∷ refusal.Shape
    ∷ refusal.Value
    ∷ refusal.NotBuilt
    ∷ refusal.Absent
    ∷ refusal.Owner
    ∷ refusal.Full
    ∷ refusal.Short
    ∷ refusal.State
    ∷ refusal.Nobody
    ∷ refusal.Dump
    ∷ refusal.Time
    ∷ refusal.Variable
    ∷ []

abbrev pub numbers : List ℕ
numbers = 1 ∷ 2 ∷ 3 ∷ 4 ∷ 5 ∷ 6 ∷ 7 ∷ 8 ∷ 9 ∷ 10 ∷ 11 ∷ 12 ∷ 13 ∷ 14 ∷ []
