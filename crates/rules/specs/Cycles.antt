-- Cycles beside P1 to P12, one for each clause of the page's sentences on the phase, on DECIDE and on what follows, as one table: what is
-- `found` of each entry of `cycles` is what is `said` of it.
-- n = 3, g = m = 1, locks and GRANTED low unless said. The count is k, which the page leaves open.
--
--   told s x o t == in the state s with the inputs x the arbiter shows o, and t is the state after
--   drives ..    == the six columns that the arbiter drives
--   found c, said c == what the definitions give of such a cycle, and what is said here
--   cycles k     == the cycles, at the count k
--   table        == found and said agree (proofs/Cycles.antt)
use Rattle.std.specs.Prelude.{ℕ, ◌+◌, true, false, List, [], ◌∷◌, Ok}
use Rattle.rules.specs.declared.Phase.TheVariants.{Fresh, Fixed, Open, Done}
use Rattle.rules.specs.declared.State.{State}
use Rattle.rules.specs.declared.Inputs.{Inputs}
use Rattle.rules.specs.declared.Outputs.{Outputs}
use Rattle.rules.specs.Results.{Answer}
use Rattle.rules.specs.Step.{step_of}
use Rattle.rules.specs.Cases.{three, lines}

pub data Told : Type 0 where
  told : State → Inputs → Outputs → State → Told

abbrev pub found : Told → Answer
found (told s x o t) = step_of s x

abbrev pub said : Told → Answer
said (told s x o t) = Ok (t, o)

-- HGRANT, HMASTER, HMASTLOCK, DECIDE, GRANTED, BUSREQ
abbrev drives : ℕ → ℕ → ℕ → ℕ → ℕ → ℕ → Outputs
drives hgrant hmaster hmastlock decide granted busreq =
    record { hgrant = hgrant; hmaster = hmaster; hmastlock = hmastlock; decide = decide; granted = granted; busreq = busreq }

unfoldable pub cycles : ℕ → List Told
cycles k =
    -- "Fresh, ready, NONSEQ: Fixed 3 for INCR4; Open for INCR with HMASTLOCK; else Done"
    told (three 1 1 false false Fresh k) (lines 0x2 0 1 2 3) (drives 0x2 1 0 0 0 1) (three 1 1 false false (Fixed 3) (k + 1))
    ∷ told (three 1 1 true false Fresh k) (lines 0x2 0 1 2 1) (drives 0x2 1 1 0 0 1) (three 1 1 true false Open (k + 1))
    ∷ told (three 1 1 false false Fresh k) (lines 0x2 0 1 2 1) (drives 0x2 1 0 1 0 1) (three 1 1 false true Done (k + 1))
    ∷ told (three 1 1 true false Fresh k) (lines 0x2 0 1 2 0) (drives 0x2 1 1 1 0 1) (three 1 1 true true Done (k + 1))
    -- not NONSEQ: unchanged
    ∷ told (three 1 1 true false Fresh k) (lines 0x2 0 1 0 3) (drives 0x2 1 1 1 0 1) (three 1 1 true true Fresh (k + 1))
    ∷ told (three 1 1 true false Fresh k) (lines 0x2 0 1 3 1) (drives 0x2 1 1 1 0 1) (three 1 1 true true Fresh (k + 1))
    -- not ready: unchanged; and "it is not the case that the phase is Fresh with a protected NONSEQ and HREADY low":
    -- INCR4, or INCR while HMASTLOCK is high
    ∷ told (three 1 1 false false Fresh k) (lines 0x2 0 0 2 3) (drives 0x2 1 0 0 0 1) (three 1 1 false false Fresh (k + 1))
    ∷ told (three 1 1 true false Fresh k) (lines 0x2 0 0 2 1) (drives 0x2 1 1 0 0 1) (three 1 1 true false Fresh (k + 1))
    -- and neither INCR while it is low, nor SINGLE,
    ∷ told (three 1 1 false false Fresh k) (lines 0x2 0 0 2 1) (drives 0x2 1 0 1 0 1) (three 1 1 false true Fresh (k + 1))
    ∷ told (three 1 1 true false Fresh k) (lines 0x2 0 0 2 0) (drives 0x2 1 1 1 0 1) (three 1 1 true true Fresh (k + 1))
    -- nor IDLE, nor a phase that is not Fresh
    ∷ told (three 1 1 true false Fresh k) (lines 0x2 0 0 0 3) (drives 0x2 1 1 1 0 1) (three 1 1 true true Fresh (k + 1))
    ∷ told (three 1 1 true false Done k) (lines 0x2 0 0 2 3) (drives 0x2 1 1 1 0 1) (three 1 1 true true Done (k + 1))
    -- "Fixed k, ready: Fixed k-1, or Done when k is 1. Not ready: unchanged": P8 and P9 have Fixed 1
    ∷ told (three 1 1 false false (Fixed 3) k) (lines 0x2 0 1 3 3) (drives 0x2 1 0 0 0 1) (three 1 1 false false (Fixed 2) (k + 1))
    ∷ told (three 1 1 false false (Fixed 2) k) (lines 0x2 0 1 3 3) (drives 0x2 1 0 0 0 1) (three 1 1 false false (Fixed 1) (k + 1))
    ∷ told (three 1 1 false false (Fixed 3) k) (lines 0x2 0 0 3 3) (drives 0x2 1 0 0 0 1) (three 1 1 false false (Fixed 3) (k + 1))
    -- "Open: Done if HBUSREQ of m is low, else Open", ready or not
    ∷ told (three 1 1 true false Open k) (lines 0x6 0 1 3 1) (drives 0x2 1 1 0 0 1) (three 1 1 true false Open (k + 1))
    ∷ told (three 1 1 true false Open k) (lines 0x4 0 0 3 1) (drives 0x2 1 1 1 0 0) (three 2 1 true true Done (k + 1))
    -- "Anything else: unchanged"
    ∷ told (three 1 1 false false Done k) (lines 0x2 0 1 2 3) (drives 0x2 1 0 1 0 1) (three 1 1 false true Done (k + 1))
    -- "HMASTLOCK and HLOCK of m are not both high": P11 has both
    ∷ told (three 1 1 true false Done k) (lines 0x6 0x5 1 0 0) (drives 0x2 1 1 1 0 1) (three 2 1 true true Done (k + 1))
    ∷ told (three 1 1 false false Done k) (lines 0x6 0x2 1 0 0) (drives 0x2 1 0 1 0 1) (three 2 1 false true Done (k + 1))
    -- "walking g+1, g+2, .. around and ending at g itself"
    ∷ told (three 2 2 false false Done k) (lines 0x7 0 1 0 0) (drives 0x4 2 0 1 0 1) (three 0 2 false true Done (k + 1))
    ∷ told (three 0 0 false false Done k) (lines 0x5 0 1 0 0) (drives 0x1 0 0 1 0 1) (three 2 0 false true Done (k + 1))
    ∷ told (three 1 1 false false Done k) (lines 0x3 0 1 0 0) (drives 0x2 1 0 1 0 1) (three 0 1 false true Done (k + 1))
    -- "GRANTED high, no handover: unchanged", whatever the phase; and no decision
    ∷ told (three 2 1 true true Fresh k) (lines 0x2 0x6 0 2 3) (drives 0x4 1 1 0 1 1) (three 2 1 true true Fresh (k + 1))
    -- "Handover: Fresh": m becomes g, HMASTLOCK becomes HLOCK of g and of no other master, GRANTED goes low
    ∷ told (three 2 1 true true Done k) (lines 0x2 0x3 1 2 3) (drives 0x4 1 1 0 1 1) (three 2 2 false false Fresh (k + 1))
    ∷ told (three 2 1 false true Done k) (lines 0x2 0x4 1 2 3) (drives 0x4 1 0 0 1 1) (three 2 2 true false Fresh (k + 1))
    ∷ []
