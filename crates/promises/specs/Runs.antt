-- Runs of an arbiter, and what the promises count in them.
--
--   Run M s xs t     == the machine M takes the inputs xs, one after the other, from the place s to the place t
--   Reached step n t == the arbiter of this step stands in t after some run from reset with n masters
--   trace_of r       == the cycles that a run shows, oldest first
--   readies r        == its ready cycles
--   decisions d r, wins d j r == its decisions, and those that grant master j
--   Requests i r     == HBUSREQ of i is high in every cycle
--   Loses d i r      == i requests at every decision and wins none
--   AtMost C used r  == no access has more than C ready cycles, of which the one that runs has used some
--   handed_by k i r  == the bus is handed to i by the k-th ready cycle
--   Unlocked r       == no master's lock line is high in any cycle
use Rattle.std.specs.Prelude.{ℕ, ◌+◌, ◌-◌, ◌≤◌, ◌≡◌, Bool, true, false, ◌&&◌, cond, List, [], ◌∷◌, eqb, ltb, Ok}
use Rattle.rules.specs.declared.State.{State}
use Rattle.rules.specs.declared.Inputs.{Inputs}
use Rattle.rules.specs.declared.Outputs.{Outputs}
use Rattle.rules.specs.declared.Cycle.{Cycle}
use Rattle.rules.specs.Results.{Answer}
use Rattle.rules.specs.Codes.{ready}
use Rattle.rules.specs.Masks.{high}
use Rattle.rules.specs.State.{reset_of}
use Rattle.rules.specs.Phase.{handover}
use Rattle.promises.specs.Machines.{Machine, machine_of}

pub data Run (M : Machine) : M.Place → List Inputs → M.Place → Type 0 where
  stop : {s : M.Place} → Run M s [] s
  more : {s s' t : M.Place} {o : Outputs} {x : Inputs} {xs : List Inputs}
      → M.Step s x s' o → Run M s' xs t → Run M s (x ∷ xs) t

-- after some run from reset with n masters
pub record Reached (step : State → Inputs → Answer) (n : ℕ) (t : State) : Type 0 where
  pub first : State
  pub began : reset_of n ≡ Ok first
  pub inputs : List Inputs
  pub run : Run (machine_of step) first inputs t

-- "handed to it": a handover with g that master
abbrev pub hands : ℕ → State → Inputs → Bool
hands i s x = handover s x && eqb s.g i

module _ {M : Machine} where
  unfoldable pub trace_of : {s t : M.Place} {xs : List Inputs} → Run M s xs t → List Cycle
  trace_of stop = []
  trace_of (more {o = o} {x = x} e r) = record { inputs = x; outputs = o } ∷ trace_of r

  unfoldable pub readies : {s t : M.Place} {xs : List Inputs} → Run M s xs t → ℕ
  readies stop = 0
  readies (more {x = x} e r) = cond (ready x) 1 0 + readies r

  unfoldable pub Requests : (i : ℕ) {s t : M.Place} {xs : List Inputs} → Run M s xs t → Type 0
  Requests i stop = Unit {0}
  Requests i (more {x = x} e r) = (high x.hbusreq i ≡ true) × Requests i r

  unfoldable pub Unlocked : {s t : M.Place} {xs : List Inputs} → Run M s xs t → Type 0
  Unlocked stop = Unit {0}
  Unlocked (more {x = x} e r) = ((i : ℕ) → high x.hlock i ≡ false) × Unlocked r

  -- an access ends with its handover, and the next begins with none used
  unfoldable pub AtMost : (C used : ℕ) {s t : M.Place} {xs : List Inputs} → Run M s xs t → Type 0
  AtMost C used stop = Unit {0}
  AtMost C used (more {s = s} {x = x} e r) =
      cond (ready x) ((used + 1 ≤ C) × AtMost C (cond (M.state s).granted 0 (used + 1)) r) (AtMost C used r)

  -- a handover is a ready cycle, so it is one of the k
  unfoldable pub handed_by : (k i : ℕ) {s t : M.Place} {xs : List Inputs} → Run M s xs t → Bool
  handed_by k i stop = false
  handed_by k i (more {s = s} {x = x} e r) =
      cond (hands i (M.state s) x) (ltb 0 k) (handed_by (k - cond (ready x) 1 0) i r)

  module _ (decision : M.Place → Inputs → Bool) where
    unfoldable pub decisions : {s t : M.Place} {xs : List Inputs} → Run M s xs t → ℕ
    decisions stop = 0
    decisions (more {s = s} {x = x} e r) = cond (decision s x) 1 0 + decisions r

    unfoldable pub wins : (j : ℕ) {s t : M.Place} {xs : List Inputs} → Run M s xs t → ℕ
    wins j stop = 0
    wins j (more {s = s} {s' = s'} {x = x} e r) =
        cond (decision s x && eqb (M.state s').g j) 1 0 + wins j r

    unfoldable pub Loses : (i : ℕ) {s t : M.Place} {xs : List Inputs} → Run M s xs t → Type 0
    Loses i stop = Unit {0}
    Loses i (more {s = s} {s' = s'} {x = x} e r) =
        (decision s x ≡ true → (high x.hbusreq i ≡ true) × ((M.state s').g ≡ i → ⊥)) × Loses i r
