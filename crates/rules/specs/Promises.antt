-- What is promised of one step of the arbiter, by the numbers that the page gives, each statement beside its sentence. Each is proved in
-- proofs/Promises.antt by a law of its name, in lower case with underscores.
--
--   Accepted s x      == nothing is refused, and the step is the one of the page
--   NumberOf s x      == the number that the step answers, test by test
--   ProtectedKind s x == the burst is of a protected kind, by its code
use Rattle.std.specs.Prelude.{◌≤◌, ◌<◌, ◌≡◌, ◌⊎◌, Bool, true, false, None, Ok, Some}
use Rattle.rules.specs.declared.Phase.TheVariants.{Fresh}
use Rattle.rules.specs.declared.State.{State}
use Rattle.rules.specs.declared.Inputs.{Inputs}
use Rattle.rules.specs.Refusals.{answer_of, state_of, outputs_of}
use Rattle.rules.specs.Codes.{most_cycles}
use Rattle.rules.specs.Valid.{inputs_too_large, inputs_not_built, inputs_absent, inputs_check}
use Rattle.rules.specs.State.{well_formed}
use Rattle.rules.specs.Phase.{seen, decides}
use Rattle.rules.specs.Step.{chosen, moved, shown, answered, step_of}

-- "10 is given outside it", 8 where "the count is 1,000,000 already", 4 to 6 for a stimulus that is not valid: a step that answers 0
-- met none of them, and shows and leads to what the page says;
pub record Accepted (s : State) (x : Inputs) : Type 0 where
  pub sound : well_formed s ≡ true
  pub room : s.count < most_cycles
  pub good : inputs_check s.n x ≡ Ok tt
  pub shows : outputs_of (step_of s x) ≡ shown s (seen s x) (decides s (seen s x))
  pub grants : chosen s x (decides s (seen s x)) ≡ Some (state_of (step_of s x)).g
  pub moves : state_of (step_of s x) ≡ moved s x (decides s (seen s x)) (state_of (step_of s x)).g

abbrev pub TakenOnlyThen : Type 0
TakenOnlyThen = (s : State) (x : Inputs) → answer_of (step_of s x) ≡ 0 → Accepted s x

-- "Every refusal returns its number with the state and position as given": a step that answers another number hands the state back as it
-- came, and shows nothing.
abbrev pub HandsBackByNumber : Type 0
HandsBackByNumber = (s : State) (x : Inputs) → (answer_of (step_of s x) ≡ 0 → ⊥)
    → (state_of (step_of s x) ≡ s) × (outputs_of (step_of s x) ≡ record { hgrant = 0; hmaster = 0; hmastlock = 0; decide = 0; granted = 0; busreq = 0 })

-- "A step of arbiter or judge: 10, 8, 4, 5, 6, 7, 11"; "The first test that applies, in the order given here, answers." A stimulus has
-- no HMASTER, so 7 is never given here; nor is 11, for a decision always finds a master.
pub record NumberOf (s : State) (x : Inputs) : Type 0 where
  pub ten : well_formed s ≡ false → answer_of (step_of s x) ≡ 10
  pub eight : well_formed s ≡ true → most_cycles ≤ s.count → answer_of (step_of s x) ≡ 8
  pub four : well_formed s ≡ true → s.count < most_cycles → inputs_too_large x ≡ true → answer_of (step_of s x) ≡ 4
  pub five : well_formed s ≡ true → s.count < most_cycles → inputs_too_large x ≡ false → inputs_not_built x ≡ true → answer_of (step_of s x) ≡ 5
  pub six : well_formed s ≡ true → s.count < most_cycles → inputs_too_large x ≡ false → inputs_not_built x ≡ false → inputs_absent s.n x ≡ true
      → answer_of (step_of s x) ≡ 6
  pub none : well_formed s ≡ true → s.count < most_cycles → inputs_too_large x ≡ false → inputs_not_built x ≡ false → inputs_absent s.n x ≡ false
      → answer_of (step_of s x) ≡ 0

abbrev pub FirstTestAnswers : Type 0
FirstTestAnswers = (s : State) (x : Inputs) → NumberOf s x

-- 11, "a decision with a request high finds no master": what such a decision would answer. (It never comes: FirstTestAnswers has a 0.)
abbrev pub ElevenForNobody : Type 0
ElevenForNobody = (s : State) (x : Inputs) (d : Bool) → (answer_of (answered None d s x) ≡ 11) × (state_of (answered None d s x) ≡ s)

-- "Protected kind" means INCR4, or INCR while HMASTLOCK is high: HBURST 3, or 1
abbrev pub ProtectedKind : State → Inputs → Type 0
ProtectedKind s x = (x.hburst ≡ 3) ⊎ ((x.hburst ≡ 1) × (s.hmastlock ≡ true))

-- "it is not the case that the phase is Fresh with a protected NONSEQ and HREADY low": in any state, while a burst of a protected kind waits
-- to open, DECIDE is low.
abbrev pub NoDecisionInTheWait : Type 0
NoDecisionInTheWait = (s : State) (x : Inputs) → s.phase ≡ Fresh → x.htrans ≡ 2 → x.hready ≡ 0 → ProtectedKind s x
    → (decides s (seen s x) ≡ false) × ((outputs_of (step_of s x)).decide ≡ 0)
