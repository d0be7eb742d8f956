-- Arbiters as machines that go from place to place, and the arbiter of document 01 as one of them.
--
--   Machine           == an arbiter: its places, the state of document 01 in each, and its steps
--   machine_of step   == the machine of a step function: it goes on where the step is not refused
--   arbiter, the_step == the arbiter of document 01, and its step
--   decision s x      == DECIDE in the state s with the inputs x
--   InTurn M          == the laws of an arbiter that serves its masters in turn: all that the bounds ask of it
use Rattle.std.specs.Prelude.{ℕ, ◌<◌, ◌≡◌, Bool, true, false, ◌&&◌, cond, Ok}
use Rattle.rules.specs.declared.State.{State}
use Rattle.rules.specs.declared.Inputs.{Inputs}
use Rattle.rules.specs.declared.Outputs.{Outputs}
use Rattle.rules.specs.Results.{Answer}
use Rattle.rules.specs.Codes.{ready}
use Rattle.rules.specs.Masks.{high, some_high}
use Rattle.rules.specs.Phase.{seen, decides}
use Rattle.rules.specs.Step.{step_of}

pub record Machine : Type 1 where
  -- where it can stand
  pub Place : Type 0
  -- the state of document 01 there
  pub state : Place → State
  -- it takes these inputs, goes to the next place and shows these outputs
  pub Step : Place → Inputs → Place → Outputs → Type 0

abbrev pub machine_of : (State → Inputs → Answer) → Machine
machine_of step =
    record {
      Place = State;
      state = λ s. s;
      Step = λ s x s' o. step s x ≡ Ok (s', o);
    }

abbrev pub arbiter : Machine
arbiter = machine_of step_of

-- the step that the promises are proved of
abbrev pub the_step : State → Inputs → Answer
the_step s x = step_of s x

abbrev pub decision : State → Inputs → Bool
decision s x = decides s (seen s x)

-- d is DECIDE, and turns how many decisions a master can still lose
pub record InTurn (M : Machine) (d : M.Place → Inputs → Bool) (turns : M.Place → ℕ → ℕ) : Type 0 where
  -- the number of masters stays
  pub masters : (s : M.Place) (x : Inputs) (s' : M.Place) (o : Outputs) → M.Step s x s' o → (M.state s').n ≡ (M.state s).n
  -- a decision falls only where GRANTED is low
  pub low : (s : M.Place) (x : Inputs) → d s x ≡ true → (M.state s).granted ≡ false
  -- after a decision with a request GRANTED is high
  pub raised : (s : M.Place) (x : Inputs) (s' : M.Place) (o : Outputs) → M.Step s x s' o
      → d s x ≡ true → some_high x.hbusreq ≡ true → (M.state s').granted ≡ true
  -- without one it falls at the handover, and else stays
  pub falls : (s : M.Place) (x : Inputs) (s' : M.Place) (o : Outputs) → M.Step s x s' o
      → d s x ≡ false → (M.state s').granted ≡ cond ((M.state s).granted && ready x) false (M.state s).granted
  -- and so do the grant and the turns
  pub stays : (s : M.Place) (x : Inputs) (s' : M.Place) (o : Outputs) → M.Step s x s' o
      → d s x ≡ false → (M.state s').g ≡ (M.state s).g
  pub waits : (s : M.Place) (x : Inputs) (s' : M.Place) (o : Outputs) → M.Step s x s' o
      → d s x ≡ false → (i : ℕ) → turns s' i ≡ turns s i
  -- a decision that a requesting master loses brings its turn nearer
  pub nearer : (s : M.Place) (x : Inputs) (s' : M.Place) (o : Outputs) → M.Step s x s' o
      → d s x ≡ true → (i : ℕ) → i < (M.state s).n → high x.hbusreq i ≡ true → ((M.state s').g ≡ i → ⊥) → turns s' i < turns s i
