-- The promises of specs/Promises.antt, each proved by the law of its name.
use Rattle.std.specs.Prelude.{Err, None, Ok, Some}
use mathlib.Core.Path.{◌≡◌, refl, sym, ◌∙◌, ap}
use mathlib.Core.Logic.{inl, inr}
use mathlib.Core.Bool.{Bool, true, false, and-false}
use native.Mathlib.Omega.{arith}
use borrow.Author.Tests.{le-leb, lt-leb}
use lib.Dec.{leb}
use Rattle.rules.specs.declared.Refusal.{Refusal}
use Rattle.rules.specs.declared.Refusal.TheVariants as refusal
use Rattle.rules.specs.Results.{Check, Found, Answer}
use Rattle.rules.specs.declared.Phase.TheVariants.{Fresh}
use Rattle.rules.specs.declared.State.{State}
use Rattle.rules.specs.declared.Inputs.{Inputs}
use Rattle.rules.specs.declared.Outputs.{Outputs}
use Rattle.rules.specs.Refusals.{number_of, answer_of, state_of, outputs_of}
use Rattle.rules.specs.Codes.{most_cycles, burst_of}
use Rattle.rules.specs.Valid.{inputs_check}
use Rattle.rules.specs.State.{well_formed}
use Rattle.rules.specs.Phase.{seen, opens_later, decides}
use Rattle.rules.specs.Step.{chosen, moved, flag_of, shown, accepted, step_of}
use Rattle.rules.specs.Promises.{Accepted, TakenOnlyThen, HandsBackByNumber, FirstTestAnswers, ElevenForNobody, ProtectedKind, NoDecisionInTheWait}
use Rattle.rules.proofs.WellFormed.{facts_of, test_of}
use Rattle.rules.proofs.Taken.{taken, decide, next_g}
use Rattle.rules.proofs.Total.{never_refused}

-- a step is taken, or refused with the state as it came
data Outcome (s : State) (x : Inputs) : Type 0 where
  takes : (s' : State) (o : Outputs) → step_of s x ≡ Ok (s', o) → Outcome s x
  refuses : (r : Refusal) → step_of s x ≡ Err (r, s) → Outcome s x

outcome : (s : State) (x : Inputs) → Outcome s x
unfolding step_of accepted
outcome s x = go (well_formed s) (leb most_cycles s.count) (inputs_check s.n x) (chosen s x (decide s x)) refl refl refl refl
  where
    go : (a b : Bool) (c : Check) (f : Found) → well_formed s ≡ a → leb most_cycles s.count ≡ b → inputs_check s.n x ≡ c → chosen s x (decide s x) ≡ f → Outcome s x
    go true false (Ok _) (Some w) p q r t = takes (moved s x (decide s x) w) (shown s (seen s x) (decide s x)) (simp (p, q, r, t))
    go true false (Ok _) None p q r t = refuses refusal.Nobody (simp (p, q, r, t))
    go true false (Err e) f p q r t = refuses e (simp (p, q, r))
    go true true c f p q r t = refuses refusal.Full (simp (p, q))
    go false b c f p q r t = refuses refusal.State (simp p)

-- no refusal has the number 0
pub some_number : (r : Refusal) → number_of r ≡ 0 → ⊥
some_number refusal.Masters e = omega arith
some_number refusal.Header e = omega arith
some_number refusal.Shape e = omega arith
some_number refusal.Value e = omega arith
some_number refusal.NotBuilt e = omega arith
some_number refusal.Absent e = omega arith
some_number refusal.Owner e = omega arith
some_number refusal.Full e = omega arith
some_number refusal.Short e = omega arith
some_number refusal.State e = omega arith
some_number refusal.Nobody e = omega arith
some_number refusal.Dump e = omega arith
some_number refusal.Time e = omega arith
some_number refusal.Variable e = omega arith

pub taken_only_then : TakenOnlyThen
taken_only_then s x e = go (outcome s x)
  where
    go : Outcome s x → Accepted s x
    go (takes s' o q) =
        let k = taken s x s' o q in
        let to : state_of (step_of s x) ≡ s' = ap state_of q in
        let g : (state_of (step_of s x)).g ≡ k.w = ap (λ (t : State). t.g) to ∙ next_g s x s' o k in
        record {
          sound = test_of s k.sound;
          room = k.room;
          good = k.good;
          shows = ap outputs_of q ∙ k.shows;
          grants = rw g k.chose;
          moves = rw g (to ∙ k.moves);
        }
    go (refuses r q) = absurd (some_number r (sym (ap answer_of q) ∙ e))

pub hands_back_by_number : HandsBackByNumber
hands_back_by_number s x ne = go (outcome s x)
  where
    go : Outcome s x → (state_of (step_of s x) ≡ s) × (outputs_of (step_of s x) ≡ outputs_of (Err (refusal.State, s)))
    go (takes s' o q) = absurd (ne (ap answer_of q))
    go (refuses r q) = (ap state_of q, ap outputs_of q)

pub first_test_answers : FirstTestAnswers
unfolding step_of inputs_check
first_test_answers s x =
    record {
      ten = λ bad. rw bad;
      eight = λ sound full. rw (sound, le-leb most_cycles s.count full);
      four = λ sound room a. rw (sound, lt-leb most_cycles s.count room, a);
      five = λ sound room a b. rw (sound, lt-leb most_cycles s.count room, a, b);
      six = λ sound room a b c. rw (sound, lt-leb most_cycles s.count room, a, b, c);
      none = λ sound room a b c. ap answer_of (never_refused s x (facts_of s sound) room (rw (a, b, c))).1;
    }

pub eleven_for_nobody : ElevenForNobody
eleven_for_nobody s x d = (refl, refl)

-- a burst of a protected kind, by its code, opens later
later : (s : State) (x : Inputs) → s.phase ≡ Fresh → x.htrans ≡ 2 → x.hready ≡ 0 → ProtectedKind s x → opens_later s (seen s x) ≡ true
unfolding opens_later seen burst_of
later s x f t r (inl b) = rw (f, t, r, b)
later s x f t r (inr (b, l)) = rw (f, t, r, b, l)

low_in_the_wait : (s : State) (x : Inputs) → opens_later s (seen s x) ≡ true → decides s (seen s x) ≡ false
unfolding decides
low_in_the_wait s x e = simp (e, and-false)

-- where the arbiter does not decide, its column says so
shown_low : (s : State) (x : Inputs) → decides s (seen s x) ≡ false → (outputs_of (step_of s x)).decide ≡ 0
unfolding shown
shown_low s x e = go (outcome s x)
  where
    go : Outcome s x → (outputs_of (step_of s x)).decide ≡ 0
    go (takes s' o q) = ap (λ (o : Outputs). o.decide) (ap outputs_of q ∙ (taken s x s' o q).shows) ∙ ap flag_of e
    go (refuses r q) = ap (λ (a : Answer). (outputs_of a).decide) q

pub no_decision_in_the_wait : NoDecisionInTheWait
no_decision_in_the_wait s x f t r b =
    let e = low_in_the_wait s x (later s x f t r b) in
    (e, shown_low s x e)
