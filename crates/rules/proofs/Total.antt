-- A well-formed state below the count limit takes every stimulus that is valid for n: it is never refused, by 11 neither.
--
--   passed, cycle_passed == where nothing is refused, none of the tests applies
--   good_masks     == a valid stimulus names no absent master
--   requests_below == nor do the requests of a valid cycle
--   chosen_found   == a decision always finds a master, with a request high or not
--   never_refused  == the step is taken
use Rattle.std.specs.Prelude.{Ok, Some}
use Prim.Native.Nat.{ℕ, ◌^◌, ◌<◌}
use mathlib.Core.Path.{◌≡◌, refl}
use mathlib.Core.Bool.{Bool, true, false, ◌||◌}
use native.Mathlib.Omega.{arith}
use borrow.Author.Tests.{leb-false, lt-leb, eqb-false}
use lib.Dec.{eqb}
use Rattle.rules.specs.declared.State.{State}
use Rattle.rules.specs.declared.Inputs.{Inputs}
use Rattle.rules.specs.declared.Cycle.{Cycle}
use Rattle.rules.specs.Refusals.{first_of}
use Rattle.rules.specs.Codes.{most_cycles}
use Rattle.rules.specs.Masks.{names_absent}
use Rattle.rules.specs.Valid.{inputs_too_large, outputs_too_large, inputs_not_built, inputs_absent, outputs_absent, owner_absent, inputs_check, cycle_check}
use Rattle.rules.specs.State.{WellFormed}
use Rattle.rules.specs.Phase.{seen}
use Rattle.rules.specs.Step.{chosen, moved, shown, accepted, step_of}
use Rattle.rules.proofs.Choice.{or_left, or_right}
use Rattle.rules.proofs.Masks.{some_is_high}
use Rattle.rules.proofs.Winner.{winner_won}
use Rattle.rules.proofs.WellFormed.{test_of}
use Rattle.rules.proofs.Taken.{decide}

-- where nothing is refused, none of the tests applies
pub record Passed (v u a o : Bool) : Type 0 where
  pub value : v ≡ false
  pub unbuilt : u ≡ false
  pub absent : a ≡ false
  pub owner : o ≡ false

pub passed : (v u a o : Bool) → first_of v u a o ≡ Ok tt → Passed v u a o
passed true u a o e = let z : ◌≡◌ {A = ℕ} 0 1 = cc in absurd (omega arith)
passed false true a o e = let z : ◌≡◌ {A = ℕ} 0 1 = cc in absurd (omega arith)
passed false false true o e = let z : ◌≡◌ {A = ℕ} 0 1 = cc in absurd (omega arith)
passed false false false true e = let z : ◌≡◌ {A = ℕ} 0 1 = cc in absurd (omega arith)
passed false false false false e = record { value = refl; unbuilt = refl; absent = refl; owner = refl }

pub cycle_passed : (n : ℕ) (c : Cycle) → cycle_check n c ≡ Ok tt
    → Passed
    (inputs_too_large c.inputs || outputs_too_large c.outputs)
    (inputs_not_built c.inputs)
    (inputs_absent n c.inputs || outputs_absent n c.outputs)
    (owner_absent n c.outputs)
unfolding cycle_check
cycle_passed n c e = passed _ _ _ _ e

pub requests_below : (n : ℕ) (c : Cycle) → cycle_check n c ≡ Ok tt → c.inputs.hbusreq < 2 ^ n
unfolding inputs_absent
requests_below n c e =
    leb-false _ _ (or_left _ _ (or_left (inputs_absent n c.inputs) (outputs_absent n c.outputs) (cycle_passed n c e).absent))

pub record GoodMasks (n : ℕ) (x : Inputs) : Type 0 where
  pub hbusreq : x.hbusreq < 2 ^ n
  pub hlock : x.hlock < 2 ^ n

pub good_masks : (n : ℕ) (x : Inputs) → inputs_check n x ≡ Ok tt → GoodMasks n x
unfolding inputs_check inputs_absent
good_masks n x e =
    let p = (passed (inputs_too_large x) (inputs_not_built x) (inputs_absent n x) false e).absent in
    record {
      hbusreq = leb-false (2 ^ n) x.hbusreq (or_left (names_absent n x.hbusreq) (names_absent n x.hlock) p);
      hlock = leb-false (2 ^ n) x.hlock (or_right (names_absent n x.hbusreq) (names_absent n x.hlock) p);
    }

pub chosen_found : (s : State) (x : Inputs) (d : Bool) → inputs_check s.n x ≡ Ok tt → (w : ℕ) × (chosen s x d ≡ Some w)
unfolding chosen
chosen_found s x false e = (s.g, refl)
chosen_found s x true e = go (eqb x.hbusreq 0) refl
  where
    go : (t : Bool) → eqb x.hbusreq 0 ≡ t → (w : ℕ) × (chosen s x true ≡ Some w)
    go true p = (0, rw p)
    go false p =
        let r = some_is_high s.n x.hbusreq (good_masks s.n x e).hbusreq (eqb-false x.hbusreq 0 p) in
        let v = winner_won s.n s.g x.hbusreq r.at r.there r.is_high in
        (v.at, rw p v.found)

pub never_refused : (s : State) (x : Inputs) → WellFormed s → s.count < most_cycles → inputs_check s.n x ≡ Ok tt
    → (w : ℕ) × (step_of s x ≡ Ok (moved s x (decide s x) w, shown s (seen s x) (decide s x)))
unfolding step_of accepted
never_refused s x sound room good =
    let c = chosen_found s x (decide s x) good in
    (c.0, simp (test_of s sound, lt-leb 1000000 s.count room, good, c.1))
