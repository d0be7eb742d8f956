-- The few tests of a stimulus say what the definitions do.
--
--   fits_of  == the columns of a valid stimulus fit their places in a line
--   valid_is == the tests, and what they come to
use Rattle.std.specs.Prelude.{Err, Ok}
use Prim.Native.Nat.{ℕ, ◌/◌, ◌^◌, ◌≤◌}
use mathlib.Core.Path.{◌≡◌, refl}
use mathlib.Core.Bool.{Bool, true, not, ◌&&◌, false≢true}
use native.Mathlib.Omega.{arith}
use native.Mathlib.Nat.{div-eq_of_lt}
use borrow.Author.Tests.{leb-true, le-leb, eqb-true, eq-eqb, not-true}
use lib.Bits.{bit_or, or_lt}
use lib.Dec.{eqb, leb}
use Rattle.rules.specs.Results.{Check}
use Rattle.rules.specs.declared.Inputs.{Inputs}
use Rattle.rules.specs.Valid.{inputs_check}
use Rattle.rules.proofs.Choice.{and_left, and_right, or_left, or_right}
use Rattle.glances.proofs.Bits.{or_below, within}
use Rattle.glances.proofs.Valid.{InputsWithin, inputs_pass, inputs_passed, masks_below}
use Rattle.octets.proofs.Places.{same_flag}
use Rattle.prints.specs.Prints.{Fits}
use Rattle.host.specs.Tests.{passes}

pub fits_of : (n : ℕ) (x : Inputs) → n ≤ 16 → inputs_check n x ≡ Ok tt → Fits x
fits_of n x many e =
    let w = inputs_passed n x e in
    let top = masks_below n many in
    record {
      requests = omega (arith, w.requests);
      locks = omega (arith, w.locks);
      ready = w.ready;
      trans = w.trans;
      burst = w.burst;
    }

pub good_of : (c : Check) → passes c ≡ true → c ≡ Ok tt
good_of (Ok _) e = refl
good_of (Err r) e = absurd (false≢true e)

-- the tests, as they stand
abbrev tests : ℕ → Inputs → Bool
tests n x =
    eqb (bit_or x.hbusreq x.hlock / 2 ^ n) 0
    && leb x.hready 1
    && leb x.htrans 3
    && not (eqb x.htrans 1)
    && leb x.hburst 3
    && not (eqb x.hburst 2)

record Tested (n : ℕ) (x : Inputs) : Type 0 where
  masks : eqb (bit_or x.hbusreq x.hlock / 2 ^ n) 0 ≡ true
  ready : leb x.hready 1 ≡ true
  trans : leb x.htrans 3 ≡ true
  busy : not (eqb x.htrans 1) ≡ true
  burst : leb x.hburst 3 ≡ true
  built : not (eqb x.hburst 2) ≡ true

tested_of : (n : ℕ) (x : Inputs) → tests n x ≡ true → Tested n x
tested_of n x e = search (and_left, and_right) depth 9

pub valid_is : (n : ℕ) (x : Inputs) → n ≤ 16 → tests n x ≡ passes (inputs_check n x)
valid_is n x many = same_flag (tests n x) (passes (inputs_check n x)) there back
  where
    there : tests n x ≡ true → passes (inputs_check n x) ≡ true
    there e =
        let t = tested_of n x e in
        let m = or_below (2 ^ n) x.hbusreq x.hlock (within n (bit_or x.hbusreq x.hlock) (eqb-true _ 0 t.masks)) in
        let w : InputsWithin n x = record {
          requests = m.0;
          locks = m.1;
          ready = leb-true x.hready 1 t.ready;
          trans = leb-true x.htrans 3 t.trans;
          burst = leb-true x.hburst 3 t.burst;
          built = rw (not-true (eqb x.htrans 1) t.busy, not-true (eqb x.hburst 2) t.built);
        } in
        rw (inputs_pass n many x w)

    back : passes (inputs_check n x) ≡ true → tests n x ≡ true
    back e =
        let w = inputs_passed n x (good_of (inputs_check n x) e) in
        let none : bit_or x.hbusreq x.hlock / 2 ^ n ≡ 0 = div-eq_of_lt (or_lt n x.hbusreq x.hlock w.requests w.locks) in
        simp (
          eq-eqb (bit_or x.hbusreq x.hlock / 2 ^ n) 0 none,
          le-leb x.hready 1 w.ready,
          le-leb x.htrans 3 w.trans,
          or_left (eqb x.htrans 1) (eqb x.hburst 2) w.built,
          le-leb x.hburst 3 w.burst,
          or_right (eqb x.htrans 1) (eqb x.hburst 2) w.built,
        )
