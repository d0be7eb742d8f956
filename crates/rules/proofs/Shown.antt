-- A cycle that the arbiter shows is valid for n, so no writer and no judge refuses it.
--
--   outputs_fit == no column of the outputs is too large
--   valid_shown == 4, 5, 6 and 7 do not apply to the cycle
use Rattle.std.specs.Prelude.{Ok}
use Prim.Native.Nat.{◌^◌, ◌≤◌, ◌<◌}
use mathlib.Core.Path.{◌≡◌}
use mathlib.Core.Bool.{Bool, false}
use native.Mathlib.Omega.{arith}
use borrow.Author.Tests.{le-ltb, lt-leb}
use lib.Dec.{ltb}
use lib.Pow.{pow-lt, pow_mono}
use Rattle.rules.specs.declared.State.{State}
use Rattle.rules.specs.declared.Inputs.{Inputs}
use Rattle.rules.specs.Valid.{inputs_too_large, inputs_not_built, inputs_absent, outputs_too_large, inputs_check, cycle_check}
use Rattle.rules.specs.State.{WellFormed}
use Rattle.rules.specs.Phase.{seen}
use Rattle.rules.specs.Step.{flag_of, shown}
use Rattle.rules.proofs.Flags.{flag_most}
use Rattle.rules.proofs.Total.{passed}

small_flag : (b : Bool) → ltb 1 (flag_of b) ≡ false
small_flag b = le-ltb 1 (flag_of b) (flag_most b)

-- d is DECIDE
module _ (s : State) (x : Inputs) (d : Bool) (sound : WellFormed s) where
  outputs_fit : outputs_too_large (shown s (seen s x) d) ≡ false
  unfolding outputs_too_large shown
  outputs_fit =
      let top : 2 ^ s.g < 2 ^ s.n = pow-lt sound.grant in
      let most : 2 ^ s.n ≤ 65536 = pow_mono sound.many in
      rw (
        le-ltb 65535 (2 ^ s.g) (omega arith),
        small_flag s.hmastlock,
        small_flag d,
        small_flag s.granted,
        small_flag (seen s x).request,
      )

  pub valid_shown : inputs_check s.n x ≡ Ok tt → cycle_check s.n (record { inputs = x; outputs = shown s (seen s x) d }) ≡ Ok tt
  unfolding cycle_check inputs_check shown
  valid_shown good =
      let p = passed (inputs_too_large x) (inputs_not_built x) (inputs_absent s.n x) false good in
      rw (
        p.value,
        outputs_fit,
        p.unbuilt,
        p.absent,
        lt-leb (2 ^ s.n) (2 ^ s.g) (pow-lt sound.grant),
        lt-leb s.n s.m sound.owner,
      )
