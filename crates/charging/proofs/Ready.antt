-- What a well-formed judge below the count limit and a valid cycle give to the judge's sums and masks.
--
--   fits_of  == a cycle that is valid for n is small enough
--   low_of   == lost counts that pass their test are small
--   ready_of == the judge may take the cycle
use Rattle.std.specs.Prelude.{Ok}
use Prim.Native.Nat.{ℕ, ◌≤◌, ◌<◌}
use mathlib.Core.Path.{◌≡◌}
use mathlib.Core.Bool.{true, false, not, ◌&&◌}
use mathlib.Core.List.{List}
use native.Mathlib.Omega.{arith}
use borrow.Author.Tests.{ltb-true, ltb-false, leb-true, leb-false, not-true}
use lib.Dec.{eqb, ltb, leb}
use lib.ListN.{get_or}
use Rattle.rules.specs.declared.Cycle.{Cycle}
use Rattle.rules.specs.Codes.{most_cycles}
use Rattle.rules.specs.Valid.{inputs_too_large, outputs_too_large, cycle_check}
use Rattle.rules.proofs.Choice.{and_left, and_right, or_left, or_right}
use Rattle.rules.proofs.Total.{cycle_passed}
use Rattle.rulebook.specs.declared.Judge.{Judge}
use Rattle.rulebook.specs.Columns.{some_below}
use Rattle.rulebook.specs.State.{is_good, wrong_count, counts_ok, well_formed}
use Rattle.rulebook.proofs.Counts.{none_below}
use Rattle.rulebook.proofs.WellFormed.{good_is}
use Rattle.keeping.specs.Room.{Low}
use Rattle.charging.specs.Ready.{Fits, Ready}

pub fits_of : (n : ℕ) (c : Cycle) → n ≤ 16 → cycle_check n c ≡ Ok tt → Fits c
unfolding inputs_too_large outputs_too_large
fits_of n c few e =
    let p = cycle_passed n c e in
    let v = p.value in
    let lock : ltb 65535 c.inputs.hlock ≡ false = search (or_left, or_right) depth 9 in
    let grant : ltb 65535 c.outputs.hgrant ≡ false = search (or_left, or_right) depth 9 in
    let l = ltb-false 65535 c.inputs.hlock lock in
    let g = ltb-false 65535 c.outputs.hgrant grant in
    let o = leb-false n c.outputs.hmaster p.owner in
    record { hlock = omega arith; hgrant = omega arith; hmaster = omega arith }

pub low_of : (n : ℕ) (l : List ℕ) → n ≤ 16 → counts_ok n l ≡ true → Low l
unfolding counts_ok
low_of n l few e =
    record {
      below = λ i h.
          let w = none_below 16 (wrong_count n l) (not-true (some_below 16 (wrong_count n l)) e) i h in
          let b = leb-false n (get_or l i 0) (or_left (leb n (get_or l i 0)) (leb n i && not (eqb (get_or l i 0) 0)) w) in
          omega arith;
    }

pub ready_of : (j : Judge) (c : Cycle) → well_formed j ≡ true → j.count < most_cycles → cycle_check j.n c ≡ Ok tt → Ready j c
unfolding well_formed
ready_of j c e room good =
    let many : leb j.n 16 ≡ true = search (and_left, and_right) depth 12 in
    let previous : is_good (cycle_check j.n j.previous) ≡ true = search (and_left, and_right) depth 12 in
    let locked : ltb j.locked 1024 ≡ true = search (and_left, and_right) depth 12 in
    let waited : ltb j.waited 17 ≡ true = search (and_left, and_right) depth 12 in
    let lost : counts_ok j.n j.lost ≡ true = search (and_left, and_right) depth 12 in
    let few = leb-true j.n 16 many in
    record {
      room = record {
        count = room;
        locked = ltb-true j.locked 1024 locked;
        waited = ltb-true j.waited 17 waited;
        lost = low_of j.n j.lost few lost;
      };
      previous = fits_of j.n j.previous few (good_is (cycle_check j.n j.previous) previous);
      cycle = fits_of j.n c few good;
    }
