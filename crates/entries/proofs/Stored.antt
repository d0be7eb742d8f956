-- A judge, written as its bytes, over plain lists.
--
--   flag_is    == a flag as a byte
--   lost_is    == the low bytes of the lost counts are the counts
--   all_stored == the four parts, one behind the other, are the bytes of a judge
use Prim.Native.Nat.{ℕ, ◌%◌, ◌<◌}
use mathlib.Core.Path.{◌≡◌, refl}
use mathlib.Core.Bool.{Bool, true, false}
use mathlib.Core.List.{List, [], ◌++◌, append-nil}
use native.Mathlib.Omega.{arith}
use borrow.Rule.Slice.PartMut.{post_of, put_mid}
use lib.ListN.{length, get_or, drop, drop_of_length-le}
use lib.Seq.{drop-drop}
use Rattle.std.specs.Int.{from_bool}
use Rattle.std.proofs.lemmas.Grind.{same_number_lists}
use Rattle.rules.specs.Step.{flag_of}
use Rattle.rulebook.specs.declared.Judge.{Judge}
use Rattle.docketing.specs.Bytes.{head_of, head_bytes, input_bytes, output_bytes, cycle_bytes, judge_bytes}
use Rattle.docketing.specs.Fits.{Low}

pub flag_is : (b : Bool) → from_bool b ≡ flag_of b
flag_is true = refl
flag_is false = refl

pub lost_is : (lost bytes : List ℕ) → Low lost → length bytes ≡ 16 → ((k : ℕ) → k < 16 → get_or bytes k 0 ≡ get_or lost k 0 % 256) → bytes ≡ lost
lost_is lost bytes low size each =
    same_number_lists bytes lost (omega (arith, low.size)) (λ k h. omega (arith, low.below k, each k (omega arith)))

pub all_stored : (j : Judge) (b head x o lost : List ℕ) → length b ≡ 42
    → head ≡ head_bytes j → x ≡ input_bytes j.previous.inputs → o ≡ output_bytes j.previous.outputs → lost ≡ j.lost
    → put_mid 26 16 (put_mid 19 7 (put_mid 12 7 (head ++ post_of 0 12 b) x) o) lost ≡ judge_bytes j
unfolding judge_bytes head_of cycle_bytes input_bytes output_bytes
all_stored j b head x o lost size eh ex eo el =
    let none : drop 42 b ≡ [] = drop_of_length-le b {i = 42} (omega arith) in
    rw (eh, ex, eo, el) (simp (drop-drop, none, append-nil))
