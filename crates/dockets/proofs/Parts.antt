-- The judge that bytes are, and its lost counts.
--
--   lost_read == the last sixteen of 42 bytes, each as a number
--   judge_seen, none_seen == the first 42 bytes h are those of the judge j, or of none
use Prim.Native.Nat.{ℕ, ◌-◌, ◌<◌}
use Rattle.std.specs.Prelude.{Some, None}
use mathlib.Core.Path.{◌≡◌, refl, sym, ap, ◌∙◌}
use mathlib.Core.Bool.{true, false}
use mathlib.Core.List.{List}
use native.Mathlib.Omega.{arith}
use lib.ListN.{length, get_or, take, drop, length-drop}
use lib.Seq.{take_all}
use Rattle.std.proofs.lemmas.Grind.{same_number_lists}
use Rattle.rulebook.specs.declared.Judge.{Judge}
use Rattle.docketing.specs.Bytes.{is_judge, judge_in, bytes_judge}
use Rattle.docketing.proofs.Bytes.{first_judge}

pub lost_read : (b counts lost : List ℕ) → length b ≡ 42 → counts ≡ drop (length b - 16) b → length lost ≡ 16
    → ((k : ℕ) → k < 16 → get_or lost k 0 ≡ get_or counts k 0) → lost ≡ take 16 (drop 26 b)
lost_read b counts lost size is long each =
    let from : drop (length b - 16) b ≡ drop 26 b = rw size refl in
    let last : counts ≡ drop 26 b = is ∙ from in
    let all : length counts ≡ 16 = rw last (omega (arith, length-drop 26 b)) in
    same_number_lists lost counts (omega arith) (λ k h. each k (omega arith)) ∙ last ∙ sym (take_all 16 (drop 26 b) (omega (arith, length-drop 26 b)))

module _ (b h : List ℕ) where
  pub judge_seen : (j : Judge) → h ≡ take 42 b → is_judge h ≡ true → j ≡ judge_in h → Some j ≡ bytes_judge b
  unfolding bytes_judge
  judge_seen j first t is =
      let seen : bytes_judge h ≡ Some (judge_in h) = rw t refl in
      rw is (sym seen ∙ ap bytes_judge first ∙ first_judge b)

  pub none_seen : h ≡ take 42 b → is_judge h ≡ false → None ≡ bytes_judge b
  unfolding bytes_judge
  none_seen first f =
      let seen : bytes_judge h ≡ None = rw f refl in
      sym seen ∙ ap bytes_judge first ∙ first_judge b
