-- The digits of a time, read one by one.
--
--   Counting s v i == s begins with `#` and the digits of the number v, which is not 0, and i is the position after them
use Rattle.std.specs.Prelude.{◌≡◌, ℕ, ◌-◌, ◌^◌, ◌<◌, ◌≤◌, List, ◌++◌, take, drop, slice_index}
use Rattle.formats.specs.Digits.{decimal_before}

pub record Counting (s : List ℕ) (v i : ℕ) : Type 0 where
  pub opens : slice_index s 0 ≡ 35
  pub from : 2 ≤ i
  pub near : i ≤ 8
  pub some : 0 < v
  pub small : v < 10 ^ (i - 1)
  pub few : v < 10000000
  pub text : (j : ℕ) (l : List ℕ) → i - 1 ≤ j → decimal_before j v l ≡ take (i - 1) (drop 1 s) ++ l
