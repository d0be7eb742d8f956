-- A program that goes through a whole file, one line a turn.
--
--   one_line   == a line at the front of the input is taken by one turn
--   lines_long == a line has bytes, so there are no more lines than bytes
--   file_fuel  == so a program has a turn for each line of a file, and one more, whatever comes after them
use Prim.Native.Nat.{ℕ, suc, ◌≤◌, ◌<◌}
use mathlib.Core.Path.{◌≡◌}
use mathlib.Core.List.{List, [], ◌∷◌, ◌++◌}
use native.Mathlib.Omega.{arith}
use lib.ListN.{length, length-append}
use lib.Seq.{drop-append_seam}
use Rattle.formats.specs.Files.{lines_of}
use Rattle.streams.specs.Streams.{Turn, goes, written}

pub one_line : {S : Type 0} (turn : S → List ℕ → Turn S) (k : ℕ) (s t : S) (line rest bytes : List ℕ)
    → turn s (line ++ rest) ≡ goes bytes t (length line)
    → written turn (suc k) s (line ++ rest) ≡ bytes ++ written turn k t rest
unfolding written
one_line turn k s t line rest bytes e = rw (e, drop-append_seam line rest)

module _ {A : Type 0} (line : A → List ℕ) (some : (a : A) → 1 ≤ length (line a)) where
  lines_long : (l : List A) → length l ≤ length (lines_of line l)
  unfolding lines_of
  lines_long [] = omega arith
  lines_long (a ∷ l) = omega (arith, length-append (line a) (lines_of line l), some a, lines_long l)

  pub file_fuel : (head : List ℕ) (l : List A) (rest : List ℕ) → length l < suc (length (head ++ (lines_of line l ++ rest)))
  file_fuel head l rest =
      omega (arith, lines_long l, length-append head (lines_of line l ++ rest), length-append (lines_of line l) rest)
