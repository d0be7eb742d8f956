-- A line of a word and numbers in decimal.
--
--   numbers_text ns      == the numbers, with a byte after each
--   numbers_line word ns == the word before them
use Rattle.std.specs.Prelude.{ℕ, List, [], ◌∷◌, ◌++◌}
use Rattle.formats.specs.Digits.{decimal}

abbrev pub numbers_text : List (ℕ × ℕ) → List ℕ
numbers_text [] = []
numbers_text (p ∷ ps) = decimal p.0 ++ (p.1 ∷ numbers_text ps)

abbrev pub numbers_line : List ℕ → List (ℕ × ℕ) → List ℕ
numbers_line word ps = word ++ numbers_text ps
