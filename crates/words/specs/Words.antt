-- A number in bytes, low byte first.
--
--   low_first w v    == the number v in w bytes
--   number_low w b p == the number that the w bytes of b at p write so
use Rattle.std.specs.Prelude.{ℕ, zero, suc, ◌+◌, ◌*◌, ◌/◌, ◌%◌, List, [], ◌∷◌, get_or}

abbrev pub low_first : ℕ → ℕ → List ℕ
low_first zero v = []
low_first (suc w) v = v % 256 ∷ low_first w (v / 256)

abbrev pub number_low : ℕ → List ℕ → ℕ → ℕ
number_low zero b p = 0
number_low (suc w) b p = get_or b p 0 + 256 * number_low w b (p + 1)
