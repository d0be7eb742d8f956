-- Masks of masters: four hex digits in a line, a number in a record; master i is bit i.
--
--   high m i         == the bit of master i is 1 in the mask m
--   some_high m      == some master's bit is 1
--   single i         == the mask with the single bit i
--   names_absent n m == m names a master not below n
use Rattle.std.specs.Prelude.{ℕ, ◌/◌, ◌%◌, ◌^◌, Bool, not, eqb, leb}

unfoldable pub high : ℕ → ℕ → Bool
high m i = eqb (m / 2 ^ i % 2) 1

-- a mask is 0 exactly when no bit of it is 1 (laws `high_of_zero` and `some_is_high`)
abbrev pub some_high : ℕ → Bool
some_high m = not (eqb m 0)

abbrev pub single : ℕ → ℕ
single i = 2 ^ i

-- a mask below 2 ^ n has no bit from n on, and one from 2 ^ n on has some (laws `high_below` and `absent_is_high`)
abbrev pub names_absent : ℕ → ℕ → Bool
names_absent n m = leb (2 ^ n) m
