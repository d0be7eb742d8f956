-- The digits of a time in one number.
--
--   six_of u v w x y z  == six digits, a byte each, from the second byte on
use Rattle.std.specs.Prelude.{ℕ, ◌+◌, ◌*◌}

abbrev pub six_of : ℕ → ℕ → ℕ → ℕ → ℕ → ℕ → ℕ
six_of u v w x y z = u * 256 + v * 65536 + w * 16777216 + x * 4294967296 + y * 1099511627776 + z * 281474976710656
