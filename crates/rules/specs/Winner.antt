-- The first requester met walking g+1, g+2, .. around and ending at g itself.
--
--   next n i     == the master after i, with 0 after n - 1
--   walk n m k i == the first of k masters, from i on, whose bit is 1 in the mask m
--   winner n g m == the first of all n masters from the one after g on
use Rattle.std.specs.Prelude.{ℕ, zero, suc, ◌+◌, cond, ltb, None, Some}
use Rattle.rules.specs.Results.{Found}
use Rattle.rules.specs.Masks.{high}

unfoldable pub next : ℕ → ℕ → ℕ
next n i = cond (ltb (i + 1) n) (i + 1) 0

-- "The walk stops at the first hit and yields its number."
unfoldable pub walk : ℕ → ℕ → ℕ → ℕ → Found
walk n m zero i = None
walk n m (suc k) i = cond (high m i) (Some i) (walk n m k (next n i))

-- n masters from the one after g on: the last of them is g itself
unfoldable pub winner : ℕ → ℕ → ℕ → Found
winner n g m = walk n m n (next n g)
