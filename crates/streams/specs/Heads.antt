-- How much of its input a program reads before it tells what header it has.
--
--   head_size w s       == the bytes of a header of the word w
use Rattle.std.specs.Prelude.{ℕ, ◌+◌, cond, List, eqb, length, get_or}
use Rattle.formats.specs.declared.Word.{Word}
use Rattle.formats.specs.Digits.{lf}
use Rattle.formats.specs.Headers.{prefix}

-- a header with n in one digit, and one byte more where no LF stands after that digit
unfoldable pub head_size : Word → List ℕ → ℕ
head_size w s =
    cond (eqb (get_or s (length (prefix w) + 1) 0) lf) (length (prefix w) + 2) (length (prefix w) + 3)
