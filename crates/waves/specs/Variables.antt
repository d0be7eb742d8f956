-- "one variable for each of the eleven columns with its width": the table of formats, with a code for each column.
--
--   variables  == the width and the code of each column, in column order
--   bits w v   == the number v in w bits, the highest first
--   change x v == the line of the variable x with the value v
--   size_of x  == the bytes of such a line
use Rattle.std.specs.Prelude.{ℕ, zero, suc, ◌+◌, ◌/◌, ◌%◌, ◌^◌, cond, List, [], ◌∷◌, ◌++◌, eqb}
use Rattle.formats.specs.Digits.{lf}
use Rattle.formats.specs.Columns.{Column, cycle_columns}

pub record Variable : Type 0 where
  pub width : ℕ
  pub code : ℕ

-- codes from k on, one for each column
abbrev pub coded : ℕ → List Column → List Variable
coded k [] = []
coded k (c ∷ cs) = record { width = c.bits; code = k } ∷ coded (suc k) cs

-- '!' is 33; the last, '+', is 43
abbrev pub variables : List Variable
variables = coded 33 cycle_columns

abbrev pub space : ℕ
space = 32

-- '0' is 48 and '1' is 49
abbrev pub bits : ℕ → ℕ → List ℕ
bits zero v = []
bits (suc w) v = (48 + v / 2 ^ w % 2) ∷ bits w v

-- `0!` or `1!` for one bit; `b`, every bit, one space and the code for the others. 'b' is 98
unfoldable pub change : Variable → ℕ → List ℕ
change x v =
    cond (eqb x.width 1)
    (bits x.width v ++ (x.code ∷ lf ∷ []))
    (98 ∷ (bits x.width v ++ (space ∷ x.code ∷ lf ∷ [])))

unfoldable pub size_of : Variable → ℕ
size_of x = cond (eqb x.width 1) (x.width + 2) (x.width + 4)
