-- The charges of a cycle as one number: its bits are those of the rules, in the order of the report.
--
--   mask_of l    == the number whose binary digits are the flags l, lowest first
--   flags_in k m == the k lowest binary digits of the number m as flags, lowest first
--   named_by m l == of the rules l, those whose digit is 1 in the number m, the first rule's digit being the lowest
use Rattle.std.specs.Prelude.{ℕ, zero, suc, ◌+◌, ◌*◌, ◌/◌, ◌%◌, Bool, cond, List, [], ◌∷◌, eqb}
use Rattle.rules.specs.Step.{flag_of}
use Rattle.rulebook.specs.declared.Rule.{Rule}

unfoldable pub mask_of : List Bool → ℕ
mask_of [] = 0
mask_of (b ∷ l) = flag_of b + 2 * mask_of l

unfoldable pub flags_in : ℕ → ℕ → List Bool
flags_in zero m = []
flags_in (suc k) m = eqb (m % 2) 1 ∷ flags_in k (m / 2)

unfoldable pub named_by : ℕ → List Rule → List Rule
named_by m [] = []
named_by m (r ∷ l) = cond (eqb (m % 2) 1) (r ∷ named_by (m / 2) l) (named_by (m / 2) l)
