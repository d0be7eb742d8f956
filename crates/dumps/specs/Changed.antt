-- The lines of a step, one variable at a time.
--
--   variable w k      == the variable with w bits and the code k
--   changed all x v u == the line of the variable x whose value was v and is u, or nothing
--   input_variables, output_variables == the variables of the two parts of a cycle
--   Put b at s k r c  == the bytes s, of which there are k at most, stand in c from at on and up to r; the rest is as in b
use Rattle.std.specs.Prelude.{ℕ, ◌+◌, ◌≤◌, ◌≡◌, Bool, not, ◌||◌, cond, List, [], eqb, length}
use Rattle.std.proofs.lemmas.List.Edits.{sets}
use Rattle.formats.specs.Columns.{input_columns, output_columns}
use Rattle.waves.specs.Variables.{Variable, coded, change}

abbrev pub variable : ℕ → ℕ → Variable
variable w k = record { width = w; code = k }

unfoldable pub changed : Bool → Variable → ℕ → ℕ → List ℕ
changed all x v u = cond (all || not (eqb u v)) (change x u) []

-- the first code is '!', 33; the sixth is '&'
abbrev pub input_variables : List Variable
input_variables = coded 33 input_columns

abbrev pub output_variables : List Variable
output_variables = coded 38 output_columns

-- what a function that puts lines into a lent buffer leaves there, and answers
pub record Put (b : List ℕ) (at : ℕ) (s : List ℕ) (k r : ℕ) (c : List ℕ) : Type 0 where
  pub after : r ≡ at + length s
  pub within : r ≤ at + k
  pub bytes : c ≡ sets b at s
