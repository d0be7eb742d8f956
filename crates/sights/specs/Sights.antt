-- What is seen of a step: a column that changed stands there as its line, and of another there is nothing.
--
--   variable w k  == the variable of width w with the code k
--   piece x v u   == the line of the variable x whose value was v and is u, if it changed
--   counted vs us == how many of the values vs are others in us
--   LineOf w k s u r == s begins with the line of the variable of width w with the code k and the value u, and r stands after it
--   Passed w k v s l u r m == from s, which a line of the variable of width w with the code k may begin, to r; its value was v and is u;
--                      l lines stood before s, and m before r
--   InputsPassed x s l y r m, OutputsPassed x s l y r m == the same over the columns of a stimulus, and over those that a trace line adds
use Rattle.std.specs.Prelude.{◌≡◌, ℕ, ◌+◌, false, cond, not, List, [], ◌∷◌, ◌++◌, ◌==◌}
use Rattle.rules.specs.declared.Inputs.{Inputs}
use Rattle.rules.specs.declared.Outputs.{Outputs}
use Rattle.formats.specs.Columns.{input_columns, output_columns, input_values, output_values}
use Rattle.waves.specs.Variables.{Variable, coded, change}
use Rattle.waves.specs.Steps.{changes}

abbrev pub variable : ℕ → ℕ → Variable
variable w k = record { width = w; code = k }

unfoldable pub piece : Variable → ℕ → ℕ → List ℕ
piece x v u = cond (not (u == v)) (change x u) []

abbrev pub counted : List ℕ → List ℕ → ℕ
counted [] us = 0
counted (v ∷ vs) [] = 0
counted (v ∷ vs) (u ∷ us) = cond (not (u == v)) 1 0 + counted vs us

abbrev pub LineOf : ℕ → ℕ → List ℕ → ℕ → List ℕ → Type 0
LineOf w k s u r = s ≡ change (variable w k) u ++ r

pub record Passed (w k v : ℕ) (s : List ℕ) (l u : ℕ) (r : List ℕ) (m : ℕ) : Type 0 where
  pub bytes : s ≡ piece (variable w k) v u ++ r
  pub lines : m ≡ l + counted (v ∷ []) (u ∷ [])

pub record InputsPassed (x : Inputs) (s : List ℕ) (l : ℕ) (y : Inputs) (r : List ℕ) (m : ℕ) : Type 0 where
  pub bytes : (xs : List Variable) (vs us t : List ℕ) → r ≡ changes false xs vs us ++ t
      → s ≡ changes false (coded 33 input_columns ++ xs) (input_values x ++ vs) (input_values y ++ us) ++ t
  pub lines : m ≡ l + counted (input_values x) (input_values y)

pub record OutputsPassed (x : Outputs) (s : List ℕ) (l : ℕ) (y : Outputs) (r : List ℕ) (m : ℕ) : Type 0 where
  pub bytes : s ≡ changes false (coded 38 output_columns) (output_values x) (output_values y) ++ r
  pub lines : m ≡ l + counted (output_values x) (output_values y)
