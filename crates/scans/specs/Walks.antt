-- The walk over the lines of a step, from the text s to the text t, what is left of it.
--
--   variable w k == the variable of width w with the code k
--   Walk all ys ws us s t == the lines of the variables ys stand in s as they should, and t is left; their values were ws and are us
--   Stray all ys ws s     == they do not, whatever variables come after them
use Rattle.std.specs.Prelude.{ℕ, ◌≡◌, Bool, false, List, ◌++◌}
use Rattle.waves.specs.Variables.{Variable}
use Rattle.waves.specs.Reading.{shaped, values_in}

abbrev pub variable : ℕ → ℕ → Variable
variable w k = record { width = w; code = k }

pub record Walk (all : Bool) (ys : List Variable) (ws us s t : List ℕ) : Type 0 where
  pub shape : (xs : List Variable) (vs : List ℕ) → shaped all (ys ++ xs) (ws ++ vs) s ≡ shaped all xs vs t
  pub values : (xs : List Variable) (vs : List ℕ) → values_in (ys ++ xs) (ws ++ vs) s ≡ us ++ values_in xs vs t

pub record Stray (all : Bool) (ys : List Variable) (ws s : List ℕ) : Type 0 where
  pub shape : (xs : List Variable) (vs : List ℕ) → shaped all (ys ++ xs) (ws ++ vs) s ≡ false
