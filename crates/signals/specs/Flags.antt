-- Flags as plain numbers.
--
--   Stands x b       == the number x stands for the flag b: 1 where it is true, and 0 where it is false
use Rattle.std.specs.Prelude.{ℕ, ◌≡◌, Bool}
use Rattle.rules.specs.Step.{flag_of}

pub record Stands (x : ℕ) (b : Bool) : Type 0 where
  pub is : x ≡ flag_of b
