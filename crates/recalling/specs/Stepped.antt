-- What a step of a dump comes to.
--
--   Stepped p rest .. == the answer of a call that takes the step which rest begins with, and the buffer afterwards
use Rattle.std.specs.Prelude.{ℕ, List, Result}
use Rattle.streams.specs.Going.{Took}
use Rattle.conversions.specs.declared.Position.{Position}
use Rattle.conversions.specs.Undumping.{undump_turn}

abbrev pub Stepped : Position → List ℕ → List ℕ → Result (Position × ℕ × ℕ) ℕ → List ℕ → Type 0
Stepped p rest buffer r left = Took (λ q. q) (λ q. Unit) (undump_turn p rest) p buffer r left
