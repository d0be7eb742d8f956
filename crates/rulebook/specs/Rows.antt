-- The finite readings of A1 and A2, over rows of any length. Each is proved in proofs/Readings.antt by a law of its name, in lower case with underscores.
--
--   A1InARow, A2InARow == of a row of cycles that all count, after a history whose newest cycle does not, the rule is broken at the row's
--                         last cycle exactly if the row has as many cycles as the page says, or twice as many, and so on
use Rattle.std.specs.Prelude.{ℕ, suc, ◌*◌, ◌≡◌, ◌↔◌, Bool, true, false, List, ◌++◌, length}
use Rattle.rules.specs.declared.Cycle.{Cycle}
use Rattle.rulebook.specs.declared.Rule.{Rule}
use Rattle.rulebook.specs.declared.Rule.TheVariants.{A1, A2}
use Rattle.rulebook.specs.Traces.{always, all}
use Rattle.rulebook.specs.Rules.{locked_incr, waits, broken}

-- a history has its newest cycle first, so the row l stands before what came earlier
abbrev pub InARow : Rule → (Cycle → Bool) → ℕ → Type 0
InARow r f k =
    (n : ℕ) (l h : List Cycle) → all f l ≡ true → always f h ≡ false
    → (broken n r (l ++ h) ≡ true) ↔ ((m : ℕ) × (length l ≡ suc m * k))

-- "A1 (finite reading): 1,024 cycles in a row with HMASTLOCK, HBURST INCR and owner's request high. Charged at the last; the run restarts at 0."
abbrev pub A1InARow : Type 0
A1InARow = InARow A1 locked_incr 1024

-- "A2 (finite reading): 17 cycles in a row with HREADY low; likewise."
abbrev pub A2InARow : Type 0
A2InARow = InARow A2 waits 17
