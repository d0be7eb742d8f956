-- What the judge answers beside its state.
--
--   Verdict == the cycle was taken, or why it was refused
use Rattle.std.specs.Prelude.{Result}
use Rattle.rules.specs.declared.Refusal.{Refusal}

abbrev pub Verdict : Type 0
Verdict = Result Unit Refusal
