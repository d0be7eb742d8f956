-- The answer of a step with its charges as one number.
--
--   ruled_of a    == the answer a with its charges so: bit i is that of the i-th rule, in the order of the report
use Rattle.rulebook.specs.declared.Judgement.{Judgement}
use Rattle.rulebook.specs.Named.{mask_of}
use Rattle.judging.specs.declared.Ruled.{Ruled}

abbrev pub ruled_of : Judgement → Ruled
ruled_of a = record { judge = a.judge; verdict = a.verdict; mask = mask_of a.charged }
