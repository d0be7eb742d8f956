-- `starts_with` meets its contract. Invariant: the bytes passed are the same.
use Rattle.std.proofs.Common.{◌≡◌}
use Rattle.formats.specs.Headers.{same_to}
use Rattle.fields.proofs.text.starts_with.Given as goal

abbrev pub invariant-loop-i : goal.invariant-loop-i
invariant-loop-i l = l.same ≡ same_to l.i l.s l.w
