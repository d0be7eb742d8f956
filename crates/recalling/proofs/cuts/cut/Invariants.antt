-- `cut` meets its contract. The loop's invariant: in the last bytes, which are to be kept, no step ends.
use Rattle.recalling.proofs.Places.{NoneIn}
use Rattle.recalling.proofs.cuts.cut.Given as goal

abbrev pub invariant-loop-kept : goal.invariant-loop-kept
invariant-loop-kept l = NoneIn l.s l.kept
