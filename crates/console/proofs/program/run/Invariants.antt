-- `run` ends: with each turn that goes on there are fewer lines or steps to come, or the bytes that are kept have become more. The buffers keep
-- their lengths.
use Rattle.std.proofs.Common.{◌+◌, ◌*◌, ◌-◌, ◌≤◌, take, []}
use Rattle.rules.specs.Codes.{most_cycles}
use Rattle.console.specs.Going.{Onwards}
use Rattle.console.proofs.program.run.Given as goal

abbrev pub invariant-loop-next : goal.invariant-loop-next
invariant-loop-next g l =
    let p = g.P.Program in
    record {
      formed : p.formed l.kept;
      size : l.size ≤ p.rest;
      way : Onwards p.turn p.parts l.initial.kept [] l.kept (take l.size l.block);
    }

abbrev pub decreases-loop-next : goal.decreases-loop-next
decreases-loop-next g l = let p = g.P.Program in (most_cycles - p.count l.kept) * (p.rest + 1) + (p.rest - l.size)
