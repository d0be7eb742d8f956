-- `run` meets its contract: each turn that goes on is one way further, and the one that does not is the end.
use Rattle.std.proofs.Common.{◌<◌, length, arith}
use Rattle.console.specs.Going.{still, further}
use Rattle.console.proofs.Onwards.{onward, closed, nearer}
use Rattle.console.proofs.program.run.Goals as goal

pub loop-next-init : goal.loop-next-init
loop-next-init g c = record { formed = c.requires.formed; size = omega arith; way = still }

pub loop-next-smaller : goal.loop-next-smaller
loop-next-smaller g c =
    let p = g.P.Program in
    let i = c.loop-next.invariant in
    let h : p.rest < length c.loop-next.block = omega (arith, c.requires.held.more) in
    let h' : p.rest < length c.turn.new.block = omega (arith, c.requires.held.more) in
    (nearer g.met.P.Program.laws _ _ _ _ _ _ h h' i.size i.formed c.in-Ok.ensures).2

pub loop-next-preserved : goal.loop-next-preserved
loop-next-preserved g c =
    let p = g.P.Program in
    let i = c.loop-next.invariant in
    let h : p.rest < length c.loop-next.block = omega (arith, c.requires.held.more) in
    let h' : p.rest < length c.turn.new.block = omega (arith, c.requires.held.more) in
    let n = nearer g.met.P.Program.laws _ _ _ _ _ _ h h' i.size i.formed c.in-Ok.ensures in
    record { formed = n.0; size = n.1; way = further i.way (onward c.in-Ok.ensures) }

pub returns-in-Err : goal.returns-in-Err
returns-in-Err g c =
    record {
      at = c.loop-next.kept;
      kept = _;
      way = c.loop-next.invariant.way;
      end = closed c.in-Err.ensures;
    }
