-- `begin` meets its contract: what the header comes to, and the run after one that is accepted.
use Rattle.console.specs.Ran.{unwritten}
use Rattle.console.proofs.Begun.{begun_by, refused_by, begun_formed, not_given}
use Rattle.console.proofs.program.begin.Goals as goal

pub run-requires-clause-formed : goal.run-requires-clause-formed
run-requires-clause-formed g c = begun_formed g.met.P.Program.laws _ _ _ c.in-Ok.ensures

pub returns-in-Ok-give : goal.returns-in-Ok-give
returns-in-Ok-give g c = rw c.first.ensures at (begun_by _ _ _ _ c.in-Ok.ensures c.run.ensures)

pub returns-in-Err-give : goal.returns-in-Err-give
returns-in-Err-give g c = unwritten (not_given _ c.in-Err-give.ensures)

pub returns-in-Ok-give-2 : goal.returns-in-Ok-give-2
returns-in-Ok-give-2 g c = let p = g.P.Program in rw c.first.ensures at (refused_by {breaches = p.breaches} {turn = p.turn} {Cut = p.parts} _ _ c.in-Err.ensures)

pub returns-in-Err-give-2 : goal.returns-in-Err-give-2
returns-in-Err-give-2 g c = unwritten (not_given _ c.in-Err-give-2.ensures)
