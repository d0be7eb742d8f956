-- `go_on` meets its contract: what is taken has room for what it comes to, and the rest is kept.
use Rattle.console.proofs.Onwards.{fits}
use Rattle.console.proofs.program.go_on.Goals as goal

pub take-requires-clause-room : goal.take-requires-clause-room
take-requires-clause-room g c =
    rw c.first-2.ensures (fits c.cut-whole.result c.args.block.now _ _ _ g.met.P.Program.laws.some c.requires.held.lent)
