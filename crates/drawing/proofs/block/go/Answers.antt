-- `go` meets its contract: the step is written, and no count wraps.
use native.Mathlib.Omega.{arith}
use Rattle.conversions.proofs.Positions.{facts_of}
use Rattle.drawing.proofs.block.go.Goals as goal

pub overflow_add-position-2 : goal.overflow_add-position-2
overflow_add-position-2 c = let p = c.requires in omega (arith, (facts_of _ p.0).lines, p.1)
