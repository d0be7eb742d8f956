-- `go` meets its contract: the trace line has room, there is one cycle more, and its lines are counted.
use native.Mathlib.Omega.{arith}
use Rattle.recalling.proofs.Taken.{sound, stepped}
use Rattle.recalling.proofs.steps.go.Goals as goal

pub put_cycle-requires : goal.put_cycle-requires
put_cycle-requires c = let k = sound c.args.p c.args.rest.now c.args.c c.args.next c.requires.0 c.requires.1 in
    (c.requires.3, k.inputs, k.outputs)

pub overflow_add-position : goal.overflow_add-position
overflow_add-position c = let k = sound c.args.p c.args.rest.now c.args.c c.args.next c.requires.0 c.requires.1 in
    omega (arith, k.count)

pub overflow_add-position-2 : goal.overflow_add-position-2
overflow_add-position-2 c = let k = sound c.args.p c.args.rest.now c.args.c c.args.next c.requires.0 c.requires.1 in
    omega (arith, k.line, c.requires.2)

pub returns : goal.returns
returns c = stepped c.args.p c.args.rest.now c.args.out.now c.args.c c.args.next c.args.lines _ c.requires.1 c.requires.2 c.requires.3 c.put_cycle.ensures
