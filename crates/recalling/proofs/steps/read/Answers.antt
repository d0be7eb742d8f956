-- `read` meets its contract: the step is taken, or it is refused, or there is none.
use Rattle.std.proofs.Common.{Ok}
use native.Mathlib.Omega.{arith}
use lib.Seq.{length-take-le}
use mathlib.Core.Path.{sym, ◌∙◌, ap}
use Rattle.recalling.proofs.Taken.{read_as, sound, stepped_out, stepped_none}
use Rattle.recalling.proofs.steps.read.Goals as goal

pub slice_bounds-lines_in-end : goal.slice_bounds-lines_in-end
slice_bounds-lines_in-end c = let k = sound c.args.p c.args.rest.now _ _ c.requires.0 (read_as c.args.p c.args.rest.now c.read_step.result c.read_step.ensures c.args.out.now _ (c.in-Ok-Some.is ∙ ap Ok c.in-Ok-Some.field-0-is)) in
    sym (length-take-le _ c.args.rest.now k.inside)

pub lines_in-requires : goal.lines_in-requires
lines_in-requires c = let k = sound c.args.p c.args.rest.now _ _ c.requires.0 (read_as c.args.p c.args.rest.now c.read_step.result c.read_step.ensures c.args.out.now _ (c.in-Ok-Some.is ∙ ap Ok c.in-Ok-Some.field-0-is)) in
    omega (arith, k.most, length-take-le _ c.args.rest.now k.inside)

pub returns-in-Ok-None : goal.returns-in-Ok-None
returns-in-Ok-None c = stepped_none c.args.p c.args.rest.now c.read_step.result c.read_step.ensures c.args.out.now (c.in-Ok-None.is ∙ ap Ok c.in-Ok-None.field-0-is)

pub returns-in-Err : goal.returns-in-Err
returns-in-Err c = stepped_out c.args.p c.args.rest.now c.read_step.result c.read_step.ensures c.args.out.now _ _ _ c.in-Err.is c.put_refused.ensures
