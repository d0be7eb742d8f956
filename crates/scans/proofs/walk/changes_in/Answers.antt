-- `changes_in` meets its contract: one part after the other, and nothing after them.
use Rattle.std.proofs.Common.{rules, ◌≡◌, None}
use Rattle.scans.proofs.Walking.{no_inputs, no_outputs, shape_is, cycle_is}
use Rattle.scans.proofs.walk.changes_in.Goals as goal

pub returns-in_err-inputs : goal.returns-in_err-inputs
returns-in_err-inputs c =
    let told : c.from_residual.result ≡ None = search rules in
    rw told (no_inputs c.args.all c.args.prev c.args.s.now c.in_err-inputs.ensures)

pub returns-in_err-outputs : goal.returns-in_err-outputs
returns-in_err-outputs c =
    let told : c.from_residual-in_err-outputs.result ≡ None = search rules in
    rw told (no_outputs c.args.all c.args.prev c.args.s.now _ _ c.in_ok-inputs.ensures c.in_err-outputs.ensures)

pub returns-then-is_empty : goal.returns-then-is_empty
returns-then-is_empty c = (
  shape_is c.args.all c.args.prev c.args.s.now _ _ c.in_ok-inputs.ensures _ _ c.in_ok-outputs.ensures _ c.if-is_empty.ensures,
  cycle_is c.args.all c.args.prev c.args.s.now _ _ c.in_ok-inputs.ensures _ _ c.in_ok-outputs.ensures,
)

pub returns-else-is_empty : goal.returns-else-is_empty
returns-else-is_empty c =
    shape_is c.args.all c.args.prev c.args.s.now _ _ c.in_ok-inputs.ensures _ _ c.in_ok-outputs.ensures _ c.if-is_empty.ensures
