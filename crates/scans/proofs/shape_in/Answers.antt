-- `shape_in` meets its contract: the ends of its tests.
use Rattle.std.proofs.Common.{rules, ◌≡◌, Err}
use Rattle.scans.proofs.Answers.{no_line, wrong_shape, right_shape}
use Rattle.scans.proofs.shape_in.Goals as goal

pub returns-in_err-lines : goal.returns-in_err-lines
returns-in_err-lines c =
    let told : c.from_residual.result ≡ Err c.in_err-lines.field-0.0 = search rules in
    rw told (no_line c.args.n c.args.t c.args.prev c.args.s.now c.args.next _ c.after_line.ensures _ _ c.ok_or.ensures.value c.in_err-lines.was c.in_err-lines.ensures.ok_part)

pub returns-in_err-cycle : goal.returns-in_err-cycle
returns-in_err-cycle c =
    let told : c.from_residual-in_err-cycle.result ≡ Err c.in_err-cycle.field-0.0 = search rules in
    let h = rw c.in_ok-lines.ensures.ok_part at c.after_line.ensures in
    rw told
    (wrong_shape c.args.n c.args.t c.args.prev c.args.s.now c.args.next _ h.0 h.1 _ c.changes_in.ensures _ _ c.ok_or-2.ensures.value c.in_err-cycle.was c.in_err-cycle.ensures.ok_part)

pub returns-in_err-check_line : goal.returns-in_err-check_line
returns-in_err-check_line c =
    let told : c.from_residual-in_err-check_line.result ≡ Err c.in_err-check_line.field-0.0 = search rules in
    let h = rw c.in_ok-lines.ensures.ok_part at c.after_line.ensures in
    right_shape c.args.n c.args.t c.args.prev c.args.s.now c.args.next _ h.0 h.1 _ c.changes_in.ensures _ _ _ c.in_ok-cycle.ensures.ok_part c.check_line.ensures
    (rw (told, c.in_err-check_line.was))

pub returns : goal.returns
returns c =
    let h = rw c.in_ok-lines.ensures.ok_part at c.after_line.ensures in
    right_shape c.args.n c.args.t c.args.prev c.args.s.now c.args.next _ h.0 h.1 _ c.changes_in.ensures _ _ _ c.in_ok-cycle.ensures.ok_part c.check_line.ensures
    (rw c.in_ok-check_line.was)
