-- `walk_inputs` meets its contract: one variable after the other.
use Rattle.std.proofs.Common.{rules, ◌≡◌, None}
use Rattle.scans.proofs.Walking.{then_walk, then_stray, more_stray}
use Rattle.scans.proofs.walk.walk_inputs.Goals as goal

pub returns-in_err-hbusreq : goal.returns-in_err-hbusreq
returns-in_err-hbusreq c =
    let told : c.from_residual.result ≡ None = search rules in
    rw told (more_stray c.in_err-hbusreq.ensures _ _)

pub returns-in_err-hlock : goal.returns-in_err-hlock
returns-in_err-hlock c =
    let told : c.from_residual-in_err-hlock.result ≡ None = search rules in
    rw told (then_stray c.in_ok-hbusreq.ensures (more_stray c.in_err-hlock.ensures _ _))

pub returns-in_err-hready : goal.returns-in_err-hready
returns-in_err-hready c =
    let told : c.from_residual-in_err-hready.result ≡ None = search rules in
    rw told (then_stray c.in_ok-hbusreq.ensures (then_stray c.in_ok-hlock.ensures (more_stray c.in_err-hready.ensures _ _)))

pub returns-in_err-htrans : goal.returns-in_err-htrans
returns-in_err-htrans c =
    let told : c.from_residual-in_err-htrans.result ≡ None = search rules in
    rw told (then_stray c.in_ok-hbusreq.ensures (then_stray c.in_ok-hlock.ensures (then_stray c.in_ok-hready.ensures (more_stray c.in_err-htrans.ensures _ _))))

pub returns-in_err-hburst : goal.returns-in_err-hburst
returns-in_err-hburst c =
    let told : c.from_residual-in_err-hburst.result ≡ None = search rules in
    rw told (then_stray c.in_ok-hbusreq.ensures (then_stray c.in_ok-hlock.ensures (then_stray c.in_ok-hready.ensures (then_stray c.in_ok-htrans.ensures (c.in_err-hburst.ensures)))))

pub returns : goal.returns
returns c = then_walk c.in_ok-hbusreq.ensures (then_walk c.in_ok-hlock.ensures (then_walk c.in_ok-hready.ensures (then_walk c.in_ok-htrans.ensures (c.in_ok-hburst.ensures))))
