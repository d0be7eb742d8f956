-- `walk_outputs` meets its contract: one variable after the other.
use Rattle.std.proofs.Common.{rules, ◌≡◌, None}
use Rattle.scans.proofs.Walking.{then_walk, then_stray, more_stray}
use Rattle.scans.proofs.walk.walk_outputs.Goals as goal

pub returns-in_err-hgrant : goal.returns-in_err-hgrant
returns-in_err-hgrant c =
    let told : c.from_residual.result ≡ None = search rules in
    rw told (more_stray c.in_err-hgrant.ensures _ _)

pub returns-in_err-hmaster : goal.returns-in_err-hmaster
returns-in_err-hmaster c =
    let told : c.from_residual-in_err-hmaster.result ≡ None = search rules in
    rw told (then_stray c.in_ok-hgrant.ensures (more_stray c.in_err-hmaster.ensures _ _))

pub returns-in_err-hmastlock : goal.returns-in_err-hmastlock
returns-in_err-hmastlock c =
    let told : c.from_residual-in_err-hmastlock.result ≡ None = search rules in
    rw told (then_stray c.in_ok-hgrant.ensures (then_stray c.in_ok-hmaster.ensures (more_stray c.in_err-hmastlock.ensures _ _)))

pub returns-in_err-decide : goal.returns-in_err-decide
returns-in_err-decide c =
    let told : c.from_residual-in_err-decide.result ≡ None = search rules in
    rw told (then_stray c.in_ok-hgrant.ensures (then_stray c.in_ok-hmaster.ensures (then_stray c.in_ok-hmastlock.ensures (more_stray c.in_err-decide.ensures _ _))))

pub returns-in_err-granted : goal.returns-in_err-granted
returns-in_err-granted c =
    let told : c.from_residual-in_err-granted.result ≡ None = search rules in
    rw told (then_stray c.in_ok-hgrant.ensures (then_stray c.in_ok-hmaster.ensures (then_stray c.in_ok-hmastlock.ensures (then_stray c.in_ok-decide.ensures (more_stray c.in_err-granted.ensures _ _)))))

pub returns-in_err-busreq : goal.returns-in_err-busreq
returns-in_err-busreq c =
    let told : c.from_residual-in_err-busreq.result ≡ None = search rules in
    rw told (then_stray c.in_ok-hgrant.ensures (then_stray c.in_ok-hmaster.ensures (then_stray c.in_ok-hmastlock.ensures (then_stray c.in_ok-decide.ensures (then_stray c.in_ok-granted.ensures (c.in_err-busreq.ensures))))))

pub returns : goal.returns
returns c = then_walk c.in_ok-hgrant.ensures (then_walk c.in_ok-hmaster.ensures (then_walk c.in_ok-hmastlock.ensures (then_walk c.in_ok-decide.ensures (then_walk c.in_ok-granted.ensures (c.in_ok-busreq.ensures)))))
