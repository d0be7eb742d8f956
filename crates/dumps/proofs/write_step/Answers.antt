-- `write_step` meets its contract: the tests, and then the writer.
use Rattle.std.proofs.Common.{◌≡◌, Err, rules}
use Rattle.dumps.proofs.Writers.{step_refused, step_given}
use Rattle.dumps.proofs.write_step.Goals as goal

pub returns-in_err-for_masters : goal.returns-in_err-for_masters
returns-in_err-for_masters c = let a = c.args in
    let told : c.from_residual.result ≡ Err c.in_err-for_masters.field-0.0 = search rules in
    rw told (step_refused a.n a.t a.prev a.c a.buf.now _ _ _ c.check_cycle-k.ensures c.in_time-timed.ensures c.for_masters.ensures _ c.in_err-for_masters.was)

pub returns : goal.returns
returns c = let a = c.args in
    step_given a.n a.t a.prev a.c a.buf.now _ _ _ c.check_cycle-k.ensures c.in_time-timed.ensures c.for_masters.ensures c.in_ok-for_masters.was _ _ c.write_good.ensures
