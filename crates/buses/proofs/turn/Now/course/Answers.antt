-- `course` meets its contract.
use native.Mathlib.Omega.{arith}
use Rattle.buses.proofs.Bursts.{later_runs}
use Rattle.buses.proofs.turn.Now.course.Goals as goal

pub returns-else-self-eq5 : goal.returns-else-self-eq5
returns-else-self-eq5 c = later_runs c.args.self.n c.args.self.bus c.args.self.inputs _ (omega arith) c.later-k.ensures
