-- `later` meets its contract: of Done, of Fixed, of Open.
use native.Mathlib.Omega.{arith}
use Rattle.buses.proofs.Phases.{stays_done, counted, stays_open}
use Rattle.buses.proofs.turn.Now.later.Goals as goal

pub returns-in-0 : goal.returns-in-0
returns-in-0 c = search stays_done

pub returns-in-1-to-3 : goal.returns-in-1-to-3
returns-in-1-to-3 c = counted c.args.self.n c.args.self.bus c.args.self.inputs (omega arith) (omega arith) c.args.self.due.ready

pub returns-in-4-to-4294967295 : goal.returns-in-4-to-4294967295
returns-in-4-to-4294967295 c = stays_open c.args.self.n c.args.self.bus c.args.self.inputs _ (omega arith) c.args.self.stands
