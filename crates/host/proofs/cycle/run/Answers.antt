-- `run` meets its contract: the step, and the bytes of the state that follows.
use mathlib.Core.Path.{◌∙◌}
use native.Mathlib.Omega.{arith}
use borrow.Author.Rules.{rules}
use Rattle.host.proofs.Close.{next_formed, cycled, state_whole}
use Rattle.host.proofs.cycle.run.Goals as goal

pub put-requires : goal.put-requires
put-requires c = (next_formed _ _ _ _ c.advance-went.ensures.0, c.advance-went.ensures.1, omega (arith, c.told-state))

pub returns : goal.returns
returns c = cycled _ _ c.in_ok-held.held _ _ _ (search rules) c.advance-went.ensures.0 (c.put.ensures ∙ state_whole _ c.args.state.now c.told-state)
