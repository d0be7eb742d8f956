-- `step_line` meets its contract: 9 twice, then a refusal or the line of the cycle that is taken.
use borrow.Author.Rules.{rules}
use Rattle.std.specs.Prelude.{Ok}
use Rattle.hosting.specs.Calls.{as_line}
use Rattle.host.proofs.Close.{needs, line_written, step_short_state, step_short_shown, step_refused, step_taken}
use Rattle.host.proofs.step_line.Goals as goal

pub returns-in_err-state : goal.returns-in_err-state
returns-in_err-state c = step_short_state as_line _ _ _ _ (search rules) (search rules)

pub returns-in_err-line : goal.returns-in_err-line
returns-in_err-line c = step_short_shown as_line _ _ _ _ (search rules) _ (search rules) (search rules) (search rules)

pub returns-in_err-outputs : goal.returns-in_err-outputs
returns-in_err-outputs c =
    step_refused as_line _ _ _ _ (search rules) c.in_ok-state.state.now (search rules) (search rules) _ _ c.in_err-outputs.field-0.0
    (search rules) (search rules) (search rules) (search rules)

pub put_line-requires : goal.put_line-requires
put_line-requires c = let k = needs c.args.x c.in_ok-state.state.now c.in_ok-outputs.outputs c.run.new.state (search rules) _ c.into-g.ensures in (search rules, k.0, k.1)

pub returns : goal.returns
returns c =
    step_taken as_line _ _ _ (Ok tt) (search rules) c.in_ok-state.state.now (search rules) (search rules) _ _ c.in_ok-outputs.outputs (search rules)
    (line_written _ c.in_ok-line.field-0.now _ (search rules) c.put_line.ensures)
