-- `step_outputs` meets its contract: 9 twice, then a refusal or the cycle that is taken.
use borrow.Author.Rules.{rules}
use Rattle.std.specs.Prelude.{Ok}
use Rattle.hosting.specs.Calls.{as_numbers}
use Rattle.host.proofs.Close.{small, step_short_state, step_short_shown, step_refused, step_taken}
use Rattle.host.proofs.step_outputs.Goals as goal

pub returns-in_err-state : goal.returns-in_err-state
returns-in_err-state c = step_short_state as_numbers _ _ _ _ (search rules) (search rules)

pub returns-in_err-outputs : goal.returns-in_err-outputs
returns-in_err-outputs c = step_short_shown as_numbers _ _ _ _ (search rules) _ (search rules) (search rules) (search rules)

pub returns-in_err-shown : goal.returns-in_err-shown
returns-in_err-shown c =
    step_refused as_numbers _ _ _ _ (search rules) c.in_ok-state.state.now (search rules) (search rules) _ _ c.in_err-shown.field-0.0
    (search rules) (search rules) (search rules) (search rules)

pub output_bytes-requires : goal.output_bytes-requires
output_bytes-requires c = small c.args.x c.in_ok-state.state.now c.in_ok-shown.shown c.run.new.state (search rules)

pub returns : goal.returns
returns c =
    step_taken as_numbers _ _ _ (Ok tt) (search rules) c.in_ok-state.state.now (search rules) (search rules) _ _ c.in_ok-shown.shown (search rules)
    c.output_bytes.ensures
