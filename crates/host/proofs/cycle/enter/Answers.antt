-- `enter` meets its contract: the tests of a step, passed or not.
use mathlib.Core.Path.{sym, ◌∙◌}
use borrow.Author.Rules.{rules}
use Rattle.host.proofs.Close.{enter_unknown, many, enter_full, enter_refused, enter_ready}
use Rattle.host.proofs.Inputs.{good_of}
use Rattle.host.proofs.cycle.enter.Goals as goal

pub returns-in_err-held : goal.returns-in_err-held
returns-in_err-held c = enter_unknown _ _ _ (search rules) (search rules)

pub returns-then-held-ge1000000 : goal.returns-then-held-ge1000000
returns-then-held-ge1000000 c = enter_full _ _ c.in_ok-held.held (search rules) (search rules)

pub valid-requires : goal.valid-requires
valid-requires c = many c.args.x c.args.state.now c.in_ok-held.held (search rules)

pub returns-in_err-check_inputs : goal.returns-in_err-check_inputs
returns-in_err-check_inputs c = enter_refused _ _ c.in_ok-held.held (search rules) (search rules) _ c.check_inputs.result c.in_err-check_inputs.field-0.0 c.check_inputs.ensures (search rules) (search rules)

pub returns-else-not-valid : goal.returns-else-not-valid
returns-else-not-valid c = enter_ready _ _ _ (search rules) (search rules) (good_of _ (sym c.valid.ensures ∙ c.if-not-valid.false))
