-- `step` meets its contract: 9 twice, 10, and then as a step.
use mathlib.Core.Path.{◌∙◌}
use native.Mathlib.Omega.{arith}
use Rattle.std.specs.Prelude.{Ok}
use borrow.Author.Rules.{rules}
use Rattle.hearings.proofs.Close.{first_long, judge_whole, mask_whole, step_short_judge, step_short_broken, step_unknown, step_refused, step_fits, step_taken}
use Rattle.hearings.proofs.step.Goals as goal

pub returns-in_err-judge : goal.returns-in_err-judge
returns-in_err-judge c = step_short_judge _ _ _ _ (search rules) (search rules)

pub returns-in_err-broken : goal.returns-in_err-broken
returns-in_err-broken c = step_short_broken _ _ _ _ (search rules) _ (search rules) (search rules) (search rules)

pub returns-in_err-j : goal.returns-in_err-j
returns-in_err-j c = step_unknown _ _ _ _ (search rules) _ (search rules) (search rules) _ (search rules) (search rules) (search rules)

pub returns-in_err-ruled : goal.returns-in_err-ruled
returns-in_err-ruled c =
    step_refused _ _ _ _ (search rules) _ (search rules) (search rules) _ (search rules) c.in_ok-j.j (search rules) _ c.rule-ruled.ensures
    c.in_err-ruled.field-0.0 (search rules) (search rules)

pub put-requires : goal.put-requires
put-requires c = let size = first_long 42 c.args.judge.now c.in_ok-judge.judge.now (search rules) (search rules) in (
  step_fits _ c.args.judge.now c.args.broken.now (Ok tt) (search rules) c.in_ok-judge.judge.now (search rules) (search rules) c.in_ok-broken.broken.now (search rules)
      c.in_ok-j.j (search rules) _ c.rule-ruled.ensures (search rules),
  omega (arith, size),
)

pub returns : goal.returns
returns c =
    let size = first_long 42 c.args.judge.now c.in_ok-judge.judge.now (search rules) (search rules) in
    let few = first_long 4 c.args.broken.now c.in_ok-broken.broken.now (search rules) (search rules) in
    step_taken _ _ _ (Ok tt) (search rules) c.in_ok-judge.judge.now (search rules) (search rules) c.in_ok-broken.broken.now (search rules)
    c.in_ok-j.j (search rules) _ c.rule-ruled.ensures (search rules) _ _ (c.put.ensures ∙ judge_whole _ _ size) (c.put_mask.ensures ∙ mask_whole _ _ few)
