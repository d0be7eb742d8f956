-- `start` meets its contract: 9, then as a start.
use mathlib.Core.Path.{◌∙◌}
use native.Mathlib.Omega.{arith}
use Rattle.std.specs.Prelude.{Ok}
use borrow.Author.Rules.{rules}
use Rattle.hearings.proofs.Close.{first_long, judge_whole, start_short, start_fits, start_refused, start_taken}
use Rattle.hearings.proofs.start.Goals as goal

pub returns-in_err-judge : goal.returns-in_err-judge
returns-in_err-judge c = start_short _ _ _ (search rules) (search rules)

pub returns-in_err-started : goal.returns-in_err-started
returns-in_err-started c = start_refused _ _ _ _ c.start-started.ensures (search rules) _ c.in_err-started.field-0.0 (search rules) (search rules) (search rules)

pub put-requires : goal.put-requires
put-requires c = let size = first_long 42 c.args.judge.now c.in_ok-judge.judge.now (search rules) (search rules) in
    (start_fits c.args.n c.args.judge.now (Ok tt) _ c.start-started.ensures (search rules), omega (arith, size))

pub returns : goal.returns
returns c = let size = first_long 42 c.args.judge.now c.in_ok-judge.judge.now (search rules) (search rules) in
    start_taken _ _ (Ok tt) _ c.start-started.ensures (search rules) _ (search rules) (c.put.ensures ∙ judge_whole _ _ size)
