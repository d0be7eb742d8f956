-- `see` meets its contract: the first 42 bytes say what judge it is.
use mathlib.Core.Path.{sym, ◌∙◌}
use borrow.Author.Rules.{rules}
use Rattle.dockets.proofs.Parts.{judge_seen, none_seen}
use Rattle.dockets.proofs.see.Goals as goal

pub returns-then-is_judge : goal.returns-then-is_judge
returns-then-is_judge c =
    judge_seen c.args.b.now c.unwrap-first.result.now _ (search rules) (sym c.is_judge.ensures ∙ c.if-is_judge.true) c.judge_in.ensures

pub returns-else-is_judge : goal.returns-else-is_judge
returns-else-is_judge c = none_seen c.args.b.now c.unwrap-first.result.now (search rules) (sym c.is_judge.ensures ∙ c.if-is_judge.false)
