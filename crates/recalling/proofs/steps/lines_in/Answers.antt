-- `lines_in` meets its contract.
use Rattle.std.proofs.Common.{rules, ◌≡◌, ◌∙◌, nat_eq}
use Rattle.std.specs.List.{count_by}
use Rattle.recalling.proofs.Taken.{lines_counted}
use Rattle.recalling.proofs.steps.lines_in.Goals as goal

pub returns : goal.returns
returns c = let k : c.count.result ≡ count_by (λ b. nat_eq b 10) c.args.s.now = search rules in k ∙ lines_counted c.args.s.now
