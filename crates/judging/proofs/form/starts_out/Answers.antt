-- `starts_out` meets its contract.
use mathlib.Core.Path.{◌≡◌, ◌∙◌}
use borrow.Author.Rules.{rules}
use Rattle.rulebook.specs.Columns.{some_master}
use Rattle.rulebook.specs.State.{some_count, starts_out}
use Rattle.judging.proofs.Lost.{some_listed}
use Rattle.judging.proofs.form.starts_out.Goals as goal

pub returns : goal.returns
unfolding starts_out
returns c =
    let some : c.some_lost-some.result ≡ some_master (some_count c.args.j.lost) = c.some_lost-some.ensures ∙ some_listed _ (search rules) in
    cc
