-- `start` meets its contract.
use mathlib.Core.Path.{sym, ◌∙◌}
use Rattle.rulebook.specs.State.{start_of}
use Rattle.judging.proofs.start.Goals as goal

pub returns-then-masters_ok : goal.returns-then-masters_ok
unfolding start_of
returns-then-masters_ok c = rw (sym c.masters_ok.ensures ∙ c.if-masters_ok.true) (cc)

pub returns-else-masters_ok : goal.returns-else-masters_ok
unfolding start_of
returns-else-masters_ok c = rw (sym c.masters_ok.ensures ∙ c.if-masters_ok.false) (cc)
