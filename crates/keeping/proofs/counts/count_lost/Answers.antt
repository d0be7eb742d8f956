-- `count_lost` meets its contract. Invariant: the counts below i are stored, nothing else has changed, and whether one of them reached the limit.
use mathlib.Core.Path.{refl, ◌∙◌}
use borrow.Author.Rules.{rules}
use native.Mathlib.Omega.{arith}
use lib.ListN.{length-set}
use Rattle.rules.specs.Masks.{high}
use Rattle.rulebook.specs.Columns.{some_below}
use Rattle.rulebook.specs.Charges.{list_from}
use Rattle.keeping.proofs.Stored.{stored_next, some_next}
use Rattle.keeping.proofs.Lost.{with_set}
use Rattle.keeping.proofs.counts.count_lost.Goals as goal

pub loop-i-init : goal.loop-i-init
unfolding some_below list_from
loop-i-init c = (omega arith, search rules, refl, refl, refl)

pub loop-i-preserved : goal.loop-i-preserved
unfolding high
loop-i-preserved c = let l = c.loop-i in
    let e = c.losers-mask.ensures.each l.i in (
      omega arith,
      simp length-set l.invariant.1,
      with_set c.args.j _ _ l.invariant.2,
      stored_next _ _ _ _ (omega arith) l.invariant.3 (c.longer.ensures ∙ rw e),
      some_next _ _ _ _ l.invariant.4 (rw e),
    )
