-- `cut` meets its contract: at the end of a step, or all, or none.
use mathlib.Core.Path.{sym, ◌∙◌}
use native.Mathlib.Omega.{arith}
use Rattle.recalling.proofs.Places.{none_yet, one_more, cut_found, cut_all}
use Rattle.recalling.proofs.cuts.cut.Goals as goal

pub loop-kept-init : goal.loop-kept-init
loop-kept-init c = none_yet c.args.s.now

pub loop-kept-preserved : goal.loop-kept-preserved
loop-kept-preserved c = one_more c.args.s.now c.loop-kept.kept (sym c.ends_at.ensures ∙ c.if-ends_at.false) c.loop-kept.invariant

pub returns-then-ends_at : goal.returns-then-ends_at
returns-then-ends_at c = let s = c.args.s.now in
    cut_found s c.loop-kept.kept (omega arith) (omega arith) (omega arith) (sym c.ends_at.ensures ∙ c.if-ends_at.true)

pub returns-else-n-lt105 : goal.returns-else-n-lt105
returns-else-n-lt105 c = let s = c.args.s.now in
    cut_all s c.if-n-lt105.false (λ i h inside. c.loop-kept.invariant i (omega arith) inside)
