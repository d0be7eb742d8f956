-- `few` meets its contract: one character more.
use Rattle.std.proofs.Common.{arith, refl}
use Rattle.sights.proofs.Characters.{some_more, few_more}
use Rattle.sights.proofs.columns.few.Goals as goal

pub loop-b-preserved : goal.loop-b-preserved
loop-b-preserved c = let l = c.loop-b in (
  few_more _ l.b-index l.v _ c.loop-b-test.true refl (omega arith) (omega arith) l.invariant.0,
  some_more _ l.b-index l.v _ c.loop-b-test.true refl (omega arith) (omega arith) l.invariant.1,
)
