-- `is_high` meets its contract: no u32 has a bit from 32 on.
use mathlib.Core.Path.{refl, sym}
use Rattle.rules.specs.Masks.{high}
use Rattle.rules.proofs.Masks.{high_below}
use Rattle.signals.proofs.is_high.Goals as goal

pub returns-then-i-lt32 : goal.returns-then-i-lt32
unfolding high
returns-then-i-lt32 c = refl

pub returns-else-i-lt32 : goal.returns-else-i-lt32
returns-else-i-lt32 c = sym (high_below 32 _ _ c.ranges.m.fits c.if-i-lt32.false)
