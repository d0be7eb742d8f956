-- `winner` meets its contract. Invariant: what is left of the walk has the winner of the whole. Measure: the masters left.
use mathlib.Core.Path.{◌∙◌, sym}
use native.Mathlib.Omega.{arith}
use borrow.Author.Tests.{eq-eqb, ne_eqb}
use Rattle.rules.specs.Winner.{winner as winner_of}
use Rattle.rules.proofs.Round.{next_within}
use Rattle.rules.proofs.Winner.{walk_none, walk_hit, walk_pass}
use Rattle.signals.proofs.Flags.{high}
use Rattle.buses.proofs.walk.winner.Goals as goal

pub loop-left-init : goal.loop-left-init
unfolding winner_of
loop-left-init c = (rw c.next-i.ensures, rw c.next-i.ensures (next_within _ _ 16 c.requires.0 (omega arith)))

pub loop-left-preserved : goal.loop-left-preserved
loop-left-preserved c = (
  c.loop-left.invariant.0 ∙ walk_pass _ _ c.loop-left.left _ (omega arith) (sym (high c.bit.ensures) ∙ ne_eqb _ _ c.if-bit-eq1.false) ∙ rw c.next-i-in-loop-left.ensures,
  rw c.next-i-in-loop-left.ensures (next_within _ _ 16 c.requires.0 (omega arith)),
)

pub returns-then-left-eq0 : goal.returns-then-left-eq0
returns-then-left-eq0 c = sym (c.loop-left.invariant.0 ∙ rw c.if-left-eq0.true (walk_none _ _ _))

pub returns-then-bit-eq1 : goal.returns-then-bit-eq1
returns-then-bit-eq1 c = sym (c.loop-left.invariant.0 ∙ walk_hit _ _ c.loop-left.left _ (omega arith) (sym (high c.bit.ensures) ∙ eq-eqb _ _ c.if-bit-eq1.true))
