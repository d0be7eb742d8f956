-- `walk` meets its contract: the line is there, or not.
use Rattle.std.proofs.Common.{sym, ◌∙◌}
use Rattle.scans.proofs.Places.{line_inside}
use Rattle.scans.proofs.Walking.{stray_absent, walk_absent, walk_placed, stray_placed}
use Rattle.scans.proofs.walk.walk.Goals as goal

pub returns-then-all : goal.returns-then-all
returns-then-all c = stray_absent _ _ _ _ _ _ c.placed.ensures c.if-not-placed.true c.if-all.true

pub returns-else-all : goal.returns-else-all
returns-else-all c = walk_absent _ _ _ _ _ _ c.placed.ensures c.if-not-placed.true c.if-all.false

pub value_in-u-requires : goal.value_in-u-requires
value_in-u-requires c =
    (c.requires.1, (line_inside c.args.width c.args.code c.args.s.now (sym c.placed.ensures ∙ c.if-not-placed.false)).0)

pub split_at-requires : goal.split_at-requires
split_at-requires c =
    (line_inside c.args.width c.args.code c.args.s.now (sym c.placed.ensures ∙ c.if-not-placed.false)).1 _ c.size_of-size.ensures.0

pub returns-then-all-u : goal.returns-then-all-u
returns-then-all-u c =
    rw c.split_at.ensures.back
    (walk_placed _ _ _ _ _ _ c.placed.ensures _ _ (c.value_in-u.ensures c.args.code) c.size_of-size.ensures.0 c.if-not-placed.false c.if-all-u.true)

pub returns-else-all-u : goal.returns-else-all-u
returns-else-all-u c =
    stray_placed _ _ _ _ _ _ c.placed.ensures _ _ (c.value_in-u.ensures c.args.code) c.size_of-size.ensures.0 c.if-not-placed.false c.if-all-u.false
