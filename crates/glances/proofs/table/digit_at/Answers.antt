-- `digit_at` meets its contract.
use Rattle.std.proofs.Common.{get_or, arith}
use Rattle.glances.proofs.Entries.{weighed_small}
use Rattle.glances.proofs.table.digit_at.Goals as goal

pub returns : goal.returns
returns c = let b = get_or c.args.s.now c.args.p 0 in
    let e = c.requires.0.at c.args.place b c.requires.1 (omega (arith, c.type_inv.s c.args.p)) in
    (e, rw e (weighed_small c.args.place b c.requires.1))
