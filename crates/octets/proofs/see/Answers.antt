-- `see` meets its contract: the bytes are read one by one, four at once, and four more.
use native.Mathlib.Omega.{arith}
use Rattle.words.proofs.Words.{Bytes}
use Rattle.octets.proofs.Seen.{unsound, seen}
use Rattle.octets.proofs.see.Goals as goal

pub returns-then-not-right-ranged : goal.returns-then-not-right-ranged
returns-then-not-right-ranged c =
    let bytes : Bytes c.args.b.now = record { below = λ i. omega (arith, c.type_inv.b i) } in
    unsound _ bytes _ _ _ _ _ _ _ _ c.into-n.ensures c.into-g.ensures c.into-m.ensures c.four-v.ensures c.four-count.ensures
    c.place-i.ensures.1 c.fits.ensures c.small.ensures c.if-not-right-ranged.true

pub returns : goal.returns
returns c =
    let bytes : Bytes c.args.b.now = record { below = λ i. omega (arith, c.type_inv.b i) } in
    seen _ bytes _ _ _ _ _ _ _ _ c.into-n.ensures c.into-g.ensures c.into-m.ensures c.four-v.ensures c.four-count.ensures
    c.place-i.ensures.1 c.fits.ensures c.small.ensures _ c.phase.ensures.0 c.phase.ensures.1 c.if-not-right-ranged.false
