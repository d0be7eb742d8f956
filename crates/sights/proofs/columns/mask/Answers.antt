-- `mask` meets its contract: two times eight characters.
use Rattle.std.proofs.Common.{arith}
use Rattle.words.proofs.Words.{Bytes}
use Rattle.sights.proofs.Characters.{mask_bits}
use Rattle.sights.proofs.columns.mask.Goals as goal

pub returns : goal.returns
returns c = let bytes : Bytes c.args.s.now = record { below = λ i. omega (arith, c.type_inv.s i) } in
    mask_bits c.args.s.now _ _ _ _ bytes c.requires c.eight.ensures c.in_ok-high.ensures.1 c.in_ok-high.ensures.0 c.eight-2.ensures c.in_ok-low.ensures.1 c.in_ok-low.ensures.0
