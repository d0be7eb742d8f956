-- `names_absent` meets its contract: no u32 reaches 2 ^ 32, so from 32 masters on it names none that is absent.
use Prim.Native.Nat.{ℕ, ◌^◌, ◌<◌}
use mathlib.Core.Path.{◌≡◌, refl}
use mathlib.Core.Bool.{Bool, true, false, ◌&&◌, cond}
use native.Mathlib.Nat.{lt_of_lt_of_le}
use borrow.Author.Tests.{ltb-false, lt-leb}
use lib.Dec.{leb, ltb}
use lib.Pow.{pow_mono}
use Rattle.signals.proofs.names_absent.Goals as goal

within : (n m : ℕ) → m < 2 ^ 32 → (ltb n 32 && leb (cond (ltb n 32) (2 ^ n) 0) m) ≡ leb (2 ^ n) m
within n m small = go (ltb n 32) refl
  where
    go : (b : Bool) → ltb n 32 ≡ b → (ltb n 32 && leb (cond (ltb n 32) (2 ^ n) 0) m) ≡ leb (2 ^ n) m
    go true e = simp e
    go false e = simp (e, lt-leb (2 ^ n) m (lt_of_lt_of_le small (pow_mono (ltb-false n 32 e))))

pub returns : goal.returns
returns c = rw c.single_bit-top.ensures (within c.args.n c.args.m c.ranges.m.fits)
