-- `mask` meets its contract. Invariant: the number is that of the flags that are done.
use Prim.Native.Nat.{◌+◌, ◌*◌}
use mathlib.Core.Path.{refl}
use mathlib.Core.List.{[], append-nil}
use borrow.Author.Rules.{rules}
use native.Mathlib.Omega.{arith}
use Rattle.rulebook.specs.Named.{mask_of}
use Rattle.charging.proofs.Order.{Counted, mask_next, mask_small, mask_whole}
use Rattle.charging.proofs.mask.Goals as goal

pub loop-flag-init : goal.loop-flag-init
unfolding mask_of
loop-flag-init c =
    record { size = search rules; done = []; split = search (rules, append-nil); is = refl }

-- one flag more
further : (c : goal.After-from) → Counted c.args.flags c.next.new.self.iter.rest.now (2 * c.loop-flag.mask + c.from.result)
further c = mask_next _ _ c.loop-flag.invariant (c.in-Some.ensures.steps) c.from.ensures

pub loop-flag-preserved : goal.loop-flag-preserved
loop-flag-preserved c = further c

pub overflow_mul-mask : goal.overflow_mul-mask
overflow_mul-mask c = omega (arith, mask_small c.loop-flag.invariant)

pub overflow_add-mask : goal.overflow_add-mask
overflow_add-mask c = omega (arith, mask_small (further c))

pub returns : goal.returns
returns c = (mask_whole c.loop-flag.invariant c.in-None.ensures.steps.0, mask_small c.loop-flag.invariant)
