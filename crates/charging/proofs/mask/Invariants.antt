-- `mask` meets its contract. Invariant: the number is that of the flags that are done.
use Rattle.charging.proofs.Order.{Counted}
use Rattle.charging.proofs.mask.Given as goal

abbrev pub invariant-loop-flag : goal.invariant-loop-flag
invariant-loop-flag l = Counted l.fn.flags l.flag-iterator.iter.rest.now l.mask
