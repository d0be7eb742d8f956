-- `flags_in` meets its contract. The loop's invariant: the digits below i are stored.
use Rattle.judging.proofs.Digits.{Spread}
use Rattle.judging.proofs.flags_in.Given as goal

abbrev pub invariant-loop-flag : goal.invariant-loop-flag
invariant-loop-flag l = Spread l.number l.m l.flag-index l.flag-items
