-- `burst` meets its contract: each arm of the match is one case of the definition.
use Rattle.std.proofs.Common.{◌≡◌, arith}
use borrow.Author.Tests.{le-leb, lt-leb, ne_eqb}
use Rattle.rules.specs.Codes.{burst_of}
use Rattle.signals.proofs.burst.Goals as goal

pub returns-in-0 : goal.returns-in-0
unfolding burst_of
returns-in-0 c = rw c.in-0.is

pub returns-in-1 : goal.returns-in-1
unfolding burst_of
returns-in-1 c = rw c.in-1.is

pub returns-in-3 : goal.returns-in-3
unfolding burst_of
returns-in-3 c = rw c.in-3.is

pub returns-in-8-to-4294967295 : goal.returns-in-8-to-4294967295
unfolding burst_of
returns-in-8-to-4294967295 c = simp (ne_eqb c.args.code 0 (omega arith), ne_eqb c.args.code 1 (omega arith), ne_eqb c.args.code 3 (omega arith), lt-leb c.args.code 7 (omega arith))

pub returns-in-2 : goal.returns-in-2
unfolding burst_of
returns-in-2 c = let k : c.args.code ≡ 2 = omega arith in rw k

pub returns-in-2-2 : goal.returns-in-2-2
unfolding burst_of
returns-in-2-2 c = simp (ne_eqb c.args.code 0 (omega arith), ne_eqb c.args.code 1 (omega arith), ne_eqb c.args.code 3 (omega arith), le-leb c.args.code 7 (omega arith))
