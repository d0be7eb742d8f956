-- `line_size` meets its contract.
use Rattle.std.proofs.Common.{◌≡◌, sym, zero-add, arith}
use Rattle.waves.specs.Reading.{line_size}
use Rattle.scans.proofs.Sizes.{size_end, size_found, size_on}
use Rattle.scans.proofs.walk.line_size.Goals as goal

pub loop-i-init : goal.loop-i-init
loop-i-init c = sym (zero-add (line_size c.args.s.now))

pub returns-then-b-eq10 : goal.returns-then-b-eq10
returns-then-b-eq10 c = let l = c.loop-i in (size_found c.args.s.now l.i l.invariant c.loop-i-test.true c.if-b-eq10.true, omega arith)

pub loop-i-preserved : goal.loop-i-preserved
loop-i-preserved c = let l = c.loop-i in size_on c.args.s.now l.i l.invariant c.loop-i-test.true c.if-b-eq10.false

pub returns : goal.returns
returns c = let l = c.loop-i in
    let same : _ ≡ _ = size_end c.args.s.now l.i l.invariant c.loop-i-test.false in (omega (arith, same), omega arith)
