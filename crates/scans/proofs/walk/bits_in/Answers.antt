-- `bits_in` meets its contract: one bit further, a character that is none, or the end.
use Rattle.std.proofs.Common.{◌^◌, ◌≤◌, length, arith}
use native.Mathlib.Nat.{pow-le-pow_right}
use Rattle.scans.proofs.Bits.{reading_on, read_bad, read_whole}
use Rattle.scans.proofs.walk.bits_in.Goals as goal
use Rattle.scans.proofs.walk.bits_in.Goals.{in_default-via-then-b-lt48, in_default-via-else-b-lt48+else-b-lt50}

pub loop-b-preserved : goal.loop-b-preserved
loop-b-preserved c = let l = c.loop-b in reading_on c.args.s.now l.v l.b-index l.invariant c.loop-b-test.true (omega arith) (omega arith)

pub returns-in_default : goal.returns-in_default
returns-in_default c = let l = c.loop-b in
    let few : 2 ^ length c.args.s.now ≤ 2 ^ 16 = pow-le-pow_right {n = 2} (omega arith) {i = length c.args.s.now} {j = 16} c.requires in
    read_bad c.args.s.now l.v l.b-index l.invariant c.loop-b-test.true _
    (λ low high. elim c.in_default.branch [ in_default-via-then-b-lt48 w ↦ omega arith | in_default-via-else-b-lt48+else-b-lt50 w ↦ omega arith ])
    (omega arith)

pub returns : goal.returns
returns c = let l = c.loop-b in read_whole c.args.s.now l.v l.b-index l.invariant (omega arith)
