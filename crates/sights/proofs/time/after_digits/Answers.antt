-- `after_digits` meets its contract: one digit more, or the end of the line.
use Rattle.std.proofs.Common.{◌+◌, ◌++◌, sym, ap, ◌∙◌, arith, eqb, eqb-true, get_or}
use Rattle.rules.proofs.Choice.{and_left, and_right}
use Rattle.words.proofs.Words.{part_rest}
use Rattle.waves.specs.Steps.{time_line}
use Rattle.sights.proofs.Clock.{counting_on, line_there}
use Rattle.sights.proofs.time.after_digits.Goals as goal

pub returns-then-b-v : goal.returns-then-b-v
returns-then-b-v c =
    let ends = eqb-true _ _ (and_left (eqb (get_or c.args.s.now c.loop-i.i 0) 10) (eqb c.loop-i.v c.args.t) c.if-b-v.true) in
    let same = eqb-true _ _ (and_right (eqb (get_or c.args.s.now c.loop-i.i 0) 10) (eqb c.loop-i.v c.args.t) c.if-b-v.true) in
    let h = line_there c.args.s.now (omega arith) _ _ c.loop-i.invariant (omega arith) c.args.t same ends in
    h ∙ ap (λ k. time_line c.args.t ++ k) (sym (rw c.told-s at (part_rest (c.loop-i.i + 1) c.args.s.now)))

pub loop-i-preserved : goal.loop-i-preserved
loop-i-preserved c =
    let digit = rw c.if-not-is_ascii_digit.false at c.is_ascii_digit.ensures.cases in
    counting_on c.args.s.now (omega arith) _ _ c.loop-i.invariant (omega arith) _ (omega (arith, digit.0)) (omega (arith, digit.1))
