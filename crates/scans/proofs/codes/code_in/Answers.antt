-- `code_in` meets its contract: a scalar, a vector, or neither.
use Rattle.scans.proofs.Unknown.{no_line, scalar, vector, no_change}
use Rattle.scans.proofs.codes.code_in.Goals as goal

pub returns-in_default : goal.returns-in_default
returns-in_default c = no_line c.args.s.now c.in_default.ensures.cases

pub returns-then-is_scalar : goal.returns-then-is_scalar
returns-then-is_scalar c = scalar c.args.s.now _ _ c.in-Some.ensures.cases.0 _ c.is_scalar.ensures c.if-is_scalar.true

pub returns-then-is_vector : goal.returns-then-is_vector
returns-then-is_vector c = vector c.args.s.now _ _ c.in-Some.ensures.cases.0 _ c.is_scalar.ensures c.if-is_scalar.false _ c.is_vector.ensures _ c.if-is_vector.true c.after_space.ensures

pub returns : goal.returns
returns c = no_change c.args.s.now _ _ c.in-Some.ensures.cases.0 _ c.is_scalar.ensures c.if-is_scalar.false _ c.is_vector.ensures c.if-is_vector.false
