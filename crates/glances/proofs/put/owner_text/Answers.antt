-- `owner_text` meets its contract: two shifts within the width, and a sum.
use Rattle.std.proofs.Common.{arith}
use Rattle.glances.proofs.Owners.{shifted_small, owner_number}
use Rattle.glances.proofs.put.owner_text.Goals as goal

pub overflow_mul-result : goal.overflow_mul-result
overflow_mul-result c = record { fits = omega (arith, shifted_small c.args.g c.requires.0) }

pub overflow_add-result : goal.overflow_add-result
overflow_add-result c = record { fits = omega (arith, shifted_small c.args.g c.requires.0) }

pub overflow_add-result-5 : goal.overflow_add-result-5
overflow_add-result-5 c = record { fits = omega (arith, shifted_small c.args.g c.requires.0) }

pub returns : goal.returns
returns c = owner_number c.args.g c.args.hmaster c.requires.0 c.requires.1
