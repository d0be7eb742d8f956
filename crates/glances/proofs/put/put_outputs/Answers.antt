-- `put_outputs` meets its contract: two words, the second eight bytes further.
use Rattle.glances.proofs.Puts.{outputs_put}
use Rattle.std.proofs.Common.{rules}
use Rattle.glances.proofs.put.put_outputs.Goals as goal

pub returns : goal.returns
returns c = outputs_put c.args.g c.args.o c.args.out.now _ _ _ _ c.requires.0 c.requires.1 (search rules) (search rules) c.put_eight.ensures c.put_eight-2.ensures
