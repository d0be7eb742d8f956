-- `put_byte` meets its contract: one word, from a place on.
use mathlib.Core.Path.{ap, ◌∙◌}
use native.Mathlib.Omega.{arith}
use lib.Seq.{sets}
use Rattle.glances.proofs.Tails.{rest, tail_put}
use Rattle.waves.specs.Variables.{bits}
use Rattle.dumps.proofs.lines.put_byte.Goals as goal

pub returns : goal.returns
returns c = let a = c.args in
    tail_put a.at a.buf.now _ (bits 8 a.b) (omega arith)
    (c.put_eight.ensures ∙ ap (sets (rest a.at a.buf.now) 0) c.spread.ensures)
