-- `put` meets its contract: twelve bytes.
use mathlib.Core.Path.{◌∙◌}
use Rattle.signals.proofs.Flags.{as_flag}
use Rattle.words.proofs.Words.{low_four}
use Rattle.hosting.specs.Bytes.{state_bytes}
use Rattle.hosting.specs.Calls.{state_stored}
use Rattle.octets.proofs.put.Goals as goal

pub returns : goal.returns
unfolding state_bytes state_stored
returns c =
    let lock = (as_flag _ c.requires.1.lock).is in
    let granted = (as_flag _ c.requires.1.granted).is in
    let count = low_four c.args.s.bus.count in
    rw (c.phase_byte.ensures, c.left_byte.ensures, c.to_le_bytes.ensures ∙ count, ← lock, ← granted)
