-- `head_bytes` meets its contract.
use Rattle.words.proofs.Words.{low_four}
use Rattle.docketing.specs.Bytes.{head_of}
use Rattle.entries.proofs.Stored.{flag_is}
use Rattle.entries.proofs.parts.head_bytes.Goals as goal

pub returns : goal.returns
unfolding head_of
returns c =
    let flag = flag_is c.args.j.opened in
    let count = low_four c.args.j.count in
    rw (c.into.ensures, flag, c.watch_byte.ensures, c.left_byte.ensures, c.to_le_bytes.ensures, c.to_le_bytes-2.ensures, count)
