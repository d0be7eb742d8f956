-- `read_after` meets its contract: both ends of its test.
use Rattle.scans.proofs.Headers.{opening_short, opened, not_opened}
use Rattle.scans.proofs.header.read_after.Goals as goal

pub masters_in-requires : goal.masters_in-requires
masters_in-requires c = search opening_short

pub returns-then-begins : goal.returns-then-begins
returns-then-begins c = search opened

pub returns-else-begins : goal.returns-else-begins
returns-else-begins c = search not_opened
