-- `put_header` meets its contract: the header fits.
use Rattle.drawing.proofs.Answers.{header_put}
use Rattle.drawing.proofs.put_header.Goals as goal

pub returns : goal.returns
returns c = header_put _ _ _ _ c.requires c.write_dump_header.ensures _ c.unwrap_or.ensures
