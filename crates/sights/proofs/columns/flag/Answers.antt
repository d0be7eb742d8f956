-- `flag` meets its contract: the line is its three bytes.
use Rattle.std.proofs.Common.{arith}
use Rattle.sights.proofs.Lines.{flag_line}
use Rattle.sights.proofs.columns.flag.Goals as goal

pub returns-in-48-to-49 : goal.returns-in-48-to-49
returns-in-48-to-49 c = let h = c.split_at.ensures in
    flag_line c.args.code _ c.args.s.now _ _ c.requires h.front h.back h.front_len (omega arith) c.if-line-code.false (omega arith)
