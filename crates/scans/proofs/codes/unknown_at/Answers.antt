-- `unknown_at` meets its contract.
use Rattle.scans.proofs.Unknown.{code_known}
use Rattle.scans.proofs.codes.unknown_at.Goals as goal

pub returns : goal.returns
returns c = code_known c.args.s.now _ _ _ _ _ c.code_in-code.ensures c.byte_at-a.ensures c.byte_at-b.ensures c.is_printed-printed.ensures c.is_printed-more.ensures
