-- `turn` meets its contract: what was read is taken and its rest is kept, or the last bytes come to an end, or the read failed.
use Rattle.std.proofs.Common.{arith, refl}
use Rattle.console.specs.Ran.{closes, unread}
use Rattle.console.proofs.Onwards.{again, fits, went}
use Rattle.console.proofs.program.turn.Goals as goal

pub take_last-requires-clause-room : goal.take_last-requires-clause-room
take_last-requires-clause-room g c =
    rw c.first.ensures (fits _ c.read_on.new.buf _ _ _ g.met.P.Program.laws.some (again c.requires.held.lent (omega arith)))

pub returns-in-Ok-Some : goal.returns-in-Ok-Some
returns-in-Ok-Some g c = went _ _ _ _ _ _ _ _ _ _ (rw c.in-Ok-Some.field-0-is at c.in-Ok-Some.ensures) c.go_on.ensures

pub returns-in-Err : goal.returns-in-Err
returns-in-Err g c = closes (unread (c.in-Err.ensures.unread _ refl))
