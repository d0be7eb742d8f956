-- `take` meets its contract: a good line in time goes on, and what is no whole line is not taken.
use Rattle.std.proofs.Common.{sym}
use Rattle.streams.proofs.Lines.{taken}
use Rattle.streams.proofs.Near.{arbiter_by_lines}
use Rattle.stimuli.proofs.Taken.{line_taken, short_untaken}
use Rattle.stimuli.proofs.ArbiterTaking.take.Goals as goal

pub stop-requires : goal.stop-requires
stop-requires c = rw c.state.ensures (c.requires.formed, short_untaken _ c.args.rest.now c.if-rest-lt16.true, c.requires.room)

pub returns-in-Some : goal.returns-in-Some
returns-in-Some c =
    let lined = line_taken _ _ _ _ _ _ _ _ _ (c.see_stimulus.ensures.line _ c.in-Some.is) c.go.ensures.0 in
    (lined, taken arbiter_by_lines _ _ (sym lined.flow), c.go.ensures.1)
