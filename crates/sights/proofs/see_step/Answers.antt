-- `see_step` meets its contract: what was seen is the step that is written.
use Rattle.sights.proofs.Whole.{room_left, step_seen}
use Rattle.sights.proofs.see_step.Goals as goal

pub invariant_of-at : goal.invariant_of-at
invariant_of-at c = let h = c.in_ok-head.ensures.cases in
    let room = room_left c.args.n c.args.t c.args.prev c.args.s.now _ c.requires.0 c.if-t-eq0.false c.requires.1 h.same h.enough _ c.in_ok-rest.ensures in
    record { room = room.0; few = room.1 }

pub returns-then-valid-ends : goal.returns-then-valid-ends
returns-then-valid-ends c = let h = c.in_ok-head.ensures.cases in
    step_seen c.args.n c.args.t c.args.prev c.args.s.now _ c.requires.0 c.if-t-eq0.false c.requires.1 h.same h.enough _ c.in_ok-rest.ensures
    _ _ _ c.see_inputs-inputs.ensures _ _ _ c.see_outputs-outputs.ensures _ c.passes-valid.ensures c.see_outputs-outputs.new.at.room c.if-valid-ends.true
