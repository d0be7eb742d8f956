-- `go` meets its contract: the step that is taken, and its trace line.
use Rattle.stimuli.proofs.Taken.{good_inputs, same_text, gone}
use Rattle.glances.proofs.Shown.{driven}
use borrow.Author.Rules.{rules}
use Rattle.stimuli.proofs.go.Goals as goal

pub advance-went-requires : goal.advance-went-requires
advance-went-requires c = let p = c.requires in (p.0, p.1, p.2, good_inputs _ _ _ p.3)

pub put_trace-requires : goal.put_trace-requires
put_trace-requires c = let p = c.requires in
    (p.4, search rules, same_text _ _ _ p.3, driven _ _ _ _ c.advance-went.ensures.0)

pub returns : goal.returns
returns c = let e = c.advance-went.ensures in
    (gone _ _ _ _ e.0 _ _ c.requires.5 c.put_trace.ensures, e.1)
