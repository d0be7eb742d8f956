-- `reset` meets its contract: 9, then as reset.
use mathlib.Core.Path.{◌∙◌}
use native.Mathlib.Omega.{arith}
use borrow.Author.Rules.{rules}
use Rattle.std.specs.Prelude.{Ok}
use Rattle.arbitration.proofs.Close.{numbered}
use Rattle.host.proofs.Close.{state_whole, first_long, ready_sound, reset_short, reset_refused, reset_ready}
use Rattle.host.proofs.reset.Goals as goal

pub returns-in_err-state : goal.returns-in_err-state
returns-in_err-state c = reset_short _ _ _ (search rules) (search rules)

pub returns-in_err-start : goal.returns-in_err-start
returns-in_err-start c = reset_refused _ _ _ (search rules) _ c.in_err-start.field-0.0 (search rules) (search rules) (search rules)

pub bus_of-bus-requires : goal.bus_of-bus-requires
bus_of-bus-requires c = ready_sound c.args.n _ (search rules)

pub put-requires : goal.put-requires
put-requires c = let formed = ready_sound c.args.n c.in_ok-start.start (search rules) in
    let size = first_long c.args.state.now c.in_ok-state.state.now (search rules) (search rules) in
    (numbered c.bus_of-bus.ensures.0 formed, c.bus_of-bus.ensures.1, omega (arith, size))

pub returns : goal.returns
returns c = let size = first_long c.args.state.now c.in_ok-state.state.now (search rules) (search rules) in
    reset_ready _ _ (Ok tt) (search rules) _ c.in_ok-start.start _ (search rules) c.bus_of-bus.ensures.0 (c.put.ensures ∙ state_whole _ _ size)
