-- `go` meets its contract: the charges as they are found are those of the definition, and their lines are written.
use native.Mathlib.Omega.{arith}
use Rattle.rulebook.proofs.WellFormed.{test_of}
use Rattle.charging.proofs.Ready.{ready_of}
use Rattle.traces.proofs.Taken.{few_named, went_on}
use Rattle.traces.proofs.go.Goals as goal

pub charge_all-charged-requires : goal.charge_all-charged-requires
charge_all-charged-requires c = let p = c.requires in (ready_of _ _ (test_of _ p.0.judge) p.1 p.2, c.keep-kept.ensures.1)

pub overflow_add-tally : goal.overflow_add-tally
overflow_add-tally c = let p = c.requires in
    omega (arith, few_named _ c.put_breaches-found.ensures, p.0.few, p.1)

pub returns : goal.returns
returns c = let p = c.requires in
    went_on c.args.b c.args.c p.0 _ _ _ _ _ _ p.1 p.2 c.keep-kept.ensures.0 c.charge_all-charged.ensures.0 c.put_breaches-found.ensures
