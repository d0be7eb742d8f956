-- `see_stimulus` meets its contract.
use Rattle.std.proofs.Common.{eq-eqb, ne_eqb}
use Rattle.glances.proofs.Seen.{stimulus_good_seen, stimulus_bad_seen}
use Rattle.glances.proofs.see_stimulus.Goals as goal

pub returns-then-good : goal.returns-then-good
returns-then-good c = let a = c.args in
    stimulus_good_seen a.n a.s.now c.requires.1 _ _ _ c.mask_at-hbusreq.ensures c.mask_at-hlock.ensures c.codes_at-codes.ensures
    _ c.apart-apart.ensures c.requires.2 (eq-eqb _ _ c.if-good.true)

pub returns-else-good : goal.returns-else-good
returns-else-good c = let a = c.args in
    stimulus_bad_seen a.n a.s.now c.requires.1 _ _ _ c.mask_at-hbusreq.ensures c.mask_at-hlock.ensures c.codes_at-codes.ensures
    _ c.apart-apart.ensures c.requires.2 (ne_eqb _ _ c.if-good.false)
