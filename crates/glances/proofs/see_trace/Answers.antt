-- `see_trace` meets its contract.
use Rattle.std.proofs.Common.{◌∙◌, mul-one}
use Rattle.glances.proofs.Seen.{trace_good_seen, trace_bad_seen}
use Rattle.glances.proofs.see_trace.Goals as goal

pub returns-then-good : goal.returns-then-good
returns-then-good c = trace_good_seen _ _ c.requires.1 _ _ _ c.mask_at-hbusreq.ensures c.mask_at-hlock.ensures c.codes_at-codes.ensures
    _ _ _ c.mask_at-hgrant.ensures (c.digit_at-hmaster.ensures.0 ∙ mul-one _) c.flags_at-flags.ensures
    _ _ _ c.apart.ensures c.apart-2.ensures c.apart-3.ensures c.requires.2 c.if-good.true

pub returns-else-good : goal.returns-else-good
returns-else-good c = trace_bad_seen _ _ c.requires.1 _ _ _ c.mask_at-hbusreq.ensures c.mask_at-hlock.ensures c.codes_at-codes.ensures
    _ _ _ c.mask_at-hgrant.ensures (c.digit_at-hmaster.ensures.0 ∙ mul-one _) c.flags_at-flags.ensures
    _ _ _ c.apart.ensures c.apart-2.ensures c.apart-3.ensures c.requires.2 c.if-good.false
