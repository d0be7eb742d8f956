-- The phase after a cycle, and DECIDE.
--
--   seen s x             == what a cycle with inputs x shows of the owner of the bus
--   handover s x         == GRANTED and HREADY are both high
--   protected b locked   == the burst b is of a protected kind, where locked says whether HMASTLOCK is high
--   phase_opened b locked == the phase that the first beat of a burst opens
--   phase_low p locked v == the phase after a cycle with GRANTED low
--   phase_after s v      == the phase after a cycle
--   settled p, is_fresh p == the phase is neither Fixed nor Open; it is Fresh
--   opens_later s v      == the first beat of a protected burst is not yet taken
--   decides s v          == DECIDE is high
use Rattle.std.specs.Prelude.{◌-◌, Bool, true, false, not, ◌&&◌, cond, leb}
use Rattle.rules.specs.declared.Burst.{Burst}
use Rattle.rules.specs.declared.Burst.TheVariants as burst
use Rattle.rules.specs.declared.Phase.{Phase}
use Rattle.rules.specs.declared.Phase.TheVariants.{Fresh, Fixed, Open, Done}
use Rattle.rules.specs.declared.State.{State}
use Rattle.rules.specs.declared.Inputs.{Inputs}
use Rattle.rules.specs.declared.Seen.{Seen}
use Rattle.rules.specs.Codes.{ready, nonseq, burst_of}
use Rattle.rules.specs.Masks.{high}

-- the owner of the bus is m: its request is HBUSREQ of m, its lock line HLOCK of m
unfoldable pub seen : State → Inputs → Seen
seen s x =
    record {
      ready = ready x;
      nonseq = nonseq x;
      burst = burst_of x.hburst;
      request = high x.hbusreq s.m;
      lock = high x.hlock s.m;
    }

-- "A handover is a cycle with GRANTED and HREADY both high"
abbrev pub handover : State → Inputs → Bool
handover s x = s.granted && ready x

-- "Protected kind" means INCR4, or INCR while HMASTLOCK is high
abbrev pub protected : Burst → Bool → Bool
protected burst.Single locked = false
protected burst.Unspecified locked = locked
protected (burst.Fixed beats) locked = true
protected burst.NotBuilt locked = false
protected burst.NoCode locked = false

-- Fixed 3 for INCR4; Open for INCR with HMASTLOCK; else Done. Of a fixed burst one beat is taken and the others are to come.
abbrev pub phase_opened : Burst → Bool → Phase
phase_opened burst.Single locked = Done
phase_opened burst.Unspecified locked = cond locked Open Done
phase_opened (burst.Fixed beats) locked = Fixed (beats - 1)
phase_opened burst.NotBuilt locked = Done
phase_opened burst.NoCode locked = Done

-- GRANTED low. Fresh, ready, NONSEQ: opened. Fixed k, ready: Fixed k-1, or Done when k is 1; not ready: unchanged.
-- Open: Done if HBUSREQ of m is low, else Open. Anything else: unchanged.
abbrev pub phase_low : Phase → Bool → Seen → Phase
phase_low Fresh locked v = cond (v.ready && v.nonseq) (phase_opened v.burst locked) Fresh
phase_low (Fixed k) locked v = cond v.ready (cond (leb k 1) Done (Fixed (k - 1))) (Fixed k)
phase_low Open locked v = cond v.request Open Done
phase_low Done locked v = Done

-- GRANTED high, no handover: unchanged. Handover: Fresh. GRANTED low: as above.
unfoldable pub phase_after : State → Seen → Phase
phase_after s v =
    cond s.granted (cond v.ready Fresh s.phase) (phase_low s.phase s.hmastlock v)

-- neither Fixed nor Open
abbrev pub settled : Phase → Bool
settled Fresh = true
settled (Fixed k) = false
settled Open = false
settled Done = true

abbrev pub is_fresh : Phase → Bool
is_fresh Fresh = true
is_fresh (Fixed k) = false
is_fresh Open = false
is_fresh Done = false

-- the phase is Fresh with a protected NONSEQ and HREADY low: the first beat of a protected burst is not yet taken
unfoldable pub opens_later : State → Seen → Bool
opens_later s v =
    is_fresh s.phase && protected v.burst s.hmastlock && v.nonseq && not v.ready

-- "DECIDE is high exactly when GRANTED is low, the phase after this cycle is neither Fixed nor Open, HMASTLOCK and HLOCK of m
-- are not both high, and it is not the case that the phase is Fresh with a protected NONSEQ and HREADY low."
unfoldable pub decides : State → Seen → Bool
decides s v =
    not s.granted && settled (phase_after s v) && not (s.hmastlock && v.lock) && not (opens_later s v)
