-- What a recorded cycle says, column by column. The judge uses the recorded columns only.
--
--   is_ready c, is_idle c, is_nonseq c, is_seq c == HREADY high; HTRANS IDLE, NONSEQ, SEQ
--   is_incr c        == HBURST is INCR
--   beats c          == the beats of the fixed burst that HBURST names, 0 where it names none
--   is_fixed c       == it names one
--   mastlocked c, decided c, granted c == HMASTLOCK, DECIDE, GRANTED high
--   requested c      == some HBUSREQ is high
--   request i c, lock i c, grant i c == HBUSREQ, HLOCK, HGRANT of master i
--   owners_request c == HBUSREQ of HMASTER
--   handover c       == GRANTED and HREADY both high
--   some_master f    == some master has f
use Rattle.std.specs.Prelude.{ℕ, zero, suc, Bool, true, false, ◌&&◌, ◌||◌, eqb, ltb}
use Rattle.rules.specs.declared.Burst.{Burst}
use Rattle.rules.specs.declared.Burst.TheVariants as burst
use Rattle.rules.specs.declared.Cycle.{Cycle}
use Rattle.rules.specs.Codes.{ready, idle, nonseq, seq, burst_of, most_masters}
use Rattle.rules.specs.Masks.{high, some_high}

abbrev pub is_ready : Cycle → Bool
is_ready c = ready c.inputs

abbrev pub is_idle : Cycle → Bool
is_idle c = idle c.inputs

abbrev pub is_nonseq : Cycle → Bool
is_nonseq c = nonseq c.inputs

abbrev pub is_seq : Cycle → Bool
is_seq c = seq c.inputs

-- the sorts of bursts that the rules speak of: INCR, and the fixed bursts, of which INCR4 is built
abbrev pub unspecified : Burst → Bool
unspecified burst.Single = false
unspecified burst.Unspecified = true
unspecified (burst.Fixed b) = false
unspecified burst.NotBuilt = false
unspecified burst.NoCode = false

abbrev pub beats_of : Burst → ℕ
beats_of burst.Single = 0
beats_of burst.Unspecified = 0
beats_of (burst.Fixed b) = b
beats_of burst.NotBuilt = 0
beats_of burst.NoCode = 0

abbrev pub is_incr : Cycle → Bool
is_incr c = unspecified (burst_of c.inputs.hburst)

abbrev pub beats : Cycle → ℕ
beats c = beats_of (burst_of c.inputs.hburst)

-- INCR4
abbrev pub is_fixed : Cycle → Bool
is_fixed c = ltb 0 (beats c)

abbrev pub mastlocked : Cycle → Bool
mastlocked c = eqb c.outputs.hmastlock 1

abbrev pub decided : Cycle → Bool
decided c = eqb c.outputs.decide 1

abbrev pub granted : Cycle → Bool
granted c = eqb c.outputs.granted 1

abbrev pub requested : Cycle → Bool
requested c = some_high c.inputs.hbusreq

abbrev pub request : ℕ → Cycle → Bool
request i c = high c.inputs.hbusreq i

abbrev pub lock : ℕ → Cycle → Bool
lock i c = high c.inputs.hlock i

abbrev pub grant : ℕ → Cycle → Bool
grant i c = high c.outputs.hgrant i

-- "Owner's request" is HBUSREQ of HMASTER, of the cycle looked at
unfoldable pub owners_request : Cycle → Bool
owners_request c = high c.inputs.hbusreq c.outputs.hmaster

-- "A handover is a cycle with GRANTED and HREADY both high"
unfoldable pub handover : Cycle → Bool
handover c = granted c && is_ready c

-- some number below k has f
unfoldable pub some_below : ℕ → (ℕ → Bool) → Bool
some_below zero f = false
some_below (suc k) f = some_below k f || f k

-- some master has f: an absent master has no line, and a valid mask no bit for it, so all sixteen may be asked
abbrev pub some_master : (ℕ → Bool) → Bool
some_master f = some_below most_masters f
