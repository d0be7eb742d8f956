-- The calls of the simulator host. "Order: 9, then as a step; other bytes are refusal 10. In longer buffers only the first 12 and
-- 31 bytes are used." A refusal changes no byte of either buffer. A step shows its cycle in a second buffer: as the trace line, or its six
-- outputs as numbers.
--
--   output_bytes o      == the six outputs as eight bytes
--   Display, as_line, as_numbers == what the second buffer gets: so many bytes, and which
--   lent a b c d e      == the five inputs that the host passes as numbers
--   host_step d state shown x == what a step of the lent bytes comes to
--   state_stored s buffer, cycle_stored d c buffer == a buffer that gets the state s, or the cycle c
--   host_number o       == the number that it answers: 0, or that of the refusal
--   host_state o buffer, host_shown d o buffer == the two buffers afterwards
--   host_reset n state  == what a reset of the lent bytes comes to; reset_answer gives its number
--   host_start a buffer == the buffer afterwards
--   StepCall d, ResetCall == the contracts of the calls
use Rattle.std.specs.Prelude.{ℕ, ◌≡◌, cond, List, [], ◌∷◌, ◌++◌, ltb, length, drop, Err, None, Ok, Some}
use Rattle.rules.specs.declared.Refusal.TheVariants.{Short, State as StateRefusal}
use Rattle.rules.specs.declared.State.{State}
use Rattle.rules.specs.declared.Inputs.{Inputs}
use Rattle.rules.specs.declared.Outputs.{Outputs}
use Rattle.rules.specs.declared.Cycle.{Cycle}
use Rattle.rules.specs.Results.{Start, Answer}
use Rattle.rules.specs.Refusals.{number_of, reset_answer}
use Rattle.rules.specs.State.{reset_of}
use Rattle.rules.specs.Step.{step_of}
use Rattle.formats.specs.Fields.{width}
use Rattle.formats.specs.Lines.{trace_fields, trace_line}
use Rattle.words.specs.Words.{low_first}
use Rattle.hosting.specs.Results.{Lent, Outcome}
use Rattle.hosting.specs.Bytes.{state_size, state_bytes, bytes_state}

-- HGRANT low byte first, HMASTER, HMASTLOCK, DECIDE, GRANTED, BUSREQ, 0
unfoldable pub output_bytes : Outputs → List ℕ
output_bytes o = low_first 2 o.hgrant ++ (o.hmaster ∷ o.hmastlock ∷ o.decide ∷ o.granted ∷ o.busreq ∷ 0 ∷ [])

pub record Display : Type 0 where
  pub size : ℕ
  pub bytes : Cycle → List ℕ

-- "a second buffer gets the 31-byte line"
abbrev pub as_line : Display
as_line = record { size = width trace_fields; bytes = trace_line }

abbrev pub as_numbers : Display
as_numbers = record { size = 8; bytes = λ c. output_bytes c.outputs }

-- HBUSREQ, HLOCK, HREADY, HTRANS, HBURST
abbrev pub lent : ℕ → ℕ → ℕ → ℕ → ℕ → Inputs
lent hbusreq hlock hready htrans hburst =
    record { hbusreq = hbusreq; hlock = hlock; hready = hready; htrans = htrans; hburst = hburst }

abbrev pub of_answer : Answer → Inputs → Outcome
of_answer (Ok (t, o)) x = Ok (t, record { inputs = x; outputs = o })
of_answer (Err (r, t)) x = Err r

-- 10 where the bytes are no state; else as a step of that state, which gives 10 where it is not well formed
unfoldable pub of_lent : Lent → Inputs → Outcome
of_lent (Some s) x = of_answer (step_of s x) x
of_lent None x = Err StateRefusal

unfoldable pub host_step : Display → List ℕ → List ℕ → Inputs → Outcome
host_step d state shown x =
    cond (ltb (length state) state_size) (Err Short)
    (cond (ltb (length shown) d.size) (Err Short) (of_lent (bytes_state state) x))

abbrev pub host_number : Outcome → ℕ
host_number (Ok (t, c)) = 0
host_number (Err r) = number_of r

-- the first bytes of a buffer, and the rest as it was
unfoldable pub state_stored : State → List ℕ → List ℕ
state_stored s buffer = state_bytes s ++ drop state_size buffer

unfoldable pub cycle_stored : Display → Cycle → List ℕ → List ℕ
cycle_stored d c buffer = d.bytes c ++ drop d.size buffer

abbrev pub host_state : Outcome → List ℕ → List ℕ
host_state (Ok (t, c)) buffer = state_stored t buffer
host_state (Err r) buffer = buffer

abbrev pub host_shown : Display → Outcome → List ℕ → List ℕ
host_shown d (Ok (t, c)) buffer = cycle_stored d c buffer
host_shown d (Err r) buffer = buffer

-- 9, then as reset: 1
unfoldable pub host_reset : ℕ → List ℕ → Start
host_reset n state = cond (ltb (length state) state_size) (Err Short) (reset_of n)

abbrev pub host_start : Start → List ℕ → List ℕ
host_start (Ok s) buffer = state_stored s buffer
host_start (Err r) buffer = buffer

-- what the calls promise: of the answer r, and of every byte of the buffers at exit
abbrev pub StepCall : Display → Inputs → List ℕ → List ℕ → ℕ → List ℕ → List ℕ → Type 0
StepCall d x state shown r state' shown' =
    (r ≡ host_number (host_step d state shown x))
    × (state' ≡ host_state (host_step d state shown x) state)
    × (shown' ≡ host_shown d (host_step d state shown x) shown)

abbrev pub ResetCall : ℕ → List ℕ → ℕ → List ℕ → Type 0
ResetCall n state r state' = (r ≡ reset_answer (host_reset n state)) × (state' ≡ host_start (host_reset n state) state)
