-- What the readers and writers answer. A refusal is an error.
--
--   HeaderRead     == a header read: n, and the position after it
--   LineRead A     == a line read: its columns and the position after it, or that no more come
--   StimulusRead, TraceRead == a line of either kind
--   Written        == how many bytes were written, from the start of the lent buffer on
use Rattle.std.specs.Prelude.{ℕ, Option, Result}
use Rattle.rules.specs.declared.Refusal.{Refusal}
use Rattle.rules.specs.declared.Inputs.{Inputs}
use Rattle.rules.specs.declared.Cycle.{Cycle}

abbrev pub HeaderRead : Type 0
HeaderRead = Result (ℕ × ℕ) Refusal

abbrev pub LineRead : Type 0 → Type 0
LineRead A = Result (Option (A × ℕ)) Refusal

abbrev pub StimulusRead : Type 0
StimulusRead = LineRead Inputs

abbrev pub TraceRead : Type 0
TraceRead = LineRead Cycle

abbrev pub Written : Type 0
Written = Result ℕ Refusal
