-- The number of an answer says which refusal it is, and whether it is one.
--
--   header_number, stimulus_number, trace_number, written_number == an answer has the number of a refusal exactly where it is that refusal
--   stimulus_ended, trace_ended == a reading that ends the lines, as `reading` answers it
use Rattle.std.specs.Prelude.{Err, None, Ok, Some}
use mathlib.Core.Path.{◌≡◌, refl, ap}
use mathlib.Core.Logic.{◌↔◌}
use mathlib.Core.Bool.{true, false≢true}
use native.Mathlib.Omega.{arith}
use Rattle.rules.specs.declared.Refusal.{Refusal}
use Rattle.rules.specs.Refusals.{number_of}
use Rattle.formats.specs.Results.{HeaderRead, StimulusRead, TraceRead, Written}
use Rattle.formats.specs.Answers.{header_answer, stimulus_answer, stimulus_ends, trace_answer, trace_ends, written_answer}
use Rattle.formats.specs.Files.{no_more, as_stimulus, as_trace}
use Rattle.formats.proofs.Report.{refusal_same, refusal_some}

module _ (r : Refusal) where
  none : {A : Type 0} → 0 ≡ number_of r → A
  none e = absurd (omega (arith, refusal_some r, e))

  header_is : (a : HeaderRead) → header_answer a ≡ number_of r → a ≡ Err r
  header_is (Ok (n, next)) e = none e
  header_is (Err q) e = ap Err (refusal_same q r e)

  pub header_number : (a : HeaderRead) → (header_answer a ≡ number_of r) ↔ (a ≡ Err r)
  header_number a = (header_is a, λ e. ap header_answer e)

  stimulus_is : (a : StimulusRead) → stimulus_answer a ≡ number_of r → a ≡ Err r
  stimulus_is (Ok (Some (x, next))) e = none e
  stimulus_is (Ok None) e = none e
  stimulus_is (Err q) e = ap Err (refusal_same q r e)

  pub stimulus_number : (a : StimulusRead) → (stimulus_answer a ≡ number_of r) ↔ (a ≡ Err r)
  stimulus_number a = (stimulus_is a, λ e. ap stimulus_answer e)

  trace_is : (a : TraceRead) → trace_answer a ≡ number_of r → a ≡ Err r
  trace_is (Ok (Some (c, next))) e = none e
  trace_is (Ok None) e = none e
  trace_is (Err q) e = ap Err (refusal_same q r e)

  pub trace_number : (a : TraceRead) → (trace_answer a ≡ number_of r) ↔ (a ≡ Err r)
  trace_number a = (trace_is a, λ e. ap trace_answer e)

  written_is : (a : Written) → written_answer a ≡ number_of r → a ≡ Err r
  written_is (Ok k) e = none e
  written_is (Err q) e = ap Err (refusal_same q r e)

  pub written_number : (a : Written) → (written_answer a ≡ number_of r) ↔ (a ≡ Err r)
  written_number a = (written_is a, λ e. ap written_answer e)

pub stimulus_ended : (a : StimulusRead) → stimulus_ends a ≡ true → as_stimulus a ≡ no_more
stimulus_ended (Ok (Some (x, next))) e = absurd (false≢true e)
stimulus_ended (Ok None) e = refl
stimulus_ended (Err r) e = absurd (false≢true e)

pub trace_ended : (a : TraceRead) → trace_ends a ≡ true → as_trace a ≡ no_more
trace_ended (Ok (Some (c, next))) e = absurd (false≢true e)
trace_ended (Ok None) e = refl
trace_ended (Err r) e = absurd (false≢true e)
