-- Reading a line of either kind is what the format says of it.
--
--   stimulus_read, trace_read == of a stimulus line, and of a trace line
use Rattle.std.proofs.Common.{◌≡◌, ℕ, ◌+◌, List, refl, ap, cond, Ok, Err}
use Rattle.rules.specs.declared.Refusal.TheVariants.{Masters}
use Rattle.rules.specs.Results.{Check}
use Rattle.rules.specs.State.{masters_ok}
use Rattle.rules.specs.Valid.{inputs_check}
use Rattle.formats.specs.Fields.{width}
use Rattle.formats.specs.Lines.{Place, beyond, at_end, cut, whole, place, stimulus_fields, trace_fields, inputs_at, cycle_at, line_check, stimulus_checked, trace_checked, stimulus_in, trace_in, read_stimulus_of, read_trace_of}
use Rattle.lines.specs.Lines.{checked, line_in, read_of}

module _ (n : ℕ) (s : List ℕ) (p : ℕ) where
  stimulus_by : (k : Check) → checked k (inputs_at s p) (p + width stimulus_fields) ≡ stimulus_checked k s p
  stimulus_by (Ok _) = refl
  stimulus_by (Err r) = refl

  stimulus_is : (q : Place) → line_in q (inputs_check n (inputs_at s p)) (inputs_at s p) (p + width stimulus_fields) ≡ stimulus_in q n s p
  stimulus_is beyond = refl
  stimulus_is at_end = refl
  stimulus_is cut = refl
  stimulus_is whole = stimulus_by (inputs_check n (inputs_at s p))

  pub stimulus_read : read_of stimulus_fields inputs_at inputs_check n s p ≡ read_stimulus_of n s p
  unfolding read_of read_stimulus_of
  stimulus_read = ap (λ r. cond (masters_ok n) r (Err Masters)) (stimulus_is (place stimulus_fields s p))

  trace_by : (k : Check) → checked k (cycle_at s p) (p + width trace_fields) ≡ trace_checked k s p
  trace_by (Ok _) = refl
  trace_by (Err r) = refl

  trace_is : (q : Place) → line_in q (line_check n (cycle_at s p)) (cycle_at s p) (p + width trace_fields) ≡ trace_in q n s p
  trace_is beyond = refl
  trace_is at_end = refl
  trace_is cut = refl
  trace_is whole = trace_by (line_check n (cycle_at s p))

  pub trace_read : read_of trace_fields cycle_at line_check n s p ≡ read_trace_of n s p
  unfolding read_of read_trace_of
  trace_read = ap (λ r. cond (masters_ok n) r (Err Masters)) (trace_is (place trace_fields s p))
