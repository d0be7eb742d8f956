-- Stimulus lines and trace lines: the two formats, and their readers.
--
--   stimulus, trace == the two formats
--   stimulus_reading, trace_reading == their readers are `reading` of them
--   stimulus_answer_lem, trace_answer_lem == an answer of `reading`, as the reader gives it
use Rattle.std.specs.Prelude.{Err, None, Ok, Some}
use Prim.Native.Nat.{ℕ, ◌+◌}
use mathlib.Core.Path.{◌≡◌, refl, sym, ◌∙◌, ap}
use mathlib.Core.Bool.{Bool, true, false, cond}
use mathlib.Core.List.{List}
use native.Mathlib.Nat.{add_assoc}
use native.Mathlib.Omega.{arith}
use lib.ListN.{get_or}
use Rattle.rules.specs.declared.Refusal.TheVariants as refusal
use Rattle.rules.specs.Results.{Check}
use Rattle.rules.specs.declared.Inputs.{Inputs}
use Rattle.rules.specs.declared.Cycle.{Cycle}
use Rattle.rules.specs.State.{masters_ok}
use Rattle.rules.specs.Valid.{inputs_check}
use Rattle.formats.specs.Results.{StimulusRead, TraceRead}
use Rattle.formats.specs.Columns.{input_values, cycle_values}
use Rattle.formats.specs.Fields.{width}
use Rattle.formats.specs.Lines.{Place, beyond, at_end, cut, whole, place, stimulus_fields, trace_fields, inputs_at, cycle_at, line_check, stimulus_checked, stimulus_in, read_stimulus_of, trace_checked, trace_in, read_trace_of}
use Rattle.formats.specs.Files.{Line, one, no_more, refused, as_stimulus, as_trace}
use Rattle.formats.proofs.Limits.{valid_stimulus_fits, valid_trace_fits, line_valid, stimulus_unfit, trace_unfit}
use Rattle.formats.proofs.Reading.{Format, found, reading}

-- the columns from their values
abbrev inputs_of : List ℕ → Inputs
inputs_of vs =
    record {
      hbusreq = get_or vs 0 0;
      hlock = get_or vs 1 0;
      hready = get_or vs 2 0;
      htrans = get_or vs 3 0;
      hburst = get_or vs 4 0;
    }

abbrev cycle_of : List ℕ → Cycle
cycle_of vs =
    record {
      inputs = inputs_of vs;
      outputs =
          record {
            hgrant = get_or vs 5 0;
            hmaster = get_or vs 6 0;
            hmastlock = get_or vs 7 0;
            decide = get_or vs 8 0;
            granted = get_or vs 9 0;
            busreq = get_or vs 10 0;
          };
    }

abbrev pub stimulus : Format Inputs
stimulus =
    record {
      fields = stimulus_fields;
      columns = input_values;
      at = inputs_at;
      check = inputs_check;
      some = omega arith;
      full = λ a. refl;
      same = λ a b e. ap inputs_of e;
      stands = λ s p. simp add_assoc;
      fits = λ n a range good. valid_stimulus_fits n a good;
      unfit = stimulus_unfit;
    }

abbrev pub trace : Format Cycle
trace =
    record {
      fields = trace_fields;
      columns = cycle_values;
      at = cycle_at;
      check = line_check;
      some = omega arith;
      full = λ a. refl;
      same = λ a b e. ap cycle_of e;
      stands = λ s p. simp add_assoc;
      fits = λ n a range good. valid_trace_fits n a range.many (line_valid n a good);
      unfit = trace_unfit;
    }

module _ (n : ℕ) (s : List ℕ) (p : ℕ) where
  stimulus_checked_lem : (k : Check) → as_stimulus (stimulus_checked k s p) ≡ found whole k (inputs_at s p) (p + width stimulus_fields)
  stimulus_checked_lem (Ok _) = refl
  stimulus_checked_lem (Err r) = refl

  stimulus_found : (ok : Bool) (q : Place)
      → as_stimulus (cond ok (stimulus_in q n s p) (Err refusal.Masters))
      ≡ cond ok (found q (inputs_check n (inputs_at s p)) (inputs_at s p) (p + width stimulus_fields)) (refused refusal.Masters)
  stimulus_found false q = refl
  stimulus_found true beyond = refl
  stimulus_found true at_end = refl
  stimulus_found true cut = refl
  stimulus_found true whole = stimulus_checked_lem (inputs_check n (inputs_at s p))

  pub stimulus_reading : as_stimulus (read_stimulus_of n s p) ≡ reading stimulus n s p
  unfolding read_stimulus_of reading
  stimulus_reading = stimulus_found (masters_ok n) (place stimulus_fields s p)

  trace_checked_lem : (k : Check) → as_trace (trace_checked k s p) ≡ found whole k (cycle_at s p) (p + width trace_fields)
  trace_checked_lem (Ok _) = refl
  trace_checked_lem (Err r) = refl

  trace_found : (ok : Bool) (q : Place)
      → as_trace (cond ok (trace_in q n s p) (Err refusal.Masters))
      ≡ cond ok (found q (line_check n (cycle_at s p)) (cycle_at s p) (p + width trace_fields)) (refused refusal.Masters)
  trace_found false q = refl
  trace_found true beyond = refl
  trace_found true at_end = refl
  trace_found true cut = refl
  trace_found true whole = trace_checked_lem (line_check n (cycle_at s p))

  pub trace_reading : as_trace (read_trace_of n s p) ≡ reading trace n s p
  unfolding read_trace_of reading
  trace_reading = trace_found (masters_ok n) (place trace_fields s p)

abbrev pub stimulus_read : Line Inputs → StimulusRead
stimulus_read (one x next) = Ok (Some (x, next))
stimulus_read no_more = Ok None
stimulus_read (refused r) = Err r

stimulus_back : (r : StimulusRead) → stimulus_read (as_stimulus r) ≡ r
stimulus_back (Ok (Some (x, next))) = refl
stimulus_back (Ok None) = refl
stimulus_back (Err r) = refl

pub stimulus_answer_lem : (n : ℕ) (s : List ℕ) (p : ℕ) (l : Line Inputs) → reading stimulus n s p ≡ l
    → read_stimulus_of n s p ≡ stimulus_read l
stimulus_answer_lem n s p l e = sym (stimulus_back (read_stimulus_of n s p)) ∙ ap stimulus_read (stimulus_reading n s p ∙ e)

abbrev pub trace_read : Line Cycle → TraceRead
trace_read (one c next) = Ok (Some (c, next))
trace_read no_more = Ok None
trace_read (refused r) = Err r

trace_back : (r : TraceRead) → trace_read (as_trace r) ≡ r
trace_back (Ok (Some (c, next))) = refl
trace_back (Ok None) = refl
trace_back (Err r) = refl

pub trace_answer_lem : (n : ℕ) (s : List ℕ) (p : ℕ) (l : Line Cycle) → reading trace n s p ≡ l
    → read_trace_of n s p ≡ trace_read l
trace_answer_lem n s p l e = sym (trace_back (read_trace_of n s p)) ∙ ap trace_read (trace_reading n s p ∙ e)
