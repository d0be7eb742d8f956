-- The two kinds of file: their laws, and what their readers find behind good lines.
--
--   trace_laws, stimulus_laws == the laws that one form asks
--   trace_front, stimulus_front == behind good lines a line is refused as it is at the front of the rest
--   short_trace, short_stimulus == a line that is cut there is 3
use Rattle.std.specs.Prelude.{Err, None, Ok, Some}
use Prim.Native.Nat.{ℕ, ◌<◌}
use mathlib.Core.Path.{◌≡◌, refl, ◌∙◌, ap, subst}
use mathlib.Core.Bool.{true}
use mathlib.Core.List.{List, ◌++◌}
use native.Mathlib.Omega.{arith}
use lib.ListN.{length, length-append}
use Rattle.rules.specs.declared.Refusal.{Refusal}
use Rattle.rules.specs.declared.Refusal.TheVariants as refusal
use Rattle.rules.specs.declared.Inputs.{Inputs}
use Rattle.rules.specs.declared.Cycle.{Cycle}
use Rattle.formats.specs.Results.{StimulusRead, TraceRead}
use Rattle.formats.specs.Answers.{stimulus_ends, trace_ends}
use Rattle.formats.specs.Lines.{read_stimulus_of, read_trace_of}
use Rattle.formats.specs.Files.{trace_file, stimulus_file, Line, one, no_more, refused, as_stimulus, as_trace}
use Rattle.formats.specs.Promises.{InRange}
use Rattle.formats.proofs.Reading.{cut_refused}
use Rattle.formats.proofs.Lines.{stimulus as stimulus_format, trace as trace_format, stimulus_reading, trace_reading}
use Rattle.formats.proofs.Behind.{later, stimulus_behind, trace_behind}
use Rattle.formats.proofs.Promises.{written_stimulus_line_reads, read_stimulus_line_writes, written_trace_line_reads, read_trace_line_writes, no_more_at_the_end}
use Rattle.promises.specs.AnyInput.{traces, stimuli, Stops}
use Rattle.promises.proofs.Forms.{Laws}

-- what a reader answered, from what it found
trace_line_lem : (r : TraceRead) (c : Cycle) (next : ℕ) → as_trace r ≡ one c next → r ≡ Ok (Some (c, next))
trace_line_lem (Ok (Some (d, k))) c next e = cc
trace_line_lem (Ok None) c next e = let z : ◌≡◌ {A = ℕ} 0 1 = cc in absurd (omega arith)
trace_line_lem (Err r) c next e = let z : ◌≡◌ {A = ℕ} 0 1 = cc in absurd (omega arith)

trace_none : (r : TraceRead) → as_trace r ≡ no_more → trace_ends r ≡ true
trace_none (Ok (Some (d, k))) e = let z : ◌≡◌ {A = ℕ} 0 1 = cc in absurd (omega arith)
trace_none (Ok None) e = refl
trace_none (Err r) e = let z : ◌≡◌ {A = ℕ} 0 1 = cc in absurd (omega arith)

stimulus_line_lem : (r : StimulusRead) (x : Inputs) (next : ℕ) → as_stimulus r ≡ one x next → r ≡ Ok (Some (x, next))
stimulus_line_lem (Ok (Some (d, k))) c next e = cc
stimulus_line_lem (Ok None) c next e = let z : ◌≡◌ {A = ℕ} 0 1 = cc in absurd (omega arith)
stimulus_line_lem (Err r) c next e = let z : ◌≡◌ {A = ℕ} 0 1 = cc in absurd (omega arith)

stimulus_none : (r : StimulusRead) → as_stimulus r ≡ no_more → stimulus_ends r ≡ true
stimulus_none (Ok (Some (d, k))) e = let z : ◌≡◌ {A = ℕ} 0 1 = cc in absurd (omega arith)
stimulus_none (Ok None) e = refl
stimulus_none (Err r) e = let z : ◌≡◌ {A = ℕ} 0 1 = cc in absurd (omega arith)

pub trace_laws : Laws traces
trace_laws =
    record {
      size = 31;
      some = omega arith;
      long = λ c. refl;
      reads = λ n c pre post range good. ap as_trace (written_trace_line_reads n c pre post range good);
      wrote = λ n s p c next e.
          let w = read_trace_line_writes n s p c next (trace_line_lem (read_trace_of n s p) c next e) in
          (w.1, w.2, w.3);
      ends = λ n s range. ap as_trace (no_more_at_the_end.trace_line_lem n s range);
      only = λ n s p e. (no_more_at_the_end.trace_only n s p (trace_none (read_trace_of n s p) e)).1;
    }

pub stimulus_laws : Laws stimuli
stimulus_laws =
    record {
      size = 16;
      some = omega arith;
      long = λ x. refl;
      reads = λ n x pre post range good. ap as_stimulus (written_stimulus_line_reads n x pre post range good);
      wrote = λ n s p x next e.
          let w = read_stimulus_line_writes n s p x next (stimulus_line_lem (read_stimulus_of n s p) x next e) in
          (w.1, w.2, w.3);
      ends = λ n s range. ap as_stimulus (no_more_at_the_end.stimulus_line_lem n s range);
      only = λ n s p e. (no_more_at_the_end.stimulus_only n s p (stimulus_none (read_stimulus_of n s p) e)).1;
    }

-- behind the good lines the reader finds what it finds at the front of the rest
stops_front : {A : Type 0} (m : ℕ) (x y : Line A) (k : ℕ) (r : Refusal) → y ≡ later m x → Stops y k r → Stops x k r
stops_front m (one a next) y k r e h = subst (λ (y : Line _). Stops y k r) e h
stops_front m no_more y k r e h = subst (λ (y : Line _). Stops y k r) e h
stops_front m (refused q) y k r e h = subst (λ (y : Line _). Stops y k r) e h

module _ (s : List ℕ) (n k : ℕ) (r : Refusal) (rest : List ℕ) where
  pub trace_front : (cs : List Cycle) → s ≡ trace_file n cs ++ rest → Stops (as_trace (read_trace_of n s (length (trace_file n cs)))) k r
      → Stops (as_trace (read_trace_of n rest 0)) k r
  trace_front cs e =
      stops_front (length (trace_file n cs)) (as_trace (read_trace_of n rest 0)) (as_trace (read_trace_of n s (length (trace_file n cs)))) k r
      (ap (λ (t : List ℕ). as_trace (read_trace_of n t (length (trace_file n cs)))) e ∙ trace_behind (trace_file n cs) rest n)

  pub stimulus_front : (xs : List Inputs) → s ≡ stimulus_file n xs ++ rest → Stops (as_stimulus (read_stimulus_of n s (length (stimulus_file n xs)))) k r
      → Stops (as_stimulus (read_stimulus_of n rest 0)) k r
  stimulus_front xs e =
      stops_front (length (stimulus_file n xs)) (as_stimulus (read_stimulus_of n rest 0)) (as_stimulus (read_stimulus_of n s (length (stimulus_file n xs)))) k r
      (ap (λ (t : List ℕ). as_stimulus (read_stimulus_of n t (length (stimulus_file n xs)))) e ∙ stimulus_behind (stimulus_file n xs) rest n)

module _ (n : ℕ) (pre rest : List ℕ) (range : InRange n) (some : 0 < length rest) where
  pub short_trace : length rest < 31 → as_trace (read_trace_of n (pre ++ rest) (length pre)) ≡ refused refusal.Shape
  short_trace short =
      trace_reading n (pre ++ rest) (length pre)
      ∙ cut_refused trace_format n (pre ++ rest) (length pre) range (omega (arith, length-append pre rest)) (omega (arith, length-append pre rest))

  pub short_stimulus : length rest < 16 → as_stimulus (read_stimulus_of n (pre ++ rest) (length pre)) ≡ refused refusal.Shape
  short_stimulus short =
      stimulus_reading n (pre ++ rest) (length pre)
      ∙ cut_refused stimulus_format n (pre ++ rest) (length pre) range (omega (arith, length-append pre rest)) (omega (arith, length-append pre rest))
