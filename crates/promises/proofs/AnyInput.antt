-- The promises of specs/AnyInput.antt, each under its name.
--
--   numbered       == a refusal of a line has one of the numbers 3 to 8
--   judge_stops, arbiter_stops == the turn at a line that is refused
use Rattle.std.specs.Prelude.{Err, None, Ok, Some}
use Prim.Native.Nat.{ℕ, ◌+◌, ◌≤◌}
use mathlib.Core.Path.{◌≡◌, refl, sym, ◌∙◌, ap, subst}
use mathlib.Core.Bool.{true}
use mathlib.Core.List.{List, ◌++◌, append-nil}
use native.Mathlib.Omega.{arith}
use borrow.Author.Tests.{le-leb}
use lib.ListN.{length}
use Rattle.rules.specs.declared.Refusal.{Refusal}
use Rattle.rules.specs.declared.Refusal.TheVariants as refusal
use Rattle.rules.specs.declared.State.{State}
use Rattle.rules.specs.declared.Inputs.{Inputs}
use Rattle.rules.specs.declared.Cycle.{Cycle}
use Rattle.rules.specs.Results.{Answer}
use Rattle.rules.specs.Refusals.{number_of}
use Rattle.rules.specs.Codes.{most_cycles}
use Rattle.rules.specs.Step.{step_of}
use Rattle.rules.proofs.WellFormed.{test_of}
use Rattle.rulebook.specs.declared.Rule.{Rule}
use Rattle.rulebook.specs.declared.Judge.{Judge}
use Rattle.rulebook.specs.Results.{Verdict}
use Rattle.rulebook.specs.State.{well_formed}
use Rattle.rulebook.specs.Step.{refused_of, judge_of, report, breaches}
use Rattle.rulebook.specs.Promises.{broken_report}
use Rattle.rulebook.proofs.Promises.{exact_charges, every_valid_trace_is_judged, stays_well_formed}
use Rattle.formats.specs.Results.{StimulusRead, TraceRead}
use Rattle.formats.specs.Lines.{trace_line, stimulus_line, read_stimulus_of, read_trace_of}
use Rattle.formats.specs.Files.{trace_file, stimulus_file, Line, one, no_more, refused, as_stimulus, as_trace}
use Rattle.formats.specs.Report.{refused_line}
use Rattle.formats.specs.Promises.{InRange, Each}
use Rattle.formats.proofs.Given.{OfALine, header_gives, stimulus_gives, trace_gives}
use Rattle.streams.specs.Streams.{stops}
use Rattle.streams.specs.Arbiter.{stepped, stimulated, arbiter_turn, arbiter_program}
use Rattle.streams.specs.Judging.{judged_to, traced, judge_turn, judge_program}
use Rattle.promises.specs.Programs.{report_from}
use Rattle.promises.specs.AnyInput.{Kind, traces, stimuli, no_header, cut_after, whole, Stops, file_for, Begins, Has, EveryInputHasOneForm, RefusedByItsNumber, JudgesAnyInput, TraceAnd, ArbitratesAnyInput, AtTheLimit}
use Rattle.promises.proofs.Forms.{Laws, one_form}
use Rattle.promises.proofs.Readers.{trace_laws, stimulus_laws, trace_front, stimulus_front, short_trace, short_stimulus}
use Rattle.promises.proofs.Fair.{Sound}
use Rattle.promises.proofs.Reported.{tally_of}
use Rattle.promises.proofs.Programs.{valid_places, reported, judged_keeps, report_is_the_verdict, traced as arbitrated, run_keeps, writes_the_trace, every_stimulus_runs}

pub every_input_has_one_form : EveryInputHasOneForm
every_input_has_one_form =
    record { of_traces = one_form traces trace_laws; of_stimuli = one_form stimuli stimulus_laws }

-- a reader's 3 to 7, and 8
numbered : {A : Type 0} (x : Line A) (k : ℕ) (r : Refusal) → ((q : Refusal) → x ≡ refused q → OfALine q) → Stops x k r
    → (3 ≤ number_of r) × (number_of r ≤ 8)
numbered (one a next) k r gives h = rw h.1 (omega arith)
numbered no_more k r gives h = absurd h
numbered (refused q) k r gives h = let g = gives q refl in rw h (omega arith)

pub refused_by_its_number : RefusedByItsNumber
refused_by_its_number =
    record {
      in_traces =
          record {
            of_a_header = λ s r h. header_gives r traces.word s h;
            of_a_line = λ s n l r h.
                numbered (traces.read n s (length (file_for traces n l))) (length l) r
                (λ q e. trace_gives n s (length (file_for traces n l)) q h.1.masters e) h.2;
          };
      in_stimuli =
          record {
            of_a_header = λ s r h. header_gives r stimuli.word s h;
            of_a_line = λ s n l r h.
                numbered (stimuli.read n s (length (file_for stimuli n l))) (length l) r
                (λ q e. stimulus_gives n s (length (file_for stimuli n l)) q h.1.masters e) h.2;
          };
    }

-- the judge's turn: a full judge takes no cycle
judge_full : (j : Judge) (c : Cycle) → well_formed j ≡ true → j.count ≡ most_cycles → (judge_of j c).verdict ≡ Err refusal.Full
unfolding judge_of refused_of
judge_full j c sound full = simp (sound, le-leb most_cycles j.count (omega (arith, full)))

judge_stops : (n k b : ℕ) (r : Refusal) (j : Judge) (rest : List ℕ) → j.n ≡ n → j.count ≡ k → well_formed j ≡ true
    → Stops (as_trace (read_trace_of n rest 0)) k r → judge_turn (tally_of j b) rest ≡ stops (refused_line (k + 2) r)
unfolding judge_turn
judge_stops n k b r j rest masters cycles sound h =
    ap (λ (m : ℕ). traced (read_trace_of m rest 0) (tally_of j b)) masters ∙ go (read_trace_of n rest 0) h
  where
    go : (a : TraceRead) → Stops (as_trace a) k r → traced a (tally_of j b) ≡ stops (refused_line (k + 2) r)
    go (Ok (Some (c, next))) h =
        ap (λ (v : Verdict). judged_to v (judge_of j c) (tally_of j b) next) (judge_full j c sound (cycles ∙ h.0)) ∙ rw (cycles, h.1)
    go (Ok None) h = absurd h
    go (Err q) h = rw (cycles, h)

pub judges_any_input : JudgesAnyInput
judges_any_input s (no_header r) h = unfold judge_program in rw h
judges_any_input s (cut_after n cs r) h =
    let b = h.1 in
    let q = every_valid_trace_is_judged n cs b.masters.few b.masters.many b.room (valid_places n cs b.good) in
    let k = judged_keeps n cs q.0 q.1 in
    ap judge_program b.bytes
    ∙ reported n cs q.0 q.1 h.0 (refused_line (length cs + 2) r) b.masters b.good
    (judge_stops n (length cs) (breaches (report q.1)) r q.0 h.0 k.0 k.1 (stays_well_formed n cs q.0 q.1).0
    (trace_front s n (length cs) r h.0 cs b.bytes h.2))
    ∙ ap (λ (l : List (List Rule)). report_from 0 l ++ refused_line (length cs + 2) r) (exact_charges n cs q.0 q.1).2
judges_any_input s (whole n cs) h =
    ap judge_program (h.bytes ∙ append-nil (trace_file n cs)) ∙ report_is_the_verdict n cs h.masters h.good h.room

-- the arbiter's turn: a full state takes no cycle
step_full : (s : State) (x : Inputs) (n : ℕ) → Sound n s → s.count ≡ most_cycles → step_of s x ≡ Err (refusal.Full, s)
unfolding step_of
step_full s x n sound full = simp (test_of s sound.formed, le-leb most_cycles s.count (omega (arith, full)))

arbiter_stops : (n k : ℕ) (r : Refusal) (t : State) (rest : List ℕ) → Sound n t → t.count ≡ k
    → Stops (as_stimulus (read_stimulus_of n rest 0)) k r → arbiter_turn t rest ≡ stops (refused_line (k + 2) r)
unfolding arbiter_turn
arbiter_stops n k r t rest sound cycles h =
    ap (λ (m : ℕ). stimulated (read_stimulus_of m rest 0) t) sound.masters ∙ go (read_stimulus_of n rest 0) h
  where
    go : (a : StimulusRead) → Stops (as_stimulus a) k r → stimulated a t ≡ stops (refused_line (k + 2) r)
    go (Ok (Some (x, next))) h =
        ap (λ (a : Answer). stepped a x t next) (step_full t x n sound (cycles ∙ h.0)) ∙ rw (cycles, h.1)
    go (Ok None) h = absurd h
    go (Err q) h = rw (cycles, h)

pub arbitrates_any_input : ArbitratesAnyInput
arbitrates_any_input s (no_header r) h = unfold arbiter_program in rw h
arbitrates_any_input s (cut_after n xs r) h =
    let b = h.1 in
    let q = every_stimulus_runs n xs b.masters b.good b.room in
    let k = run_keeps n q.0 q.1 xs q.2 q.3 in
    record {
      first = q.0;
      end = q.1;
      began = q.2;
      run = q.3;
      writes =
          ap arbiter_program b.bytes
          ∙ arbitrated n q.0 q.1 xs h.0 (refused_line (length xs + 2) r) q.2 q.3
          (arbiter_stops n (length xs) r q.1 h.0 k.0 k.1
          (stimulus_front s n (length xs) r h.0 xs b.bytes h.2));
    }
arbitrates_any_input s (whole n xs) h =
    let q = every_stimulus_runs n xs h.masters h.good h.room in
    record {
      first = q.0;
      end = q.1;
      began = q.2;
      run = q.3;
      writes =
          ap arbiter_program (h.bytes ∙ append-nil (stimulus_file n xs))
          ∙ writes_the_trace n q.0 q.1 xs q.2 q.3
          ∙ sym (append-nil _);
    }

-- a million good lines, and the line after them
module _ {A : Type 0} (K : Kind A) (n : ℕ) (l : List A) (range : InRange n) (good : Each (λ a. K.check n a ≡ Ok tt) l) (full : length l ≡ most_cycles) where
  full_begins : (rest : List ℕ) → Begins K (file_for K n l ++ rest) n l rest
  full_begins rest = record { masters = range; good = good; room = omega (arith, full); bytes = refl }

  has_full : (laws : Laws K) (a : A) (rest : List ℕ) → K.check n a ≡ Ok tt
      → Has K (file_for K n l ++ (K.line a ++ rest)) (cut_after n l refusal.Full)
  has_full laws a rest valid = (
    K.line a ++ rest,
    full_begins (K.line a ++ rest),
    subst (λ (x : Line A). Stops x (length l) refusal.Full) (sym (laws.reads n a (file_for K n l) rest range valid)) (full, refl),
  )

  has_stray : (rest : List ℕ) → K.read n (file_for K n l ++ rest) (length (file_for K n l)) ≡ refused refusal.Shape
      → Has K (file_for K n l ++ rest) (cut_after n l refusal.Shape)
  has_stray rest e = (
    rest,
    full_begins rest,
    subst (λ (x : Line A). Stops x (length l) refusal.Shape) (sym e) refl,
  )

-- the line's number, once the lines are counted
module _ (n : ℕ) (cs : List Cycle) (r : Refusal) (rest : List ℕ) (full : length cs ≡ most_cycles) where
  judged_full : Has traces (trace_file n cs ++ rest) (cut_after n cs r)
      → judge_program (trace_file n cs ++ rest) ≡ report_from 0 (broken_report n cs) ++ refused_line 1000002 r
  judged_full h =
      judges_any_input (trace_file n cs ++ rest) (cut_after n cs r) h
      ∙ ap (λ (k : ℕ). report_from 0 (broken_report n cs) ++ refused_line (k + 2) r) full

module _ (n : ℕ) (xs : List Inputs) (r : Refusal) (rest : List ℕ) (full : length xs ≡ most_cycles) where
  arbitrated_full : Has stimuli (stimulus_file n xs ++ rest) (cut_after n xs r)
      → TraceAnd n xs (refused_line 1000002 r) (arbiter_program (stimulus_file n xs ++ rest))
  arbitrated_full h =
      subst (λ (k : ℕ). TraceAnd n xs (refused_line (k + 2) r) (arbiter_program (stimulus_file n xs ++ rest))) full
      (arbitrates_any_input (stimulus_file n xs ++ rest) (cut_after n xs r) h)

pub at_the_limit : AtTheLimit
at_the_limit =
    record {
      judge_full = λ n cs c rest range good valid full.
          judged_full n cs refusal.Full (trace_line c ++ rest) full (has_full traces n cs range good full trace_laws c rest valid);
      judge_stray = λ n cs rest range good full some short.
          judged_full n cs refusal.Shape rest full
          (has_stray traces n cs range good full rest (short_trace n (trace_file n cs) rest range some short));
      arbiter_full = λ n xs x rest range good valid full.
          arbitrated_full n xs refusal.Full (stimulus_line x ++ rest) full (has_full stimuli n xs range good full stimulus_laws x rest valid);
      arbiter_stray = λ n xs rest range good full some short.
          arbitrated_full n xs refusal.Shape rest full
          (has_stray stimuli n xs range good full rest (short_stimulus n (stimulus_file n xs) rest range some short));
    }
