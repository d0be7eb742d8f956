-- The promises of specs/Programs.antt, each under its name.
--
--   reported, traced == what the programs write for good lines, and then for the rest
--   judged_keeps, run_keeps == the judge and the state after them
use Rattle.std.specs.Prelude.{Ok}
use Prim.Native.Nat.{ℕ, zero, suc, ◌+◌, ◌≤◌}
use mathlib.Core.Path.{◌≡◌, refl, sym, ◌∙◌, ap, subst}
use mathlib.Core.Bool.{false}
use mathlib.Core.List.{List, [], ◌∷◌, ◌++◌, append_assoc, append-nil}
use native.Mathlib.Nat.{zero-add}
use native.Mathlib.Omega.{arith}
use lib.ListN.{length}
use lib.Seq.{drop-append_seam}
use Rattle.rules.specs.declared.State.{State}
use Rattle.rules.specs.declared.Inputs.{Inputs}
use Rattle.rules.specs.declared.Outputs.{Outputs}
use Rattle.rules.specs.declared.Cycle.{Cycle}
use Rattle.rules.specs.Codes.{most_cycles}
use Rattle.rules.specs.State.{reset_state, reset_of}
use Rattle.rules.specs.Phase.{seen}
use Rattle.rules.specs.Step.{moved, shown, step_of}
use Rattle.rules.proofs.WellFormed.{reset_is, reset_taken, reset_sound}
use Rattle.rules.proofs.Taken.{taken, decide, next_n, next_count}
use Rattle.rules.proofs.Kept.{kept}
use Rattle.rules.proofs.Total.{never_refused}
use Rattle.rulebook.specs.declared.Rule.{Rule}
use Rattle.rulebook.specs.declared.Judge.{Judge}
use Rattle.rulebook.specs.Step.{Judged, breaches, report}
use Rattle.rulebook.specs.Promises.{broken_report, broken_count, ValidTrace}
use Rattle.rulebook.proofs.Answers.{begun}
use Rattle.rulebook.proofs.Promises.{exact_charges, exact_count, every_valid_trace_is_judged, only_valid_traces_are_judged}
use Rattle.formats.specs.declared.Word.TheVariants.{Stim, Trace}
use Rattle.formats.specs.Results.{HeaderRead}
use Rattle.formats.specs.Lines.{stimulus_line, trace_line}
use Rattle.formats.specs.Headers.{header, read_header_of}
use Rattle.formats.specs.Files.{lines_of, stimulus_file, trace_file}
use Rattle.formats.specs.Report.{end_line}
use Rattle.formats.specs.Promises.{InRange, Each, ValidCycle, ValidInputs}
use Rattle.formats.proofs.Promises.{written_header_reads}
use Rattle.streams.specs.Streams.{stops, written}
use Rattle.streams.specs.Arbiter.{arbiter_turn, arbiter_after, arbiter_program}
use Rattle.streams.specs.Judging.{judge_turn, start_tally, judge_after, judge_program}
use Rattle.promises.specs.Machines.{arbiter}
use Rattle.promises.specs.Runs.{Run, stop, more, trace_of}
use Rattle.promises.specs.Promises.{is_guarantee}
use Rattle.promises.specs.Programs.{report_from, ReportIsTheVerdict, WritesTheTrace, EveryStimulusRuns, NoGuaranteeReported}
use Rattle.promises.proofs.Fair.{Sound, run_sound}
use Rattle.promises.proofs.Cleared.{cleared}
use Rattle.promises.proofs.Assumed.{only_assumptions}
use Rattle.promises.proofs.Lines.{file_fuel}
use Rattle.promises.proofs.Reported.{tally_of, end_turn, judged_lines, judging_keeps}
use Rattle.promises.proofs.Traced.{end_turn as end_turn_of, run_lines, run_count}

pub valid_places : (n : ℕ) (cs : List Cycle) → Each (ValidCycle n) cs → ValidTrace n cs
valid_places n [] valid t below = absurd (omega arith)
valid_places n (c ∷ cs) valid zero below = valid.0
valid_places n (c ∷ cs) valid (suc t) below = valid_places n cs valid.1 t (omega arith)

places_valid : (n : ℕ) (cs : List Cycle) → ValidTrace n cs → Each (ValidCycle n) cs
places_valid n [] valid = tt
places_valid n (c ∷ cs) valid = (valid 0 (omega arith), places_valid n cs (λ t below. valid (suc t) (omega arith)))

-- the report on a trace that is judged, from cycle 0 on and with no breach before; then comes the rest
pub reported : (n : ℕ) (cs : List Cycle) (j : Judge) (d : Judged n cs j) (rest last : List ℕ) → InRange n → Each (ValidCycle n) cs
    → judge_turn (tally_of j (breaches (report d))) rest ≡ stops last
    → judge_program (trace_file n cs ++ rest) ≡ report_from 0 (report d) ++ last
unfolding judge_program
reported n cs j d rest last range valid e =
    let lines : List ℕ = lines_of trace_line cs ++ rest in
    let s : List ℕ = header Trace n ++ lines in
    let start = (begun n d.begun).is in
    ap (λ (s : List ℕ). judge_after (read_header_of Trace s) s) (append_assoc (header Trace n) (lines_of trace_line cs) rest)
    ∙ ap (λ (h : HeaderRead). judge_after h s) (written_header_reads Trace n lines range)
    ∙ ap (λ (l : List ℕ). written judge_turn (suc (length s)) (start_tally n) l) (drop-append_seam (header Trace n) lines)
    ∙ ap (λ (j : Judge). written judge_turn (suc (length s)) (tally_of j 0) lines) (sym start)
    ∙ judged_lines n range d.run (suc (length s)) 0 rest last (ap (λ (j : Judge). j.n) start) valid
    (file_fuel trace_line (λ c. omega arith) (header Trace n) cs rest)
    (subst (λ (b : ℕ). judge_turn (tally_of j b) rest ≡ stops last) (sym (zero-add (breaches (report d)))) e)
    ∙ ap (λ (u : ℕ). report_from u (report d) ++ last) (ap (λ (j : Judge). j.count) start)

-- the judge that has taken a whole trace
pub judged_keeps : (n : ℕ) (cs : List Cycle) (j : Judge) → Judged n cs j → (j.n ≡ n) × (j.count ≡ length cs)
judged_keeps n cs j d =
    let start = (begun n d.begun).is in
    let k = judging_keeps d.run in
    let masters = ap (λ (j : Judge). j.n) start in
    let first = ap (λ (j : Judge). j.count) start in
    (k.0 ∙ masters, k.1 ∙ rw (first, zero-add (length cs)))

-- the report on a trace that ends there
reported_whole : (n : ℕ) (cs : List Cycle) (j : Judge) (d : Judged n cs j) → InRange n → Each (ValidCycle n) cs
    → judge_program (trace_file n cs) ≡ report_from 0 (report d) ++ end_line (length cs) (breaches (report d))
reported_whole n cs j d range valid =
    let k = judged_keeps n cs j d in
    ap judge_program (sym (append-nil (trace_file n cs)))
    ∙ reported n cs j d [] (end_line (length cs) (breaches (report d))) range valid
    (end_turn n range j (breaches (report d)) k.0 ∙ ap (λ (c : ℕ). stops (end_line c (breaches (report d)))) k.1)

pub report_is_the_verdict : ReportIsTheVerdict
report_is_the_verdict n cs range valid room =
    let q = every_valid_trace_is_judged n cs range.few range.many room (valid_places n cs valid) in
    reported_whole n cs q.0 q.1 range valid
    ∙ same (length cs) (report q.1) (broken_report n cs) (broken_count n cs) (exact_charges n cs q.0 q.1).2 (exact_count n cs q.0 q.1)
  where
    same : (k : ℕ) (l m : List (List Rule)) (b : ℕ) → l ≡ m → breaches l ≡ b
        → report_from 0 l ++ end_line k (breaches l) ≡ report_from 0 m ++ end_line k b
    same k l m b e sum = rw (sum, e)

-- the trace of a run from reset; then comes the rest
pub traced : (n : ℕ) (s t : State) (xs : List Inputs) (rest last : List ℕ) → reset_of n ≡ Ok s → (r : Run arbiter s xs t)
    → arbiter_turn t rest ≡ stops last
    → arbiter_program (stimulus_file n xs ++ rest) ≡ trace_file n (trace_of r) ++ last
unfolding arbiter_program
traced n s t xs rest last began r e =
    let b = reset_is n s began in
    let range : InRange n = record { few = b.few; many = b.many } in
    let lines : List ℕ = lines_of stimulus_line xs ++ rest in
    let f : List ℕ = header Stim n ++ lines in
    ap (λ (s : List ℕ). arbiter_after (read_header_of Stim s) s) (append_assoc (header Stim n) (lines_of stimulus_line xs) rest)
    ∙ ap (λ (h : HeaderRead). arbiter_after h f) (written_header_reads Stim n lines range)
    ∙ ap (λ (l : List ℕ). header Trace n ++ l)
    (ap (λ (l : List ℕ). written arbiter_turn (suc (length f)) (reset_state n) l) (drop-append_seam (header Stim n) lines)
    ∙ ap (λ (u : State). written arbiter_turn (suc (length f)) u lines) (sym b.is)
    ∙ run_lines r (suc (length f)) rest last (subst (λ (u : State). InRange u.n) (sym b.is) range)
    (file_fuel stimulus_line (λ x. omega arith) (header Stim n) xs rest) e)
    ∙ sym (append_assoc (header Trace n) (lines_of trace_line (trace_of r)) last)

-- the state after a run from reset
pub run_keeps : (n : ℕ) (s t : State) (xs : List Inputs) → reset_of n ≡ Ok s → Run arbiter s xs t → Sound n t × (t.count ≡ length xs)
run_keeps n s t xs began r =
    let b = reset_is n s began in
    let first : s.count ≡ 0 = ap (λ (u : State). u.count) b.is in
    let start : Sound n s = subst (Sound n) (sym b.is) (record { formed = reset_sound n b.few b.many; masters = refl }) in
    (run_sound start r, run_count r ∙ rw (first, zero-add (length xs)))

pub writes_the_trace : WritesTheTrace
writes_the_trace n s t xs began r =
    let k = (run_keeps n s t xs began r).0 in
    let range : InRange t.n = record { few = k.formed.few; many = k.formed.many } in
    ap arbiter_program (sym (append-nil (stimulus_file n xs)))
    ∙ traced n s t xs [] [] began r (end_turn_of t range)
    ∙ append-nil (trace_file n (trace_of r))

-- a well-formed state takes every list of valid inputs that its count has room for
run_of : (n : ℕ) (xs : List Inputs) (s : State) → Sound n s → s.count + length xs ≤ most_cycles → Each (ValidInputs n) xs
    → (t : State) × Run arbiter s xs t
run_of n [] s f room valid = (s, stop)
run_of n (x ∷ xs) s f room valid =
    let q = never_refused s x f.formed (omega arith) (rw f.masters valid.0) in
    go (moved s x (decide s x) q.0) (shown s (seen s x) (decide s x)) q.1
    (λ s' g fits. run_of n xs s' g fits valid.1)
  where
    go : (s' : State) (o : Outputs) → step_of s x ≡ Ok (s', o)
        → ((s' : State) → Sound n s' → s'.count + length xs ≤ most_cycles → (t : State) × Run arbiter s' xs t)
        → (t : State) × Run arbiter s (x ∷ xs) t
    go s' o e later =
        let k = taken s x s' o e in
        let r =
        later s' (record { formed = kept s x s' o k; masters = next_n s x s' o k ∙ f.masters }) (omega (arith, next_count s x s' o k)) in
        (r.0, more {t = r.0} e r.1)

pub every_stimulus_runs : EveryStimulusRuns
every_stimulus_runs n xs range valid room =
    let s : State = reset_state n in
    let f : Sound n s = record { formed = reset_sound n range.few range.many; masters = refl } in
    let r = run_of n xs s f (omega arith) valid in
    (s, r.0, reset_taken n range.few range.many, r.1)

-- a run shows a cycle for each of its inputs
shows_each : {s t : State} {xs : List Inputs} (r : Run arbiter s xs t) → length (trace_of r) ≡ length xs
unfolding trace_of
shows_each stop = refl
shows_each (more e r) = ap suc (shows_each r)

-- the judging program on the trace of a run
run_reported : (n : ℕ) (s t : State) (xs : List Inputs) → InRange n → reset_of n ≡ Ok s → (r : Run arbiter s xs t)
    → (l : List (List Rule)) × Each (Each (λ r. is_guarantee r ≡ false)) l
    × (judge_program (trace_file n (trace_of r)) ≡ report_from 0 l ++ end_line (length xs) (breaches l))
run_reported n s t xs range began r =
    let q = (cleared n s t xs began r).0 in
    let d = q.1 in
    let v = only_valid_traces_are_judged n (trace_of r) q.0 d in (
      report d,
      subst (Each (Each (λ r. is_guarantee r ≡ false))) (sym (exact_charges n (trace_of r) q.0 d).2) (only_assumptions n s t xs began r),
      reported_whole n (trace_of r) q.0 d range (places_valid n (trace_of r) v.3)
          ∙ ap (λ (k : ℕ). report_from 0 (report d) ++ end_line k (breaches (report d))) (shows_each r),
    )

pub no_guarantee_reported : NoGuaranteeReported
no_guarantee_reported n xs range valid room =
    let q = every_stimulus_runs n xs range valid room in
    let a = run_reported n q.0 q.1 xs range q.2 q.3 in
    (a.0, a.1, ap judge_program (writes_the_trace n q.0 q.1 xs q.2 q.3) ∙ a.2)
