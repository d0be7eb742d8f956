-- The promises of specs/Promises.antt, each proved by the law of its name.
use Rattle.std.specs.Prelude.{Err, Ok}
use Prim.Native.Nat.{ℕ, zero, suc, ◌<◌}
use mathlib.Core.Path.{◌≡◌, refl, sym, ◌∙◌, ap}
use mathlib.Core.List.{List, []}
use native.Mathlib.Omega.{arith}
use borrow.Author.Tests.{le-leb, lt-leb}
use lib.ListN.{length, get_or}
use lib.Seq.{ext_get_or}
use Rattle.rules.specs.declared.Cycle.{Cycle}
use Rattle.rules.specs.Codes.{most_cycles}
use Rattle.rules.specs.Valid.{cycle_check}
use Rattle.rules.proofs.Promises.{some_number}
use Rattle.rulebook.specs.declared.Rule.{Rule}
use Rattle.rulebook.specs.declared.Judge.{Judge}
use Rattle.rulebook.specs.Results.{Verdict}
use Rattle.rulebook.specs.declared.Judgement.{Judgement}
use Rattle.rulebook.specs.Rules.{rules, broken_at, broken_rules}
use Rattle.rulebook.specs.State.{start_judge, start_of}
use Rattle.rulebook.specs.Step.{number_of, refused_of, taken_of, judge_of, flagged, charged_rules, Judged, report, breaches}
use Rattle.rulebook.specs.Kept.{kept_of, Sound}
use Rattle.rulebook.specs.Promises.{each, total, broken_report, ExactCharges, ChargedWhereBroken, ChargedOnce, ExactCount, KeepsTheHistory, StaysWellFormed, TestIsFacts, NeverRefused, TakenOnlyThen, RefusalsHandBack, TakenByNumber, HandsBackByNumber, FirstTestAnswers, EveryValidTraceIsJudged, OnlyValidTracesAreJudged}
use Rattle.rulebook.proofs.Exact.{kept_start}
use Rattle.rulebook.proofs.Soundness.{start_sound}
use Rattle.rulebook.proofs.WellFormed.{test_of, facts_of}
use Rattle.rulebook.proofs.Answers.{accepted, taken, refused, begun, begins}
use Rattle.rulebook.proofs.Listed.{every_rule, those_has, has_those}
use Rattle.rulebook.proofs.Once.{those_distinct, charged_distinct, run_distinct}
use Rattle.rulebook.proofs.Whole.{places, ends_at, charges_length, run_sound, run_of, run_limits}

-- lists by their entries
each_length : {A : Type 0} (k : ℕ) (f : ℕ → A) → length (each k f) ≡ k
unfolding each
each_length zero f = refl
each_length (suc k) f = ap suc (each_length k (λ t. f (suc t)))

each_at : {A : Type 0} (k : ℕ) (f : ℕ → A) (d : A) (t : ℕ) → t < k → get_or (each k f) t d ≡ f t
unfolding each
each_at zero f d t below = absurd (omega arith)
each_at (suc k) f d zero below = refl
each_at (suc k) f d (suc t) below = each_at k (λ t. f (suc t)) d t (omega arith)

each_breaches : (k : ℕ) (f : ℕ → List Rule) → breaches (each k f) ≡ total k (λ t. length (f t))
unfolding each total breaches
each_breaches zero f = refl
each_breaches (suc k) f = rw (each_breaches k (λ t. f (suc t)))

-- a trace that is judged begins with the judge of a start
module _ (n : ℕ) (trace : List Cycle) (j : Judge) (d : Judged n trace j) where
  start_kept : (start_of n).judge ≡ kept_of n []
  start_kept = (begun n d.begun).is ∙ sym (kept_start n)

  some_masters : 0 < n
  some_masters = omega (arith, begun n d.begun)

  sound_start : Sound (start_of n).judge
  sound_start = let b = begun n d.begun in rw b.is (start_sound n b.few b.many)

  report_length : length (report d) ≡ length trace
  report_length = charges_length d.run

  report_at : (t : ℕ) → t < length trace → get_or (report d) t [] ≡ broken_rules n trace t
  unfolding broken_at broken_rules
  report_at = places n some_masters d.run [] start_kept

  report_is : report d ≡ broken_report n trace
  report_is =
      ext_get_or [] (report d) (broken_report n trace) (report_length ∙ sym (each_length (length trace) (broken_rules n trace)))
      (λ t below.
      let inside : t < length trace = omega (arith, report_length) in
      report_at t inside ∙ sym (each_at (length trace) (broken_rules n trace) [] t inside))

pub exact_charges : ExactCharges
exact_charges n trace j d = (report_length n trace j d, report_at n trace j d, report_is n trace j d)

pub charged_where_broken : ChargedWhereBroken
unfolding broken_rules
charged_where_broken n trace j d t below r =
    let e = report_at n trace j d t below in (
      λ m. has_those (λ q. broken_at n q trace t) rules r (rw e at m),
      λ b. rw e (those_has (λ q. broken_at n q trace t) r (every_rule r) b),
    )

pub exact_count : ExactCount
exact_count n trace j d = ap breaches (report_is n trace j d) ∙ each_breaches (length trace) (broken_rules n trace)

pub keeps_the_history : KeepsTheHistory
keeps_the_history n trace j d = ends_at n (some_masters n trace j d) d.run [] (start_kept n trace j d)

pub stays_well_formed : StaysWellFormed
stays_well_formed n trace j d = let s = run_sound d.run (sound_start n trace j d) in (test_of j s, s)

pub test_is_facts : TestIsFacts
test_is_facts j size = (λ e. facts_of j e size, test_of j)

pub never_refused : NeverRefused
never_refused j c s room good = (accepted j c (test_of j s) room good).is

pub taken_only_then : TakenOnlyThen
taken_only_then = taken

pub refusals_hand_back : RefusalsHandBack
unfolding refused_of flagged
refusals_hand_back j c r e =
    let q = refused j c r e in
    (ap (λ (a : Judgement). a.judge) q, ap (λ (a : Judgement). charged_rules a) q)

pub charged_once : ChargedOnce
unfolding broken_rules
charged_once = (
  λ j c. charged_distinct (judge_of j c),
  λ n trace j d t. run_distinct d.run t,
  λ n trace t. those_distinct (λ r. broken_at n r trace t),
)

-- a verdict by its number
zero_taken : (v : Verdict) → number_of v ≡ 0 → v ≡ Ok tt
zero_taken (Ok _) e = refl
zero_taken (Err r) e = absurd (some_number r e)

pub taken_by_number : TakenByNumber
taken_by_number j c e = taken j c (zero_taken (judge_of j c).verdict e)

pub hands_back_by_number : HandsBackByNumber
hands_back_by_number j c ne = go (judge_of j c).verdict refl
  where
    go : (v : Verdict) → (judge_of j c).verdict ≡ v → ((judge_of j c).judge ≡ j) × (charged_rules (judge_of j c) ≡ [])
    go (Ok _) e = absurd (ne (ap number_of e))
    go (Err r) e = refusals_hand_back j c r e

pub first_test_answers : FirstTestAnswers
unfolding judge_of refused_of taken_of cycle_check
first_test_answers j c =
    record {
      ten = λ bad. rw bad;
      eight = λ sound full. rw (sound, le-leb most_cycles j.count full);
      four = λ sound room v. rw (sound, lt-leb most_cycles j.count room, v);
      five = λ sound room v u. rw (sound, lt-leb most_cycles j.count room, v, u);
      six = λ sound room v u a. rw (sound, lt-leb most_cycles j.count room, v, u, a);
      seven = λ sound room v u a o. rw (sound, lt-leb most_cycles j.count room, v, u, a, o);
      none = λ sound room v u a o. rw (sound, lt-leb most_cycles j.count room, v, u, a, o);
    }

pub every_valid_trace_is_judged : EveryValidTraceIsJudged
unfolding start_of
every_valid_trace_is_judged n trace few many room valid =
    let b = begins n few many in
    let at = (begun n b).is in
    let r = run_of trace (start_judge n) (start_sound n few many) (omega arith) valid in
    (r.0, record { begun = b; run = rw at r.1 })

pub only_valid_traces_are_judged : OnlyValidTracesAreJudged
only_valid_traces_are_judged n trace j d =
    let b = begun n d.begun in
    let r = run_limits (rw b.is at d.run) (start_sound n b.few b.many) in
    (b.few, b.many, omega (arith, r.0), r.1)
