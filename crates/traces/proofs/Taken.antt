-- One line of the judging program, taken or not.
--
--   good_cycle, whole_line == a trace line that was read is valid, and is whole
--   formed_masters == what is kept has a number of masters that is served
--   few_named      == no cycle charges more rules than there are
--   went_on        == a cycle that is taken: its breach lines, and what is kept
--   line_taken     == so a line that was read goes on
--   left_untaken   == at the end of the loop no line is taken
--   full, stops_full == a good line after the last cycle is refusal 8
use Rattle.std.specs.Prelude.{Err, Ok, Some}
use Prim.Native.Nat.{ℕ, ◌+◌, ◌-◌, ◌≤◌, ◌<◌}
use mathlib.Core.Path.{◌≡◌, refl, sym, ◌∙◌, ap}
use mathlib.Core.Bool.{Bool, true, false, ◌&&◌}
use mathlib.Core.List.{List, map}
use native.Mathlib.Omega.{arith}
use borrow.Author.Tests.{le-leb, leb-false}
use lib.Dec.{leb}
use lib.ListN.{length, take, drop, length-take, length-drop}
use Rattle.rules.specs.declared.Refusal.TheVariants.{Full}
use Rattle.rules.specs.declared.Cycle.{Cycle}
use Rattle.rules.specs.Codes.{most_cycles}
use Rattle.rules.specs.State.{masters_ok}
use Rattle.rules.specs.Valid.{cycle_check}
use Rattle.rules.proofs.WellFormed.{masters_ok_lem}
use Rattle.rulebook.specs.declared.Judge.{Judge}
use Rattle.rulebook.specs.Rules.{rules}
use Rattle.rulebook.specs.Charges.{next_judge, charges}
use Rattle.rulebook.specs.Named.{mask_of, named_by}
use Rattle.rulebook.specs.Step.{judge_of, taken_of, refused_of}
use Rattle.rulebook.specs.Kept.{Sound}
use Rattle.rulebook.proofs.Answers.{accepted}
use Rattle.rulebook.proofs.Named.{named_flagged, named_few}
use Rattle.rulebook.proofs.WellFormed.{test_of}
use Rattle.formats.specs.Results.{TraceRead}
use Rattle.formats.specs.Report.{refused_line}
use Rattle.formats.specs.Lines.{read_trace_of}
use Rattle.formats.proofs.Promises.{read_trace_line_writes}
use Rattle.streams.specs.declared.Tally.{Tally}
use Rattle.streams.specs.Judging.{judged_to, judge_turn}
use Rattle.streams.specs.Turns.{Put, Lined}
use Rattle.streams.specs.Breaches.{Reported, Formed}
use Rattle.traces.specs.Stops.{NotTaken}
use Rattle.streams.proofs.Judged.{taken_line, refused_line_lem, read_line}

module _ (n : ℕ) (s : List ℕ) (c : Cycle) (k : ℕ) (e : read_trace_of n s 0 ≡ Ok (Some (c, k))) where
  pub good_cycle : cycle_check n c ≡ Ok tt
  good_cycle = (read_trace_line_writes n s 0 c k e).1

  pub whole_line : 31 ≤ length s
  whole_line =
      let size : 31 ≡ length (take 31 s) = ap length (read_trace_line_writes n s 0 c k e).3 in
      omega (arith, size, length-take 31 s)

pub formed_masters : (b : Tally) → Formed b → masters_ok b.judge.n ≡ true
formed_masters b f = masters_ok_lem b.judge.n f.judge.few f.judge.many

pub few_named : (m : ℕ) {t k n : ℕ} {buffer out : List ℕ} → Reported t (named_by m rules) buffer k n out → n ≤ 21
few_named m r = omega (arith, r.count, named_few m rules)

full_verdict : (j : Judge) (c : Cycle) → Sound j → most_cycles ≤ j.count → Err Full ≡ (judge_of j c).verdict
unfolding judge_of refused_of
full_verdict j c s h = simp (test_of j s, le-leb 1000000 j.count h)

module _ (b : Tally) (c : Cycle) (f : Formed b) where
  pub went_on : (buffer out : List ℕ) (w found charged : ℕ) (next : Judge) → b.judge.count < most_cycles → cycle_check b.judge.n c ≡ Ok tt
      → next ≡ next_judge b.judge c → charged ≡ mask_of (map (charges b.judge c) rules)
      → Reported b.judge.count (named_by charged rules) buffer w found out
      → Lined b (judged_to (judge_of b.judge c).verdict (judge_of b.judge c) b 31) buffer w true (record { judge = next; breaches = b.breaches + found }) out
  unfolding taken_of
  went_on buffer out w found charged next room good e m r =
      let is = (accepted b.judge c (test_of b.judge f.judge) room good).is in
      taken_line b c (taken_of b.judge c) (sym is) (Ok _) refl buffer w out found (record { judge = next; breaches = b.breaches + found }) refl
      (rw (m, named_flagged (map (charges b.judge c) rules) rules refl) at r)
      (rw e)

  pub full : most_cycles ≤ b.judge.count → (buffer out : List ℕ) (k : ℕ) → Put (refused_line (b.judge.count + 2) Full) buffer k out
      → Lined b (judged_to (judge_of b.judge c).verdict (judge_of b.judge c) b 31) buffer k false b out
  full h buffer out k put =
      refused_line_lem b c (judge_of b.judge c) refl (Err Full) (full_verdict b.judge c f.judge h) buffer k out Full refl put

  -- what a cycle comes to is what its line does
  pub line_taken : (rest buffer out : List ℕ) (k w : ℕ) (on : Bool) (after : Tally) → read_trace_of b.judge.n rest 0 ≡ Ok (Some (c, k))
      → Lined b (judged_to (judge_of b.judge c).verdict (judge_of b.judge c) b 31) buffer w on after out → Lined b (judge_turn b rest) buffer w on after out
  line_taken rest buffer out k w on after e l = read_line b rest (read_trace_of b.judge.n rest 0) refl buffer w out c k on after e l

-- a line that is not taken, as it was read: a good one after the last cycle, or a refused one
pub stops_full : (b : Tally) (rest buffer out : List ℕ) (a : TraceRead) (c : Cycle) (n k : ℕ) → Formed b → NotTaken b rest → a ≡ read_trace_of b.judge.n rest 0 → a ≡ Ok (Some (c, n))
    → Put (refused_line (b.judge.count + 2) Full) buffer k out → Lined b (judge_turn b rest) buffer k false b out
stops_full b rest buffer out a c n k f stop e g put =
    let is : read_trace_of b.judge.n rest 0 ≡ Ok (Some (c, n)) = sym e ∙ g in
    line_taken b c f rest buffer out n k false b is (full b c f (stop.full c n is) buffer out k put)

-- where no line is taken: at no whole line, and at the end of the loop
module _ (b : Tally) where
  short_untaken : (rest : List ℕ) → length rest < 31 → NotTaken b rest
  short_untaken rest h = record { full = λ c k q. absurd (omega (arith, whole_line b.judge.n rest c k q)) }

  pub left_untaken : (block : List ℕ) (at : ℕ) (on : Bool) → (on ≡ false → NotTaken b (drop at block)) → (on && leb 31 (length block - at)) ≡ false
      → NotTaken b (drop at block)
  left_untaken block at true f e = short_untaken (drop at block) (simp length-drop (leb-false 31 (length block - at) e))
  left_untaken block at false f e = f refl
