-- One line of the judging program.
--
--   taken_line, refused_line_lem == the two ends of a cycle that was read
--   read_line, read_none, read_refused == the three ends of a line
--   judge_program_lem   == it goes by lines, none of which writes more bytes than a line for each rule, and what is kept stays well formed
use Rattle.std.specs.Prelude.{Err, None, Ok, Some}
use Prim.Native.Nat.{ℕ, ◌+◌, ◌*◌, ◌^◌, ◌≤◌, ◌<◌}
use mathlib.Core.Path.{◌≡◌, refl, sym, ap, ◌∙◌}
use mathlib.Core.Bool.{Bool, true, false}
use mathlib.Core.List.{List, [], ◌∷◌}
use native.Mathlib.Omega.{arith}
use lib.ListN.{length, length-append}
use Rattle.rules.specs.declared.Refusal.{Refusal}
use Rattle.rules.specs.declared.Cycle.{Cycle}
use Rattle.rulebook.specs.declared.Rule.{Rule}
use Rattle.rulebook.specs.declared.Judgement.{Judgement}
use Rattle.rulebook.specs.Results.{Verdict}
use Rattle.rulebook.specs.Rules.{rules}
use Rattle.rulebook.specs.Charges.{next_judge}
use Rattle.rulebook.specs.Step.{judge_of, flagged, charged_rules}
use Rattle.rulebook.proofs.Soundness.{step_sound}
use Rattle.rulebook.proofs.Answers.{taken, next_judge_lem}
use Rattle.formats.specs.Results.{TraceRead}
use Rattle.formats.specs.Lines.{read_trace_of}
use Rattle.formats.specs.Report.{end_line, refused_line}
use Rattle.streams.specs.declared.Tally.{Tally}
use Rattle.streams.specs.Streams.{Turn}
use Rattle.streams.specs.Judging.{breach_lines, judged_to, traced, judge_turn}
use Rattle.streams.proofs.Lines.{stepping}
use Rattle.streams.proofs.Near.{judge_by_lines}
use Rattle.streams.specs.Turns.{bytes_in, state_after, Put, Lined}
use Rattle.streams.specs.Breaches.{Reported, Formed}
use Rattle.streams.proofs.Sizes.{refused_size, end_size, breach_size, went, ended}
use Rattle.streams.specs.Going.{Program}

few_flagged : (l : List Bool) (rs : List Rule) → length (flagged l rs) ≤ length rs
unfolding flagged
few_flagged [] rs = omega arith
few_flagged (b ∷ l) [] = omega arith
few_flagged (true ∷ l) (r ∷ rs) = omega (arith, few_flagged l rs)
few_flagged (false ∷ l) (r ∷ rs) = omega (arith, few_flagged l rs)

few_charged : (a : Judgement) → length (charged_rules a) ≤ 21
few_charged a = few_flagged a.charged rules

few_lines : (t : ℕ) (l : List Rule) → t < 10 ^ 10 → length (breach_lines t l) ≤ length l * 15
unfolding breach_lines
few_lines t [] h = omega arith
few_lines t (r ∷ l) h =
    rw length-append (omega (arith, breach_size t r h, few_lines t l h))

module _ (b : Tally) (c : Cycle) (a : Judgement) (e : a ≡ judge_of b.judge c) (v : Verdict) (is : v ≡ a.verdict) (buffer : List ℕ) (k : ℕ) (out : List ℕ) where
  abbrev this : Turn Tally
  this = judged_to (judge_of b.judge c).verdict (judge_of b.judge c) b 31

  turn_is : (u : Verdict) → v ≡ u → this ≡ judged_to u a b 31
  turn_is u f = rw (← e, ← is, f)

  pub taken_line : (n : ℕ) (after : Tally) → v ≡ Ok tt → Reported b.judge.count (charged_rules a) buffer k n out
      → after ≡ record { judge = a.judge; breaches = b.breaches + n }
      → Lined b this buffer k true after out
  taken_line n after f r q =
      let wrote = breach_lines b.judge.count (charged_rules a) in
      let next : Tally = record { judge = a.judge; breaches = b.breaches + length (charged_rules a) } in
      let kept : after ≡ next = q ∙ rw r.count in
      rw kept (went b this wrote buffer k out r.lines next 31 (turn_is (Ok tt) f))

  pub refused_line_lem : (r : Refusal) → v ≡ Err r → Put (refused_line (b.judge.count + 2) r) buffer k out → Lined b this buffer k false b out
  refused_line_lem r f p = ended b this (refused_line (b.judge.count + 2) r) buffer k out p (turn_is (Err r) f)

-- what a line comes to does not say where the next begins
any_next : (b : Tally) (a : Judgement) (v : Verdict) (m n : ℕ) (buffer : List ℕ) (k : ℕ) (going : Bool) (after : Tally) (out : List ℕ)
    → Lined b (judged_to v a b m) buffer k going after out → Lined b (judged_to v a b n) buffer k going after out
any_next b a (Ok _) m n buffer k going after out l = record { size = l.size; flow = l.flow; state = l.state; puts = l.puts }
any_next b a (Err r) m n buffer k going after out l = l

module _ (b : Tally) (rest : List ℕ) (a : TraceRead) (e : a ≡ read_trace_of b.judge.n rest 0) (buffer : List ℕ) (k : ℕ) (out : List ℕ) where
  found : (r : TraceRead) → a ≡ r → judge_turn b rest ≡ traced r b
  unfolding judge_turn
  found r f = ap (λ q. traced q b) (sym e ∙ f)

  pub read_line : (c : Cycle) (next : ℕ) (going : Bool) (after : Tally) → a ≡ Ok (Some (c, next))
      → Lined b (judged_to (judge_of b.judge c).verdict (judge_of b.judge c) b 31) buffer k going after out
      → Lined b (judge_turn b rest) buffer k going after out
  read_line c next going after f l =
      rw (found (Ok (Some (c, next))) f) (any_next b (judge_of b.judge c) (judge_of b.judge c).verdict 31 next buffer k going after out l)

  pub read_none : a ≡ Ok None → Put (end_line b.judge.count b.breaches) buffer k out → Lined b (judge_turn b rest) buffer k false b out
  read_none f p = ended b (judge_turn b rest) (end_line b.judge.count b.breaches) buffer k out p (found (Ok None) f)

  pub read_refused : (r : Refusal) → a ≡ Err r → Put (refused_line (b.judge.count + 2) r) buffer k out
      → Lined b (judge_turn b rest) buffer k false b out
  read_refused r f p = ended b (judge_turn b rest) (refused_line (b.judge.count + 2) r) buffer k out p (found (Err r) f)

module _ (b : Tally) (f : Formed b) where
  few_refused : (r : Refusal) → length (refused_line (b.judge.count + 2) r) ≤ 315
  few_refused r = omega (arith, refused_size (b.judge.count + 2) r (omega (arith, f.judge.room)))

  few_judged : (a : Judgement) (next : ℕ) (v : Verdict) → length (bytes_in (judged_to v a b next)) ≤ 315
  few_judged a next (Ok _) =
      omega (arith, few_charged a, few_lines b.judge.count (charged_rules a) (omega (arith, f.judge.room)))
  few_judged a next (Err r) = few_refused r

  few_read : (r : TraceRead) → length (bytes_in (traced r b)) ≤ 315
  few_read (Ok (Some (c, next))) = few_judged (judge_of b.judge c) next (judge_of b.judge c).verdict
  few_read (Ok None) =
      omega (arith, end_size b.judge.count b.breaches (omega (arith, f.judge.room)) (omega (arith, f.judge.room, f.few)))
  few_read (Err r) = few_refused r

  stays_judged : (c : Cycle) (next : ℕ) (v : Verdict) → (judge_of b.judge c).verdict ≡ v → Formed (state_after b (judged_to v (judge_of b.judge c) b next))
  unfolding next_judge
  stays_judged c next (Ok _) e =
      let a = taken b.judge c e in
      let is = next_judge_lem b.judge c a in
      record {
        judge = rw is (step_sound b.judge c f.judge a.good a.room);
        few = rw is (omega (arith, f.few, few_charged (judge_of b.judge c)));
      }
  stays_judged c next (Err r) e = f

  stays_read : (r : TraceRead) → Formed (state_after b (traced r b))
  stays_read (Ok (Some (c, next))) = stays_judged c next (judge_of b.judge c).verdict refl
  stays_read (Ok None) = f
  stays_read (Err r) = f

pub judge_program_lem : Program judge_turn 31 315 Formed
unfolding judge_turn
judge_program_lem =
    record {
      longest = 31;
      lines = stepping judge_by_lines;
      few = λ b rest f. few_read b f (read_trace_of b.judge.n rest 0);
      stays = λ b rest f. stays_read b f (read_trace_of b.judge.n rest 0);
    }
