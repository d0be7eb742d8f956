-- The judging program on the lines of a trace that the judge takes: it writes what the judge charges, and how much it is.
--
--   tally_of j b  == what the program keeps: the judge, and the breaches so far
--   trace_turn, end_turn == one line, and the end of the input
--   judged_lines  == all the lines that are left, and then what the rest comes to
--   judging_keeps == the masters stay, and the cycles are counted
use Rattle.std.specs.Prelude.{None, Ok, Some}
use Prim.Native.Nat.{ℕ, zero, suc, ◌+◌, ◌<◌}
use mathlib.Core.Path.{◌≡◌, refl, sym, ◌∙◌, ap, subst}
use mathlib.Core.List.{List, [], ◌∷◌, ◌++◌, append_assoc}
use native.Mathlib.Nat.{add-zero}
use native.Mathlib.Omega.{arith}
use lib.ListN.{length}
use Rattle.rules.specs.declared.Cycle.{Cycle}
use Rattle.rulebook.specs.declared.Rule.{Rule}
use Rattle.rulebook.specs.declared.Judge.{Judge}
use Rattle.rulebook.specs.Results.{Verdict}
use Rattle.rulebook.specs.Charges.{next_judge}
use Rattle.rulebook.specs.Step.{judge_of, charged_rules, Judging, ends, takes, charges_in, breaches}
use Rattle.rulebook.proofs.Answers.{taken, next_judge_lem}
use Rattle.formats.specs.Results.{TraceRead}
use Rattle.formats.specs.Lines.{trace_line, read_trace_of}
use Rattle.formats.specs.Files.{lines_of}
use Rattle.formats.specs.Report.{end_line}
use Rattle.formats.specs.Promises.{InRange, Each, ValidCycle}
use Rattle.formats.proofs.Promises.{written_trace_line_reads, no_more_at_the_end}
use Rattle.streams.specs.declared.Tally.{Tally}
use Rattle.streams.specs.Streams.{goes, stops, written}
use Rattle.streams.specs.Judging.{breach_lines, judged_to, traced, judge_turn}
use Rattle.promises.specs.Programs.{lines_at, report_from}
use Rattle.promises.proofs.Lines.{one_line}

-- the program's breach lines are those of the promise
lines_at_lem : (t : ℕ) (l : List Rule) → breach_lines t l ≡ lines_at t l
unfolding breach_lines lines_at
lines_at_lem t [] = refl
lines_at_lem t (r ∷ l) = rw (lines_at_lem t l)

-- the lines of cycle t, and then the rest of the report from the cycle after it on
joins : (u t : ℕ) (rs : List Rule) (l : List (List Rule)) (last : List ℕ) → u ≡ t + 1
    → breach_lines t rs ++ (report_from u l ++ last) ≡ (lines_at t rs ++ report_from (t + 1) l) ++ last
joins u t rs l last e = rw (e, lines_at_lem t rs) (sym (append_assoc (lines_at t rs) (report_from (t + 1) l) last))

-- a judge that has taken a cycle has one more, and the same masters
next_count : (j : Judge) (c : Cycle) → (judge_of j c).judge ≡ next_judge j c → (judge_of j c).judge.count ≡ j.count + 1
unfolding next_judge
next_count j c e = ap (λ (k : Judge). k.count) e

next_n : (j : Judge) (c : Cycle) → (judge_of j c).judge ≡ next_judge j c → (judge_of j c).judge.n ≡ j.n
unfolding next_judge
next_n j c e = ap (λ (k : Judge). k.n) e

abbrev pub tally_of : Judge → ℕ → Tally
tally_of j b = record { judge = j; breaches = b }

module _ (n : ℕ) (range : InRange n) where
  -- the cycle is read back, and taken
  trace_turn : (j : Judge) (b : ℕ) (c : Cycle) (rest : List ℕ) → j.n ≡ n → ValidCycle n c → (judge_of j c).verdict ≡ Ok tt
      → judge_turn (tally_of j b) (trace_line c ++ rest)
      ≡ goes (breach_lines j.count (charged_rules (judge_of j c)))
      (tally_of (judge_of j c).judge (b + length (charged_rules (judge_of j c))))
      (length (trace_line c))
  unfolding judge_turn
  trace_turn j b c rest same valid took =
      ap (λ (r : TraceRead). traced r (tally_of j b))
      (subst (λ (m : ℕ). read_trace_of m (trace_line c ++ rest) 0 ≡ Ok (Some (c, 31))) (sym same) (written_trace_line_reads n c [] rest range valid))
      ∙ ap (λ (v : Verdict). judged_to v (judge_of j c) (tally_of j b) 31) took

  pub end_turn : (j : Judge) (b : ℕ) → j.n ≡ n → judge_turn (tally_of j b) [] ≡ stops (end_line j.count b)
  unfolding judge_turn
  end_turn j b same =
      ap (λ (r : TraceRead). traced r (tally_of j b))
      (subst (λ (m : ℕ). read_trace_of m [] 0 ≡ Ok None) (sym same) (no_more_at_the_end.trace_line_lem n [] range))

  -- from a judge that has taken some cycles, with b breaches so far, and takes the cycles cs that are left; then comes the rest
  pub judged_lines : {j end : Judge} {cs : List Cycle} (d : Judging j cs end) (k b : ℕ) (rest last : List ℕ) → j.n ≡ n → Each (ValidCycle n) cs → length cs < k
      → judge_turn (tally_of end (b + breaches (charges_in d))) rest ≡ stops last
      → written judge_turn k (tally_of j b) (lines_of trace_line cs ++ rest) ≡ report_from j.count (charges_in d) ++ last
  unfolding lines_of charges_in breaches report_from
  judged_lines d zero b rest last same valid fuel e = absurd (omega arith)
  judged_lines {j = j} ends (suc k) b rest last same valid fuel e =
      let f = rw add-zero at e in unfold written in rw f
  judged_lines {j = j} {end = end} (takes {c = c} {l = cs} p r) (suc k) b rest last same valid fuel e =
      let f = next_judge_lem j c (taken j c p) in
      let charged : List Rule = charged_rules (judge_of j c) in
      let sum : b + (length charged + breaches (charges_in r)) ≡ b + length charged + breaches (charges_in r) = omega arith in
      ap (written judge_turn (suc k) (tally_of j b)) (append_assoc (trace_line c) (lines_of trace_line cs) rest)
      ∙ one_line judge_turn k (tally_of j b) (tally_of (judge_of j c).judge (b + length charged)) (trace_line c) (lines_of trace_line cs ++ rest) (breach_lines j.count charged)
      (trace_turn j b c (lines_of trace_line cs ++ rest) same valid.0 p)
      ∙ ap (λ (l : List ℕ). breach_lines j.count charged ++ l)
      (judged_lines {j = (judge_of j c).judge} {end = end} {cs = cs} r k (b + length charged) rest last (next_n j c f ∙ same) valid.1 (omega arith)
      (subst (λ (m : ℕ). judge_turn (tally_of end m) rest ≡ stops last) sum e))
      ∙ joins (judge_of j c).judge.count j.count charged (charges_in r) last (next_count j c f)

pub judging_keeps : {j end : Judge} {cs : List Cycle} → Judging j cs end → (end.n ≡ j.n) × (end.count ≡ j.count + length cs)
judging_keeps {j = j} ends = (refl, sym (add-zero j.count))
judging_keeps {j = j} (takes {c = c} p r) =
    let f = next_judge_lem j c (taken j c p) in
    let k = judging_keeps r in
    (k.0 ∙ next_n j c f, omega (arith, k.1, next_count j c f))
