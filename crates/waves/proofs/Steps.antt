-- A step: what is written reads back, and what is read writes back.
--
--   step_reads  == a written step reads back, at any position, where a step ends after it
--   step_writes == what was read writes back as the bytes that stood there
use Rattle.std.specs.Prelude.{Err, None, Ok, Some}
use Prim.Native.Nat.{ℕ, ◌+◌, ◌≤◌, ◌<◌}
use mathlib.Core.Path.{◌≡◌, refl, sym, ◌∙◌, ap, subst}
use mathlib.Core.Bool.{Bool, true, false, true≢false, false≢true}
use mathlib.Core.List.{List, ◌++◌}
use native.Mathlib.Omega.{arith}
use borrow.Author.Tests.{le-ltb, ne_eqb}
use lib.Dec.{eqb}
use lib.ListN.{length, take, drop, length-append, length-drop}
use lib.Seq.{drop-append_seam, take-append_seam, drop-drop}
use Rattle.rules.proofs.Parts.{line_parts}
use Rattle.rules.specs.Results.{Check}
use Rattle.rules.specs.declared.Cycle.{Cycle}
use Rattle.rules.specs.Codes.{most_cycles}
use Rattle.rules.specs.State.{masters_ok}
use Rattle.rules.proofs.Choice.{cond_elim, and_left, and_right, and_both}
use Rattle.formats.specs.Results.{TraceRead}
use Rattle.formats.specs.Columns.{cycle_values}
use Rattle.formats.specs.Lines.{line_check}
use Rattle.formats.specs.Promises.{InRange, ValidCycle}
use Rattle.formats.proofs.Bytes.{below}
use Rattle.formats.proofs.Limits.{range_ok, ok_range, valid_line, line_valid}
use Rattle.waves.specs.Variables.{variables}
use Rattle.waves.specs.Header.{begins}
use Rattle.waves.specs.Steps.{time_line, changes, dump_step}
use Rattle.waves.specs.Reading.{most_bytes, step_text, wrong_time, full_time, unknown_in, shaped, values_in, cycle_of, changes_in, step_shaped, step_cycle, step_checked, step_in, read_step_of}
use Rattle.waves.specs.Promises.{Ends, StepIs}
use Rattle.waves.proofs.Begins.{begins_append, begins_split}
use Rattle.waves.proofs.Ends.{up_to_rest, up_to_ends}
use Rattle.waves.proofs.Times.{time_is_lem, time_right, time_early, time_below}
use Rattle.waves.proofs.Shapes.{Within, changes_shaped, changes_values, values_length, shaped_changes}
use Rattle.waves.proofs.Unknown.{step_known}
use Rattle.waves.proofs.Columns.{codes_rise, valid_within, values_cycle}
use Rattle.waves.proofs.StepTexts.{step_short, step_long, step_whole}

module _ (prev : Cycle) (t : ℕ) (c : Cycle) where
  -- the lines after the time
  abbrev lines : List ℕ
  lines = changes (eqb t 0) variables (cycle_values prev) (cycle_values c)

  written_shaped : Within variables (cycle_values c) → step_shaped t prev (time_line t ++ lines) ≡ true
  unfolding step_shaped
  written_shaped small =
      and_both
      (begins_append (time_line t) lines)
      (rw (drop-append_seam (time_line t) lines)
      (changes_shaped (eqb t 0) variables (cycle_values prev) (cycle_values c) codes_rise refl small))

  written_cycle : Within variables (cycle_values c) → step_cycle t prev (time_line t ++ lines) ≡ c
  unfolding step_cycle cycle_of
  written_cycle small =
      rw (
        drop-append_seam (time_line t) lines,
        changes_values (eqb t 0) variables (cycle_values prev) (cycle_values c) codes_rise refl small,
      )

  written_in : (n next : ℕ) → InRange n → t < most_cycles → ValidCycle n c → step_in n t prev (dump_step prev t c) next ≡ Ok (Some (c, next))
  unfolding step_in dump_step
  written_in n next range h valid =
      let small = valid_within n c range.many valid in
      let s : List ℕ = time_line t ++ lines in
      rw (
        time_right t s (time_is_lem t lines),
        time_early t s h,
        step_known t (eqb t 0) variables (cycle_values prev) (cycle_values c) codes_rise,
        written_shaped small,
        written_cycle small,
        valid_line n c range.many valid,
      )

  pub step_reads : (n : ℕ) (pre post : List ℕ) → InRange n → t < most_cycles → ValidCycle n c → Ends post
      → read_step_of n t prev (pre ++ (dump_step prev t c ++ post)) (length pre) ≡ Ok (Some (c, length pre + length (dump_step prev t c)))
  unfolding read_step_of
  step_reads n pre post range h valid ends =
      let step : List ℕ = dump_step prev t c in
      let s : List ℕ = pre ++ (step ++ post) in
      let inside : length pre < length s =
      omega (arith, length-append pre (step ++ post), length-append step post, step_long prev t c h) in
      rw (
        range_ok n range,
        le-ltb (length s) (length pre) (omega arith),
        ne_eqb (length pre) (length s) (λ e. omega arith),
        drop-append_seam pre (step ++ post),
        step_whole prev t c post h ends,
      )
      (written_in n (length pre + length step) range h valid)

abbrev is_line : TraceRead → Bool
is_line (Ok (Some (c, next))) = true
is_line (Ok None) = false
is_line (Err r) = false

-- what the tests of a step leave
record Passed (n t : ℕ) (prev : Cycle) (s : List ℕ) (c : Cycle) : Type 0 where
  early : full_time t s ≡ false
  shape : step_shaped t prev s ≡ true
  same : step_cycle t prev s ≡ c
  valid : ValidCycle n c

module _ (n t : ℕ) (prev : Cycle) (s : List ℕ) (m : ℕ) (c : Cycle) (next : ℕ) where
  abbrev Reads : TraceRead → Type 0
  Reads r = r ≡ Ok (Some (c, next)) → Passed n t prev s c × (m ≡ next)

  never : {r : TraceRead} → is_line r ≡ false → Reads r
  never other e = absurd (true≢false (sym (ap is_line e) ∙ other))

  checked : (k : Check) (b : Cycle) → step_checked k b m ≡ Ok (Some (c, next)) → (k ≡ Ok tt) × (b ≡ c) × (m ≡ next)
  checked (Ok _) b e = let p = line_parts e in (refl, p.0, p.1)
  checked (Err r) b e = absurd (false≢true (ap is_line e))

  in_passed : Reads (step_in n t prev s m)
  unfolding step_in
  in_passed =
      cond_elim Reads (wrong_time t s) (λ wrong. never refl) (λ right.
      cond_elim Reads (full_time t s) (λ full. never refl) (λ early.
      cond_elim Reads (unknown_in s) (λ unknown. never refl) (λ known.
      cond_elim Reads (step_shaped t prev s)
      (λ shape e.
      let k = checked (line_check n (step_cycle t prev s)) (step_cycle t prev s) e in
      let good : line_check n c ≡ (Ok tt) = rw k.1 at k.0 in
      (record { early = early; shape = shape; same = k.1; valid = line_valid n c good }, k.2))
      (λ none. never refl))))

module _ (n t : ℕ) (prev : Cycle) (s : List ℕ) (c : Cycle) (range : InRange n) (p : Passed n t prev s c) where
  abbrev rest : List ℕ
  rest = changes_in t s

  begun : begins s (time_line t) ≡ true
  unfolding step_shaped
  begun = and_left (begins s (time_line t)) (shaped (eqb t 0) variables (cycle_values prev) rest) p.shape

  formed : shaped (eqb t 0) variables (cycle_values prev) rest ≡ true
  unfolding step_shaped
  formed = and_right (begins s (time_line t)) (shaped (eqb t 0) variables (cycle_values prev) rest) p.shape

  parted : s ≡ time_line t ++ rest
  parted = begins_split s (time_line t) begun

  time_in_range : t < most_cycles
  time_in_range = time_below t s (rw parted (time_is_lem t rest)) p.early

  values_are : cycle_values c ≡ values_in variables (cycle_values prev) rest
  unfolding step_cycle
  values_are =
      ap cycle_values (sym p.same)
      ∙ values_cycle (values_in variables (cycle_values prev) rest) (values_length variables (cycle_values prev) rest refl)

  in_writes : dump_step prev t c ≡ s
  unfolding dump_step
  in_writes =
      let small : Within variables (values_in variables (cycle_values prev) rest) =
      subst (Within variables) values_are (valid_within n c range.many p.valid) in
      ap (λ us. time_line t ++ changes (eqb t 0) variables (cycle_values prev) us) values_are
      ∙ ap (λ l. time_line t ++ l) (shaped_changes (eqb t 0) variables (cycle_values prev) rest formed small)
      ∙ sym parted

module _ (n t : ℕ) (prev : Cycle) (s : List ℕ) (p : ℕ) (c : Cycle) (next : ℕ) where
  -- the step that stands at p
  abbrev text : List ℕ
  text = step_text (drop p s)

  found : p ≤ length s → InRange n → Passed n t prev text c → p + length text ≡ next → StepIs n t prev s p c next
  found inside range passed at =
      let time : t < most_cycles = time_in_range n t prev text c range passed in
      let same : dump_step prev t c ≡ text = in_writes n t prev text c range passed in
      let whole : text ++ drop (length text) (drop p s) ≡ drop p s = up_to_rest most_bytes (drop p s) in
      let size : length (dump_step prev t c) ≡ length text = ap length same in
      let few : length text < most_bytes = omega (arith, step_short prev t c time) in
      record {
        masters = range;
        time = time;
        valid = passed.valid;
        after = omega arith;
        inside = omega (arith, ap length whole, length-append text (drop (length text) (drop p s)), length-drop p s);
        bytes =
            same
            ∙ sym (take-append_seam text (drop (length text) (drop p s)))
            ∙ ap (take (length text)) whole
            ∙ ap (λ k. take k (drop p s)) (sym size);
        ends = subst Ends (drop-drop (length text) p s ∙ ap (λ k. drop k s) at) (up_to_ends most_bytes (drop p s) few);
      }

  pub step_writes : read_step_of n t prev s p ≡ Ok (Some (c, next)) → StepIs n t prev s p c next
  unfolding read_step_of
  step_writes =
      cond_elim Written (masters_ok n)
      (λ ok.
      below Written (length s) p (λ far e. absurd (false≢true (ap is_line e))) (λ near.
      cond_elim Written (eqb p (length s)) (λ last e. absurd (false≢true (ap is_line e))) (λ more e.
      let r = in_passed n t prev text (p + length text) c next e in
      found near (ok_range n ok) r.0 r.1)))
      (λ bad e. absurd (false≢true (ap is_line e)))
    where
      Written : TraceRead → Type 0
      Written r = r ≡ Ok (Some (c, next)) → StepIs n t prev s p c next
