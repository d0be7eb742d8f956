-- What a reader of steps looks at: what stands from its position on, and of that no more than the step.
--
--   near_parted       == after LF, and before `#`, nothing more is looked at
--   near_long         == nor after 104 bytes
--   near_next         == what is read has 3 to 104 bytes, all of them there, and a step ends after it
--   moved p r         == what was found, with the next position p bytes later
--   near_shift        == nothing before the position is looked at
--   end_reads, end_read == there is no more step exactly at the end of the input, once n is tested
--   lines_append      == the lines of two texts, one after the other
--   changed all vs us == how many values are written
--   lines_of_step     == a step has a line for each of them, and that of its time
use Rattle.std.specs.Prelude.{Err, None, Ok, Some}
use Prim.Native.Nat.{ℕ, ◌+◌, ◌≤◌, ◌<◌}
use mathlib.Core.Path.{◌≡◌, refl, sym, ◌∙◌, ap, ap₂}
use mathlib.Core.Bool.{Bool, true, false, not, ◌||◌, cond, true≢false}
use mathlib.Core.List.{List, [], ◌∷◌, ◌++◌, append_assoc}
use native.Mathlib.Nat.{suc_inj, zero-add}
use native.Mathlib.Omega.{arith}
use borrow.Author.Tests.{le-ltb, eq-eqb, ne_eqb, eqb-true, eqb-false}
use lib.Dec.{eqb, ltb}
use lib.ListN.{length, get_or, drop, length-append, length-drop}
use Rattle.rules.specs.Results.{Check}
use Rattle.rules.specs.declared.Cycle.{Cycle}
use Rattle.rules.specs.State.{masters_ok}
use Rattle.rules.proofs.Choice.{cond_elim, either}
use Rattle.formats.specs.Results.{TraceRead}
use Rattle.formats.specs.Digits.{lf, decimal}
use Rattle.formats.specs.Columns.{cycle_values}
use Rattle.formats.specs.Lines.{line_check}
use Rattle.formats.specs.Promises.{InRange}
use Rattle.formats.proofs.Bytes.{below, Not, each_append}
use Rattle.formats.proofs.Ends.{Plain}
use Rattle.formats.proofs.Limits.{range_ok}
use Rattle.waves.specs.Variables.{Variable, variables, change}
use Rattle.waves.specs.Steps.{hash, time_line, changes, dump_step}
use Rattle.waves.specs.Reading.{most_bytes, step_text, wrong_time, full_time, unknown_in, step_shaped, step_cycle, step_checked, step_in, read_step_of}
use Rattle.waves.specs.Files.{lines_in}
use Rattle.waves.specs.Promises.{Ends}
use Rattle.waves.proofs.Ends.{up_to_parted, up_to_long}
use Rattle.waves.proofs.Times.{time_plain}
use Rattle.waves.proofs.Changes.{front, change_is, front_plain}
use Rattle.waves.proofs.Shapes.{Coded}
use Rattle.waves.proofs.Columns.{codes_rise}
use Rattle.waves.proofs.StepTexts.{step_short, step_long}
use Rattle.waves.proofs.Steps.{step_writes}

module _ (n t : ℕ) (prev : Cycle) where
  -- the answer is that of the step that stands there
  same_step : (a b : List ℕ) → 0 < length a → step_text (a ++ b) ≡ step_text a → read_step_of n t prev (a ++ b) 0 ≡ read_step_of n t prev a 0
  unfolding read_step_of
  same_step a b some same =
      let more : 0 < length (a ++ b) = omega (arith, length-append a b) in
      rw (
        same,
        le-ltb (length (a ++ b)) 0 (omega arith),
        le-ltb (length a) 0 (omega arith),
        ne_eqb 0 (length (a ++ b)) (λ e. omega arith),
        ne_eqb 0 (length a) (λ e. omega arith),
      )

  pub near_parted : (l a b : List ℕ) → a ≡ l ++ (lf ∷ []) → get_or b 0 0 ≡ hash → read_step_of n t prev (a ++ b) 0 ≡ read_step_of n t prev a 0
  near_parted l a b e h =
      rw e
      (same_step (l ++ (lf ∷ [])) b (omega (arith, length-append l (lf ∷ []))) (up_to_parted most_bytes l b h))

  pub near_long : (a b : List ℕ) → 104 < length a → read_step_of n t prev (a ++ b) 0 ≡ read_step_of n t prev a 0
  near_long a b h = same_step a b (omega arith) (up_to_long most_bytes a b h)

  pub near_next : (s : List ℕ) (c : Cycle) (next : ℕ) → read_step_of n t prev s 0 ≡ Ok (Some (c, next))
      → (3 ≤ next) × (next ≤ length s) × (next ≤ 104) × Ends (drop next s)
  near_next s c next e =
      let r = step_writes n t prev s 0 c next e in (
        omega (arith, r.after, step_long prev t c r.time),
        r.inside,
        omega (arith, r.after, step_short prev t c r.time),
        r.ends,
      )

abbrev pub moved : ℕ → TraceRead → TraceRead
moved p (Ok (Some (c, next))) = Ok (Some (c, p + next))
moved p (Ok None) = Ok None
moved p (Err r) = Err r

checked_moved : (p : ℕ) (k : Check) (c : Cycle) (m : ℕ) → step_checked k c (p + m) ≡ moved p (step_checked k c m)
checked_moved p (Ok _) c m = refl
checked_moved p (Err r) c m = refl

module _ (n t : ℕ) (prev : Cycle) where
  in_moved : (p : ℕ) (s : List ℕ) (m : ℕ) → step_in n t prev s (p + m) ≡ moved p (step_in n t prev s m)
  unfolding step_in
  in_moved p s m =
      either (wrong_time t s) (λ wrong. rw wrong) (λ right.
      either (full_time t s) (λ full. rw (right, full)) (λ early.
      either (unknown_in s) (λ unknown. rw (right, early, unknown)) (λ known.
      either (step_shaped t prev s)
      (λ shape.
      rw (right, early, known, shape) (checked_moved p (line_check n (step_cycle t prev s)) (step_cycle t prev s) m))
      (λ none. rw (right, early, known, none)))))

  pub near_shift : (s : List ℕ) (p : ℕ) → p ≤ length s → read_step_of n t prev s p ≡ moved p (read_step_of n t prev (drop p s) 0)
  unfolding read_step_of
  near_shift s p near =
      let some : ltb (length s) p ≡ false = le-ltb (length s) p near in
      let first : ltb (length (drop p s)) 0 ≡ false = le-ltb (length (drop p s)) 0 (omega arith) in
      either (masters_ok n)
      (λ ok.
      either (eqb p (length s))
      (λ last.
      rw (ok, some, first, last, eq-eqb 0 (length (drop p s)) (omega (arith, length-drop p s, eqb-true p (length s) last))))
      (λ more.
      let other : p ≡ length s → ⊥ = eqb-false p (length s) more in
      let rest : 0 ≡ length (drop p s) → ⊥ = λ e. omega (arith, length-drop p s) in
      rw (ok, some, first, more, ne_eqb 0 (length (drop p s)) rest, zero-add (length (step_text (drop p s))))
      (in_moved p (step_text (drop p s)) (length (step_text (drop p s))))))
      (λ bad. rw bad)

-- a step that stands there is one, or is refused
abbrev is_more : TraceRead → Bool
is_more (Ok (Some (c, next))) = true
is_more (Ok None) = false
is_more (Err r) = true

checked_more : (k : Check) (c : Cycle) (m : ℕ) → is_more (step_checked k c m) ≡ true
checked_more (Ok _) c m = refl
checked_more (Err r) c m = refl

module _ (n t : ℕ) (prev : Cycle) where
  in_more : (s : List ℕ) (m : ℕ) → is_more (step_in n t prev s m) ≡ true
  unfolding step_in
  in_more s m =
      cond_elim More (wrong_time t s) (λ wrong. refl) (λ right.
      cond_elim More (full_time t s) (λ full. refl) (λ early.
      cond_elim More (unknown_in s) (λ unknown. refl) (λ known.
      cond_elim More (step_shaped t prev s)
      (λ shape. checked_more (line_check n (step_cycle t prev s)) (step_cycle t prev s) m)
      (λ none. refl))))
    where
      More : TraceRead → Type 0
      More r = is_more r ≡ true

  pub end_reads : (s : List ℕ) → InRange n → read_step_of n t prev s (length s) ≡ Ok None
  unfolding read_step_of
  end_reads s range =
      rw (range_ok n range, le-ltb (length s) (length s) (omega arith), eq-eqb (length s) (length s) refl)

  pub end_read : (s : List ℕ) (p : ℕ) → read_step_of n t prev s p ≡ Ok None → p ≡ length s
  unfolding read_step_of
  end_read s p =
      cond_elim Ended (masters_ok n)
      (λ ok.
      below Ended (length s) p (λ far e. never e refl) (λ near.
      cond_elim Ended (eqb p (length s)) (λ last e. eqb-true p (length s) last) (λ more e. never e (in_more _ _))))
      (λ bad e. never e refl)
    where
      Ended : TraceRead → Type 0
      Ended r = r ≡ Ok None → p ≡ length s

      never : {r : TraceRead} → r ≡ Ok None → is_more r ≡ true → p ≡ length s
      never e more = absurd (true≢false (sym more ∙ ap is_more e))

pub lines_append : (a b : List ℕ) → lines_in (a ++ b) ≡ lines_in a + lines_in b
unfolding lines_in
lines_append [] b = sym (zero-add (lines_in b))
lines_append (x ∷ a) b =
    either (eqb x lf)
    (λ e. rw e (omega (arith, lines_append a b)))
    (λ e. rw e (lines_append a b))

-- one line
lines_of_line : (l : List ℕ) → Plain l → lines_in (l ++ (lf ∷ [])) ≡ 1
unfolding lines_in
lines_of_line [] h = refl
lines_of_line (b ∷ l) h = rw (ne_eqb b lf h.0) (lines_of_line l h.1)

unfoldable pub changed : Bool → List ℕ → List ℕ → ℕ
changed all [] us = 0
changed all (v ∷ vs) [] = 0
changed all (v ∷ vs) (u ∷ us) = cond (all || not (eqb u v)) 1 0 + changed all vs us

lines_of_change : (x : Variable) (v : ℕ) → (x.code ≡ lf → ⊥) → lines_in (change x v) ≡ 1
lines_of_change x v other =
    rw (change_is x v, ← append_assoc (front x v) (x.code ∷ []) (lf ∷ []))
    (lines_of_line (front x v ++ (x.code ∷ [])) (each_append (Not lf) (front x v) (x.code ∷ []) (front_plain x v) (other, tt)))

lines_of_changes : (all : Bool) (xs : List Variable) (vs us : List ℕ) → Coded xs → length vs ≡ length xs
    → lines_in (changes all xs vs us) ≡ changed all vs us
unfolding changes changed lines_in
lines_of_changes all [] [] us codes full = refl
lines_of_changes all [] (v ∷ vs) us codes full = absurd (omega arith)
lines_of_changes all (x ∷ xs) [] us codes full = absurd (omega arith)
lines_of_changes all (x ∷ xs) (v ∷ vs) [] codes full = refl
lines_of_changes all (x ∷ xs) (v ∷ vs) (u ∷ us) codes full =
    let more : lines_in (changes all xs vs us) ≡ changed all vs us = lines_of_changes all xs vs us codes.3 (suc_inj full) in
    either (all || not (eqb u v))
    (λ e. rw (e, lines_append (change x u) (changes all xs vs us), lines_of_change x u (λ q. omega arith), more))
    (λ e. rw e (omega arith))

lines_of_time : (t : ℕ) → lines_in (time_line t) ≡ 1
unfolding time_line
lines_of_time t = lines_of_line (hash ∷ decimal t) (time_plain t)

pub lines_of_step : (prev : Cycle) (t : ℕ) (c : Cycle)
    → lines_in (dump_step prev t c) ≡ 1 + changed (eqb t 0) (cycle_values prev) (cycle_values c)
unfolding dump_step
lines_of_step prev t c =
    lines_append (time_line t) (changes (eqb t 0) variables (cycle_values prev) (cycle_values c))
    ∙ ap₂ ◌+◌
    (lines_of_time t)
    (lines_of_changes (eqb t 0) variables (cycle_values prev) (cycle_values c) codes_rise refl)
