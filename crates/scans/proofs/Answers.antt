-- The answer of reading a step, from its tests.
--
--   no_line, right_shape, wrong_shape == the three ends of a step whose variables are known
--   other_time, full, unknown, known  == the four ends of a step's text
--   no_masters, beyond, no_more, inside == the four ends at a position
use Rattle.std.specs.Prelude.{Err, None, Ok, Some, Option, Result, MatchOption, ok_or}
use Rattle.std.proofs.Common.{Bor}
use Prim.Native.Nat.{ℕ, ◌+◌, ◌-◌, ◌≤◌, ◌<◌}
use mathlib.Core.Path.{◌≡◌, sym, ap, ◌∙◌}
use mathlib.Core.Bool.{Bool, true, false, not, ◌&&◌, cond}
use mathlib.Core.List.{List}
use borrow.Author.Tests.{lt-ltb, le-ltb, eq-eqb, ne_eqb, not-true, not-false}
use lib.Dec.{eqb, leb}
use lib.ListN.{length, take, drop}
use Rattle.rules.specs.declared.Refusal.TheVariants as refusal
use Rattle.rules.specs.declared.Refusal.{Refusal}
use Rattle.rules.specs.Results.{Check}
use Rattle.rules.specs.declared.Cycle.{Cycle}
use Rattle.rules.specs.State.{masters_ok}
use Rattle.formats.specs.Results.{TraceRead}
use Rattle.formats.specs.Columns.{cycle_values}
use Rattle.formats.specs.Lines.{line_check}
use Rattle.waves.specs.Variables.{variables}
use Rattle.waves.specs.Header.{begins}
use Rattle.waves.specs.Steps.{time_line}
use Rattle.waves.specs.Reading.{most_bytes, step_text, has_time, time_is, wrong_time, full_time, unknown_in, shaped, values_in, cycle_of, step_shaped, step_cycle, step_checked, step_in, read_step_of}
use Rattle.scans.proofs.Unknown.{rest}
use Rattle.scans.proofs.Ends.{step_taken}

-- the answer to the shape of a step
abbrev pub shape_answer : ℕ → ℕ → Cycle → List ℕ → ℕ → TraceRead
shape_answer n t prev s next =
    cond (step_shaped t prev s) (step_checked (line_check n (step_cycle t prev s)) (step_cycle t prev s) next) (Err refusal.Shape)

-- the refusal that is told where a test found nothing
abbrev error_or : {A : Type 0} → Result A Refusal → Refusal → Refusal
error_or (Ok a) x = x
error_or (Err y) x = y

refused_by : {A : Type 0} (o : Option A) (r : Result A Refusal) (x y : Refusal) → r ≡ ok_or o x → r ≡ Err y → o ≡ None → y ≡ x
refused_by o r x y e f n = ap (λ q. error_or q x) (sym f ∙ e ∙ ap (λ q. ok_or q x) n)

module _ (n t : ℕ) (prev : Cycle) (s : List ℕ) (next : ℕ) where
  module _ (o : Option (Bor (List ℕ)))
      (eo : MatchOption o (begins s (time_line t) ≡ false) (λ rest. (begins s (time_line t) ≡ true) × (rest.now ≡ drop (length (time_line t)) s)))
    where
      pub no_line : (r : Result (Bor (List ℕ)) Refusal) (y : Refusal) → r ≡ ok_or o refusal.Shape → r ≡ Err y → o ≡ None → Err y ≡ shape_answer n t prev s next
      unfolding step_shaped
      no_line r y e f n =
          let b : begins s (time_line t) ≡ false = rw n at eo in
          rw (refused_by o r refusal.Shape y e f n, b)

  module _ (lines : List ℕ) (here : begins s (time_line t) ≡ true) (after : lines ≡ drop (length (time_line t)) s)
      (o : Option Cycle)
      (eo : MatchOption o (shaped (eqb t 0) variables (cycle_values prev) lines ≡ false)
      (λ c. (shaped (eqb t 0) variables (cycle_values prev) lines ≡ true) × (c ≡ cycle_of (values_in variables (cycle_values prev) lines))))
    where
      pub wrong_shape : (r : Result Cycle Refusal) (y : Refusal) → r ≡ ok_or o refusal.Shape → r ≡ Err y → o ≡ None → Err y ≡ shape_answer n t prev s next
      unfolding step_shaped
      wrong_shape r y e f n =
          let b : shaped (eqb t 0) variables (cycle_values prev) lines ≡ false = rw n at eo in
          rw (refused_by o r refusal.Shape y e f n, here, ← after, b)

      pub right_shape : (c : Cycle) (k : Check) (r : TraceRead) → o ≡ Some c → k ≡ line_check n c → r ≡ step_checked k c next → r ≡ shape_answer n t prev s next
      unfolding step_shaped step_cycle
      right_shape c k r e f h =
          let b = rw e at eo in
          rw (here, ← after, b.0, ← b.1, ← f) h

  module _ (has right : Bool) (eh : has ≡ has_time s) (er : right ≡ time_is t s) where
    pub other_time : (has && not right) ≡ true → Err refusal.Time ≡ step_in n t prev s next
    unfolding step_in wrong_time
    other_time e = rw (← eh, ← er, e)

    module _ (e : (has && not right) ≡ false) where
      pub full : (leb 1000000 t && right) ≡ true → Err refusal.Full ≡ step_in n t prev s next
      unfolding step_in wrong_time full_time
      full f = simp (← eh, ← er, e, f)

      module _ (f : (leb 1000000 t && right) ≡ false) (other : Bool) (eo : other ≡ unknown_in s) where
        pub unknown : other ≡ true → Err refusal.Variable ≡ step_in n t prev s next
        unfolding step_in wrong_time full_time
        unknown g = simp (← eh, ← er, e, f, ← eo, g)

        pub known : (r : TraceRead) → other ≡ false → r ≡ shape_answer n t prev s next → r ≡ step_in n t prev s next
        unfolding step_in wrong_time full_time
        known r g h = simp (← eh, ← er, e, f, ← eo, g) h

module _ (n t : ℕ) (prev : Cycle) (s : List ℕ) (p : ℕ) (ok : Bool) (eo : ok ≡ masters_ok n) where
  pub no_masters : not ok ≡ true → Err refusal.Masters ≡ read_step_of n t prev s p
  unfolding read_step_of
  no_masters o = rw (← eo, not-true ok o)

  module _ (o : not ok ≡ false) where
    pub beyond : length s < p → Err refusal.Shape ≡ read_step_of n t prev s p
    unfolding read_step_of
    beyond h = simp (← eo, not-false ok o, lt-ltb (length s) p h)

    module _ (h : p ≤ length s) where
      pub no_more : p ≡ length s → (Ok None) ≡ read_step_of n t prev s p
      unfolding read_step_of
      no_more e = simp (← eo, not-false ok o, le-ltb (length s) p h, eq-eqb p (length s) e)

      pub inside : (size : ℕ) (r : TraceRead) → (p ≡ length s → ⊥) → size ≡ length (step_text (take (length s - p) (drop p s)))
          → r ≡ step_in n t prev (take size (take (length s - p) (drop p s))) (p + size) → r ≡ read_step_of n t prev s p
      unfolding read_step_of
      inside size r e es k =
          let q : size ≡ length (step_text (drop p s)) = rw (rest s p) at es in
          let l : take size (take (length s - p) (drop p s)) ≡ step_text (drop p s) = rw (rest s p, q) (step_taken most_bytes (drop p s)) in
          simp (← eo, not-false ok o, le-ltb (length s) p h, ne_eqb p (length s) e) (rw (← q) (rw l at k))
