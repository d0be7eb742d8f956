-- What the judge keeps is a word about what was recorded, and what it charges is what is broken.
--
--   kept_start == before the first cycle
--   kept_step  == after one more cycle
--   exact      == a rule is charged exactly where it is broken
use Prim.Native.Nat.{ℕ, ◌%◌, ◌<◌}
use mathlib.Core.Path.{◌≡◌, refl}
use mathlib.Core.Bool.{Bool, true, false, ◌&&◌}
use mathlib.Core.List.{List, [], ◌∷◌}
use native.Mathlib.Omega.{arith}
use native.Mathlib.Nat.{zero-mod}
use native.Mathlib.Numerals.{add-one}
use lib.Dec.{eqb, eqb-suc-zero}
use lib.ListN.{length, get_or}
use Rattle.rules.specs.declared.Cycle.{Cycle}
use Rattle.rules.specs.Codes.{most_masters}
use Rattle.rules.proofs.Choice.{either}
use Rattle.rulebook.specs.declared.Rule.{Rule}
use Rattle.rulebook.specs.declared.Rule.TheVariants.{A1, A2, A3, A4, A5, A6, A7, A8, A9, G1, G2, G3, G4, G5, G6, G7, G8, G9, G10, G11, G12}
use Rattle.rulebook.specs.Columns.{decided, handover}
use Rattle.rulebook.specs.Traces.{comparing, at_first, in_a_row, completes, access, opening}
use Rattle.rulebook.specs.Rules.{locked_incr, waits, a3, a4, a5, a6, a7, a9, g2, g3, g4, g5, g6, g7, g8, g9, g10, g12, loses, lost_in_a_row, limit, g11, broken}
use Rattle.rulebook.specs.State.{start_judge}
use Rattle.rulebook.specs.Charges.{list_from, lost_after, next_judge, compares_at, reaches, charges}
use Rattle.rulebook.specs.Kept.{access_watch, kept_of}
use Rattle.rulebook.proofs.Rows.{longer_row, completes_row}
use Rattle.rulebook.proofs.Counts.{list_at, list_same, some_same, some_limit}
use Rattle.rulebook.proofs.Watches.{opened_kept, watch_kept, watch_cuts_incr, watch_cuts_fixed}

pub kept_start : (n : ℕ) → kept_of n [] ≡ start_judge n
unfolding kept_of in_a_row access opening access_watch lost_in_a_row list_from
kept_start n = rw (list_same 0 16 (λ i. 0 % limit n) (λ i. 0) (λ i h. zero-mod (limit n)))

-- a judge that has taken a cycle is not at its start
counted : (p : Cycle) (h : List Cycle) → eqb (length (p ∷ h)) 0 ≡ false
counted p h = eqb-suc-zero (length h)

-- the kept count of lost decisions of master i
lost_at : (n : ℕ) (h : List Cycle) (i : ℕ) → i < most_masters → get_or (kept_of n h).lost i 0 ≡ lost_in_a_row i h % limit n
unfolding kept_of
lost_at n h i below = list_at 16 i (λ k. lost_in_a_row k h % limit n) below

lost_kept : (n : ℕ) (h : List Cycle) (c : Cycle) (i : ℕ) → 0 < n → i < most_masters → lost_after (kept_of n h) c i ≡ lost_in_a_row i (c ∷ h) % limit n
unfolding lost_after lost_in_a_row kept_of
lost_kept n [] c i pos below = lost_at n [] i below
lost_kept n (p ∷ h) c i pos below =
    either (decided p)
    (λ e. simp (e, counted p h, lost_at n (p ∷ h) i below) (longer_row (limit n) (lost_in_a_row i (p ∷ h)) (loses i p c) (some_limit n pos)))
    (λ e. simp (e, counted p h) (lost_at n (p ∷ h) i below))

pub kept_step : (n : ℕ) (h : List Cycle) (c : Cycle) → 0 < n → next_judge (kept_of n h) c ≡ kept_of n (c ∷ h)
unfolding next_judge kept_of in_a_row
kept_step n h c pos =
    rw (
      add-one (length h),
      longer_row 1024 (in_a_row locked_incr h) (locked_incr c) (omega arith),
      longer_row 17 (in_a_row waits h) (waits c) (omega arith),
      opened_kept n h c,
      watch_kept n h c,
      list_same 0 16 (lost_after (kept_of n h) c) (λ i. lost_in_a_row i (c ∷ h) % limit n) (λ i below. lost_kept n h c i pos below),
    )

-- a rule that compares p and t, and one of cycle 0: the judge knows by its count which it is at
compares_kept : (n : ℕ) (f : Cycle → Cycle → Bool) (h : List Cycle) (c : Cycle) → compares_at (kept_of n h) f c ≡ comparing f (c ∷ h)
unfolding kept_of
compares_kept n f [] c = refl
compares_kept n f (p ∷ h) c = rw (counted p h)

first_kept : (n : ℕ) (f : Cycle → Bool) (h : List Cycle) (c : Cycle) → (eqb (kept_of n h).count 0 && f c) ≡ at_first f (c ∷ h)
unfolding kept_of
first_kept n f [] c = refl
first_kept n f (p ∷ h) c = rw (counted p h)

g2_kept : (n : ℕ) (h : List Cycle) (c : Cycle) → charges (kept_of n h) c G2 ≡ g2 (c ∷ h)
unfolding charges kept_of g2
g2_kept n h c =
    either (handover c) (λ e. rw e (watch_cuts_incr (opening (access h)) c)) (λ e. rw e)

g3_kept : (n : ℕ) (h : List Cycle) (c : Cycle) → charges (kept_of n h) c G3 ≡ g3 (c ∷ h)
unfolding charges kept_of g3
g3_kept n h c =
    either (handover c) (λ e. rw e (watch_cuts_fixed (opening (access h)) c e)) (λ e. rw e)

reaches_kept : (n : ℕ) (p : Cycle) (h : List Cycle) (c : Cycle) → 0 < n → decided p ≡ true
    → (i : ℕ) → i < most_masters → reaches (kept_of n (p ∷ h)) c i ≡ completes (limit n) (lost_in_a_row i (c ∷ (p ∷ h)))
unfolding kept_of lost_in_a_row
reaches_kept n p h c pos e i below =
    simp (e, lost_at n (p ∷ h) i below) (completes_row (limit n) (lost_in_a_row i (p ∷ h)) (loses i p c) (some_limit n pos))

g11_kept : (n : ℕ) (h : List Cycle) (c : Cycle) → 0 < n → charges (kept_of n h) c G11 ≡ g11 n (c ∷ h)
unfolding charges g11 kept_of
g11_kept n [] c pos = refl
g11_kept n (p ∷ h) c pos =
    either (decided p)
    (λ e. simp (e, counted p h) (some_same 16 _ _ (reaches_kept n p h c pos e)))
    (λ e. simp (e, counted p h))

pub exact : (n : ℕ) (h : List Cycle) (c : Cycle) → 0 < n → (r : Rule) → charges (kept_of n h) c r ≡ broken n r (c ∷ h)
unfolding charges broken in_a_row kept_of
exact n h c pos A1 = completes_row 1024 (in_a_row locked_incr h) (locked_incr c) (omega arith)
exact n h c pos A2 = completes_row 17 (in_a_row waits h) (waits c) (omega arith)
exact n h c pos A3 = compares_kept n a3 h c
exact n h c pos A4 = compares_kept n a4 h c
exact n h c pos A5 = compares_kept n a5 h c
exact n h c pos A6 = compares_kept n a6 h c
exact n h c pos A7 = compares_kept n a7 h c
exact n h c pos A8 = refl
exact n h c pos A9 = first_kept n a9 h c
exact n h c pos G1 = refl
exact n h c pos G2 = g2_kept n h c
exact n h c pos G3 = g3_kept n h c
exact n h c pos G4 = compares_kept n g4 h c
exact n h c pos G5 = compares_kept n g5 h c
exact n h c pos G6 = compares_kept n g6 h c
exact n h c pos G7 = compares_kept n g7 h c
exact n h c pos G8 = compares_kept n g8 h c
exact n h c pos G9 = compares_kept n g9 h c
exact n h c pos G10 = compares_kept n g10 h c
exact n h c pos G11 = g11_kept n h c pos
exact n h c pos G12 = first_kept n g12 h c
