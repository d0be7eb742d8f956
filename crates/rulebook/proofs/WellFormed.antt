-- The page's test of a well-formed judge, and the facts that it stands for, agree.
--
--   good_is  == a check that is good is Good
--   facts_of == what passes the test, with a count for each of sixteen masters, has the facts
--   test_of  == what has the facts passes the test
use Rattle.std.specs.Prelude.{Err, Ok}
use Prim.Native.Nat.{ℕ, ◌≤◌, ◌<◌}
use mathlib.Core.Path.{◌≡◌, refl, sym, ◌∙◌}
use mathlib.Core.Bool.{Bool, true, false, not, ◌&&◌, ◌||◌, false≢true}
use mathlib.Core.List.{List}
use native.Mathlib.Omega.{arith}
use borrow.Author.Tests.{ltb-true, leb-true, leb-false, eqb-true, lt-ltb, le-leb, lt-leb, eq-eqb, not-true, not-false}
use lib.Dec.{eqb, ltb, leb}
use lib.ListN.{length, get_or}
use lib.Seq.{ext_get_or}
use Rattle.rules.specs.Results.{Check}
use Rattle.rules.specs.declared.Inputs.{Inputs}
use Rattle.rules.specs.declared.Outputs.{Outputs}
use Rattle.rules.specs.Codes.{most_masters}
use Rattle.rules.specs.Valid.{cycle_check}
use Rattle.rules.proofs.Choice.{either, and_left, and_right, or_left, or_right}
use Rattle.rules.proofs.WellFormed.{masters_ok_lem}
use Rattle.rulebook.specs.declared.Watch.{Watch}
use Rattle.rulebook.specs.declared.Watch.TheVariants.{Nothing, OnG2, OnG3}
use Rattle.rulebook.specs.declared.Judge.{Judge}
use Rattle.rulebook.specs.Columns.{some_below}
use Rattle.rulebook.specs.Rules.{limit, no_input}
use Rattle.rulebook.specs.State.{no_cycle, start_judge, watch_ok, is_good, wrong_count, counts_ok, some_count, no_watch, no_output, starts_out, well_formed}
use Rattle.rulebook.specs.Kept.{Sound}
use Rattle.rulebook.proofs.Counts.{some_none, none_below}
use Rattle.rulebook.proofs.Soundness.{start_lost}

-- one count, over plain numbers: x is the count, l the limit
count_right : (l n x i : ℕ) → (leb l x || leb n i && not (eqb x 0)) ≡ false → (x < l) × (n ≤ i → x ≡ 0)
count_right l n x i e =
    let absent = or_right (leb l x) (leb n i && not (eqb x 0)) e in (
      leb-false l x (or_left (leb l x) (leb n i && not (eqb x 0)) e),
      λ out. eqb-true x 0 (not-false (eqb x 0) (rw (le-leb n i out) at absent)),
    )

-- the parts of the test, as it stands
record Parts (j : Judge) : Type 0 where
  few : leb 2 j.n ≡ true
  many : leb j.n 16 ≡ true
  room : leb j.count 1000000 ≡ true
  previous : is_good (cycle_check j.n j.previous) ≡ true
  locked : ltb j.locked 1024 ≡ true
  waited : ltb j.waited 17 ≡ true
  lost : counts_ok j.n j.lost ≡ true
  watch : watch_ok j.opened j.watch ≡ true
  start : (not (eqb j.count 0) || starts_out j) ≡ true

parts_of : (j : Judge) → well_formed j ≡ true → Parts j
unfolding well_formed
parts_of j e = search (and_left, and_right) depth 10

-- and those of the test with count 0
record Start (j : Judge) : Type 0 where
  inputs : no_input j.previous.inputs ≡ true
  outputs : no_output j.previous.outputs ≡ true
  locked : eqb j.locked 0 ≡ true
  waited : eqb j.waited 0 ≡ true
  opened : not j.opened ≡ true
  watch : no_watch j.watch ≡ true
  lost : not (some_below most_masters (some_count j.lost)) ≡ true

start_of : (j : Judge) → starts_out j ≡ true → Start j
unfolding starts_out
start_of j e = search (and_left, and_right) depth 10

pub good_is : (k : Check) → is_good k ≡ true → k ≡ Ok tt
good_is (Ok _) e = refl
good_is (Err r) e = absurd (false≢true e)

nothing_is : (w : Watch) → no_watch w ≡ true → w ≡ Nothing
nothing_is Nothing e = refl
nothing_is OnG2 e = absurd (false≢true e)
nothing_is (OnG3 k) e = absurd (false≢true e)

-- records of zeros, field by field
ruleset zero_parts = (eqb-true, and_left, and_right)

inputs_zero : {a b c d e : ℕ} → a ≡ 0 → b ≡ 0 → c ≡ 0 → d ≡ 0 → e ≡ 0
    → ◌≡◌ {A = Inputs} (record { hbusreq = a; hlock = b; hready = c; htrans = d; hburst = e }) no_cycle.inputs
inputs_zero p q r t u = cc

outputs_zero : {a b c d e f : ℕ} → a ≡ 0 → b ≡ 0 → c ≡ 0 → d ≡ 0 → e ≡ 0 → f ≡ 0
    → ◌≡◌ {A = Outputs} (record { hgrant = a; hmaster = b; hmastlock = c; decide = d; granted = e; busreq = f }) no_cycle.outputs
outputs_zero p q r t u v = cc

no_inputs : (x : Inputs) → no_input x ≡ true → x ≡ no_cycle.inputs
no_inputs x e =
    inputs_zero (search zero_parts) (search zero_parts) (search zero_parts) (search zero_parts) (search zero_parts)

no_outputs : (o : Outputs) → no_output o ≡ true → o ≡ no_cycle.outputs
no_outputs o e =
    outputs_zero (search zero_parts) (search zero_parts) (search zero_parts) (search zero_parts) (search zero_parts) (search zero_parts)

lost_none : (n : ℕ) (l : List ℕ) → length l ≡ most_masters → some_below most_masters (some_count l) ≡ false → l ≡ (start_judge n).lost
lost_none n l size e =
    ext_get_or 0 l (start_judge n).lost size
    (λ i below.
    let in_range : i < most_masters = omega arith in
    eqb-true (get_or l i 0) 0 (not-false (eqb (get_or l i 0) 0) (none_below 16 (some_count l) e i in_range)) ∙ sym (start_lost n i in_range))

judge_zero : {n count locked waited : ℕ} {x : Inputs} {o : Outputs} {opened : Bool} {watch : Watch} {lost : List ℕ}
    → count ≡ 0 → x ≡ no_cycle.inputs → o ≡ no_cycle.outputs → locked ≡ 0 → waited ≡ 0 → opened ≡ false → watch ≡ Nothing → lost ≡ (start_judge n).lost
    → ◌≡◌ {A = Judge}
    (record { n = n; count = count; previous = record { inputs = x; outputs = o }; locked = locked; waited = waited; opened = opened; watch = watch; lost = lost })
    (start_judge n)
judge_zero a b c d e f g h = rw (a, b, c, d, e, f, g, h)

starts_out_lem : (j : Judge) → length j.lost ≡ most_masters → j.count ≡ 0 → starts_out j ≡ true → j ≡ start_judge j.n
starts_out_lem j size none e =
    let p = start_of j e in
    judge_zero none (no_inputs _ p.inputs) (no_outputs _ p.outputs) (eqb-true _ _ p.locked) (eqb-true _ _ p.waited)
    (not-true _ p.opened)
    (nothing_is _ p.watch)
    (lost_none j.n j.lost size (not-true _ p.lost))

pub facts_of : (j : Judge) → well_formed j ≡ true → length j.lost ≡ most_masters → Sound j
unfolding counts_ok
facts_of j e size =
    let p = parts_of j e in
    let right : (i : ℕ) → i < most_masters → (get_or j.lost i 0 < limit j.n) × (j.n ≤ i → get_or j.lost i 0 ≡ 0) =
    λ i below. count_right (limit j.n) j.n (get_or j.lost i 0) i (none_below 16 (wrong_count j.n j.lost) (not-true _ p.lost) i below) in
    record {
      few = leb-true _ _ p.few;
      many = leb-true _ _ p.many;
      room = leb-true _ _ p.room;
      previous = good_is _ p.previous;
      locked = ltb-true _ _ p.locked;
      waited = ltb-true _ _ p.waited;
      size = size;
      lost = λ i below. (right i below).0;
      absent = λ i below. (right i below).1;
      watch = p.watch;
      start = λ none. starts_out_lem j size none (rw (eq-eqb j.count 0 none) at p.start);
    }

right_count : (l n x i : ℕ) → x < l → (n ≤ i → x ≡ 0) → (leb l x || leb n i && not (eqb x 0)) ≡ false
right_count l n x i below none =
    rw (lt-leb l x below)
    (either (leb n i) (λ e. rw (e, eq-eqb x 0 (none (leb-true n i e)))) (λ e. rw e))

start_out : (n : ℕ) → starts_out (start_judge n) ≡ true
unfolding starts_out
start_out n = rw (some_none 16 (some_count (start_judge n).lost) (λ i below. rw (start_lost n i below)))

start_tested : (j : Judge) → Sound j → (not (eqb j.count 0) || starts_out j) ≡ true
start_tested j s =
    either (eqb j.count 0)
    (λ e. rw e (rw (s.start (eqb-true j.count 0 e)) (start_out j.n)))
    (λ e. rw e)

pub test_of : (j : Judge) → Sound j → well_formed j ≡ true
unfolding well_formed counts_ok
test_of j s =
    rw (
      masters_ok_lem j.n s.few s.many,
      le-leb j.count 1000000 s.room,
      s.previous,
      lt-ltb j.locked 1024 s.locked,
      lt-ltb j.waited 17 s.waited,
      some_none 16 (wrong_count j.n j.lost) (λ i below. right_count _ _ (get_or j.lost i 0) i (s.lost i below) (s.absent i below)),
      s.watch,
    ) (start_tested j s)
