-- The 42 bytes and the well-formed judges correspond one to one: the statements of specs/Promises.antt, each by the law of its name.
--
--   judge_fits   == a well-formed judge fits its bytes
--   first_judge  == the first 42 bytes say what judge it is
use Rattle.std.specs.Prelude.{Ok}
use Prim.Native.Nat.{ℕ, zero, suc, ◌+◌, ◌/◌, ◌%◌, ◌≤◌, ◌<◌}
use mathlib.Core.Path.{◌≡◌, refl, sym, ◌∙◌}
use mathlib.Core.Bool.{Bool, true, false, ◌||◌}
use mathlib.Core.List.{List, [], ◌∷◌, ◌++◌}
use native.Mathlib.Omega.{arith}
use borrow.Author.Tests.{leb-true, leb-false, le-leb, eqb-true}
use lib.Dec.{eqb, leb}
use lib.ListN.{length, get_or, take, drop, get_or-eq_default}
use lib.Seq.{take_at, take-add, drop-drop, take-take}
use Rattle.std.proofs.lemmas.List.{drop-take}
use Rattle.rules.specs.declared.Inputs.{Inputs}
use Rattle.rules.specs.declared.Outputs.{Outputs}
use Rattle.rules.specs.declared.Cycle.{Cycle}
use Rattle.rules.specs.Valid.{inputs_too_large, outputs_too_large, cycle_check}
use Rattle.rules.specs.Step.{flag_of}
use Rattle.rules.proofs.Choice.{order, and_left, and_right, or_left, or_right}
use Rattle.rules.proofs.Flags.{flag_most, flag_again}
use Rattle.rules.proofs.Total.{cycle_passed}
use Rattle.rulebook.specs.declared.Watch.{Watch}
use Rattle.rulebook.specs.declared.Watch.TheVariants.{Nothing, OnG2, OnG3}
use Rattle.rulebook.specs.declared.Judge.{Judge}
use Rattle.rulebook.specs.State.{watch_ok}
use Rattle.rulebook.specs.Kept.{Sound}
use Rattle.formats.proofs.Limits.{inputs_small, outputs_small}
use Rattle.words.specs.Words.{low_first, number_low}
use Rattle.words.proofs.Words.{Bytes, none_bytes, one_more, slots, slots_take, in_first, number_bytes, bytes_of_number}
use Rattle.docketing.specs.Bytes.{judge_size, watch_byte, left_byte, head_of, head_bytes, input_bytes, output_bytes, cycle_bytes, judge_bytes, watch_of, is_judge, cycle_in, judge_in, bytes_judge}
use Rattle.docketing.specs.Fits.{InputsFit, OutputsFit, JudgeFits}
use Rattle.docketing.specs.Promises.{HasItsBytes, ReadAgain, WrittenAgain, OneJudge, CountInItsBytes}

-- a flag's byte, and the watch's two
flag_byte : (f : ℕ) → leb f 1 ≡ true → flag_of (eqb f 1) ≡ f
flag_byte zero e = refl
flag_byte (suc zero) e = refl
flag_byte (suc (suc f)) e = absurd (omega (arith, leb-true (suc (suc f)) 1 e))

flag_small : (f : Bool) → leb (flag_of f) 1 ≡ true
flag_small f = le-leb (flag_of f) 1 (flag_most f)

watch_again : (w : Watch) → watch_of (watch_byte w) (left_byte w) ≡ w
unfolding watch_of
watch_again Nothing = refl
watch_again OnG2 = refl
watch_again (OnG3 k) = refl

watch_shape : (w : Watch) → (leb (watch_byte w) 2 ≡ true) × ((eqb (watch_byte w) 2 || eqb (left_byte w) 0) ≡ true)
watch_shape Nothing = (refl, refl)
watch_shape OnG2 = (refl, refl)
watch_shape (OnG3 k) = (refl, refl)

watch_bytes : (w k : ℕ) → leb w 2 ≡ true → (eqb w 2 || eqb k 0) ≡ true → (watch_byte (watch_of w k) ≡ w) × (left_byte (watch_of w k) ≡ k)
unfolding watch_of
watch_bytes zero k e f = (refl, sym (eqb-true k 0 f))
watch_bytes (suc zero) k e f = (refl, sym (eqb-true k 0 f))
watch_bytes (suc (suc zero)) k e f = (refl, refl)
watch_bytes (suc (suc (suc w))) k e f = absurd (omega (arith, leb-true (suc (suc (suc w))) 2 e))

watch_below : (w : Watch) → watch_byte w < 256
watch_below Nothing = omega arith
watch_below OnG2 = omega arith
watch_below (OnG3 k) = omega arith

left_below : (opened : Bool) (w : Watch) → watch_ok opened w ≡ true → left_byte w < 256
left_below opened Nothing e = omega arith
left_below opened OnG2 e = omega arith
left_below opened (OnG3 k) e = let f : leb k 3 ≡ true = search (and_left, and_right) depth 9 in omega (arith, leb-true k 3 f)

-- what is well formed fits
cycle_fits : (n : ℕ) (c : Cycle) → n ≤ 16 → cycle_check n c ≡ Ok tt → InputsFit c.inputs × OutputsFit c.outputs
cycle_fits n c many e =
    let p = cycle_passed n c e in
    let x = inputs_small c.inputs (or_left (inputs_too_large c.inputs) (outputs_too_large c.outputs) p.value) in
    let o = outputs_small c.outputs (or_right (inputs_too_large c.inputs) (outputs_too_large c.outputs) p.value) in
    let m = leb-false n c.outputs.hmaster p.owner in (
      record { hbusreq = omega arith; hlock = omega arith; hready = omega arith; htrans = omega arith; hburst = omega arith },
      record {
        hgrant = omega arith;
        hmaster = omega arith;
        hmastlock = omega arith;
        decide = omega arith;
        granted = omega arith;
        busreq = omega arith;
      },
    )

low_at : (j : Judge) → Sound j → (i : ℕ) → get_or j.lost i 0 < 256
low_at j s i =
    order 16 i (λ out. omega (arith, get_or-eq_default j.lost 0 {n = i} (omega (arith, s.size))))
    (λ below. omega (arith, s.lost i below, s.many))

pub judge_fits : (j : Judge) → Sound j → JudgeFits j
judge_fits j s =
    let columns = cycle_fits j.n j.previous s.many s.previous in
    record {
      n = omega (arith, s.many);
      left = left_below j.opened j.watch s.watch;
      locked = omega (arith, s.locked);
      waited = omega (arith, s.waited);
      count = omega (arith, s.room);
      inputs = columns.0;
      outputs = columns.1;
      lost = record { size = s.size; below = low_at j s };
    }

-- its bytes
joined : (a b : List ℕ) → Bytes a → Bytes b → Bytes (a ++ b)
joined [] b p q = q
joined (x ∷ a) b p q = one_more (p.below 0) (joined a b (record { below = λ i. p.below (suc i) }) q)

head_bytes_lem : (j : Judge) → JudgeFits j → Bytes (head_bytes j)
unfolding head_of
head_bytes_lem j f =
    let spare : 0 < 256 = omega arith in
    let opened : flag_of j.opened < 256 = omega (arith, flag_most j.opened) in
    let rest = joined (low_first 2 j.locked) (j.waited ∷ 0 ∷ low_first 4 j.count) (number_bytes 2 j.locked) (one_more f.waited (one_more spare (number_bytes 4 j.count))) in
    one_more f.n (one_more opened (one_more (watch_below j.watch) (one_more f.left rest)))

input_bytes_lem : (x : Inputs) → InputsFit x → Bytes (input_bytes x)
unfolding input_bytes
input_bytes_lem x f =
    let codes = one_more f.hready (one_more f.htrans (one_more f.hburst none_bytes)) in
    joined _ _ (number_bytes 2 x.hbusreq) (joined _ _ (number_bytes 2 x.hlock) codes)

output_bytes_lem : (o : Outputs) → OutputsFit o → Bytes (output_bytes o)
unfolding output_bytes
output_bytes_lem o f =
    let flags = one_more f.hmastlock (one_more f.decide (one_more f.granted (one_more f.busreq none_bytes))) in
    joined _ _ (number_bytes 2 o.hgrant) (one_more f.hmaster flags)

cycle_bytes_lem : (c : Cycle) → InputsFit c.inputs → OutputsFit c.outputs → Bytes (cycle_bytes c)
unfolding cycle_bytes
cycle_bytes_lem c f g = joined (input_bytes c.inputs) (output_bytes c.outputs) (input_bytes_lem c.inputs f) (output_bytes_lem c.outputs g)

pub judge_length : (j : Judge) → JudgeFits j → length (judge_bytes j) ≡ judge_size
unfolding judge_bytes head_of cycle_bytes input_bytes output_bytes
judge_length j f = omega (arith, f.lost.size)

pub has_its_bytes : HasItsBytes
unfolding judge_bytes
has_its_bytes j s =
    let f = judge_fits j s in
    let all = joined (head_bytes j) (cycle_bytes j.previous ++ j.lost) (head_bytes_lem j f)
    (joined (cycle_bytes j.previous) j.lost (cycle_bytes_lem j.previous f.inputs f.outputs) (record { below = f.lost.below })) in
    (judge_length j f, all.below)

-- what they are read as
cycle_again : (j : Judge) (rest : List ℕ) → InputsFit j.previous.inputs → OutputsFit j.previous.outputs → cycle_in (judge_bytes j ++ rest) ≡ j.previous
unfolding judge_bytes head_of cycle_bytes input_bytes output_bytes cycle_in
cycle_again j rest f g =
    let b : List ℕ = judge_bytes j ++ rest in
    let hbusreq : number_low 2 b 12 ≡ j.previous.inputs.hbusreq = omega (arith, f.hbusreq) in
    let hlock : number_low 2 b 14 ≡ j.previous.inputs.hlock = omega (arith, f.hlock) in
    let hgrant : number_low 2 b 19 ≡ j.previous.outputs.hgrant = omega (arith, g.hgrant) in
    rw (hbusreq, hlock, hgrant)

pub read_again : ReadAgain
unfolding bytes_judge judge_bytes head_of cycle_bytes input_bytes output_bytes is_judge judge_in
read_again j rest s =
    let f = judge_fits j s in
    let b : List ℕ = judge_bytes j ++ rest in
    let locked : number_low 2 b 4 ≡ j.locked = omega (arith, f.locked) in
    let count : number_low 4 b 8 ≡ j.count = omega (arith, f.count) in
    let lost : take 16 (drop 26 b) ≡ j.lost = take_at j.lost rest 16 f.lost.size in
    let w = watch_shape j.watch in
    simp (flag_small j.opened, w.0, w.1, flag_again j.opened, watch_again j.watch, cycle_again j rest f.inputs f.outputs, locked, count, lost)

-- what lies behind the first bytes is not read
pub first_judge : (b : List ℕ) → bytes_judge (take judge_size b) ≡ bytes_judge b
unfolding bytes_judge is_judge judge_in cycle_in
first_judge b = simp (in_first 42 b, drop-take 26 16 b, take-take 16 16 (drop 26 b) (omega arith))

-- the parts of the test
record Shape (b : List ℕ) : Type 0 where
  opened : leb (get_or b 1 0) 1 ≡ true
  watch : leb (get_or b 2 0) 2 ≡ true
  left : (eqb (get_or b 2 0) 2 || eqb (get_or b 3 0) 0) ≡ true
  spare : eqb (get_or b 7 0) 0 ≡ true

shape_of : (b : List ℕ) → is_judge b ≡ true → Shape b
unfolding is_judge
shape_of b e = search (and_left, and_right) depth 9

-- the two bytes of a number
pair_again : (b : List ℕ) (p : ℕ) → Bytes b → (number_low 2 b p % 256 ≡ get_or b p 0) × (number_low 2 b p / 256 % 256 ≡ get_or b (p + 1) 0)
pair_again b p w = (omega (arith, w.below p), omega (arith, w.below p, w.below (p + 1)))

head_again : (b : List ℕ) → Bytes b → is_judge b ≡ true → head_bytes (judge_in b) ≡ slots b 0 12
unfolding head_of judge_in
head_again b w e =
    let t = shape_of b e in
    let p = watch_bytes (get_or b 2 0) (get_or b 3 0) t.watch t.left in
    let locked = pair_again b 4 w in
    let count : low_first 4 (judge_in b).count ≡ slots b 8 4 = bytes_of_number 4 b 8 w in
    rw (flag_byte (get_or b 1 0) t.opened, p.0, p.1, locked.0, locked.1, count, eqb-true (get_or b 7 0) 0 t.spare)

columns_again : (b : List ℕ) → Bytes b → cycle_bytes (cycle_in b) ≡ slots b 12 14
unfolding cycle_bytes input_bytes output_bytes cycle_in
columns_again b w =
    let hbusreq = pair_again b 12 w in
    let hlock = pair_again b 14 w in
    let hgrant = pair_again b 19 w in
    rw (hbusreq.0, hbusreq.1, hlock.0, hlock.1, hgrant.0, hgrant.1)

all_again : (b : List ℕ) → judge_size ≤ length b → Bytes b → is_judge b ≡ true → judge_bytes (judge_in b) ≡ take judge_size b
unfolding judge_bytes judge_in
all_again b h w e =
    let first : head_bytes (judge_in b) ≡ take 12 b = head_again b w e ∙ sym (slots_take b 12 0 (omega arith)) in
    let second : cycle_bytes (cycle_in b) ≡ take 14 (drop 12 b) = columns_again b w ∙ sym (slots_take b 14 12 (omega arith)) in
    let rest : take 14 (drop 12 b) ++ take 16 (drop 26 b) ≡ take 30 (drop 12 b) = rw (← drop-drop 14 12 b) (sym (take-add 14 16 (drop 12 b))) in
    rw (first, second, rest) (sym (take-add 12 30 b))

pub written_again : WrittenAgain
unfolding bytes_judge
written_again b j h w e = go (is_judge b) refl
  where
    go : (t : Bool) → is_judge b ≡ t → judge_bytes j ≡ take judge_size b
    go true q =
        let f = rw q at e in
        let i : j ≡ judge_in b = cc in
        rw i (all_again b h (record { below = w }) q)
    go false q = let f = rw q at e in let z : ◌≡◌ {A = ℕ} 0 1 = cc in absurd (omega arith)

pub one_judge : OneJudge
one_judge j k s t e =
    let p = read_again j [] s in
    let q = read_again k [] t in
    let u : bytes_judge (judge_bytes j ++ []) ≡ bytes_judge (judge_bytes k ++ []) = rw e in
    cc

pub count_in_its_bytes : CountInItsBytes
unfolding judge_bytes head_of cycle_bytes input_bytes output_bytes
count_in_its_bytes j k = refl
