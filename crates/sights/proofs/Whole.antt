-- The columns of a step one after the other, and the whole step.
--
--   inputs_passed, outputs_passed == the columns of each side
--   tests_pass == a cycle that passes the tests
--   step_seen  == a good step is the one that is written, so the reader reads it
use Rattle.std.proofs.Common.{◌≡◌, ℕ, ◌+◌, ◌-◌, ◌/◌, ◌^◌, ◌<◌, ◌≤◌, Bool, true, false, cond, not, ◌&&◌, eqb, ltb, List, [], ◌∷◌, ◌++◌, length, get_or, take, drop, sym, refl, ap, ◌∙◌, inr, append_assoc, zero-add, arith, length-append, take-append-drop, take_at, ltb-true, ne_eqb, eqb-true, Ok, Some}
use mathlib.Core.Bool.{false≢true}
use borrow.Author.Tests.{not-true}
use lib.Bits.{bit_or}
use lib.ListN.{get_or-append}
use lib.Seq.{length-take-le}
use Rattle.rules.specs.declared.Inputs.{Inputs}
use Rattle.rules.specs.declared.Outputs.{Outputs}
use Rattle.rules.specs.declared.Cycle.{Cycle}
use Rattle.rules.specs.Codes.{most_cycles}
use Rattle.rules.specs.State.{masters_ok}
use Rattle.rules.specs.Valid.{cycle_check}
use Rattle.rules.proofs.Choice.{and_left, and_right}
use Rattle.formats.specs.Columns.{cycle_values}
use Rattle.formats.proofs.Limits.{ok_range, line_valid}
use Rattle.formats.specs.Digits.{decimal}
use Rattle.dumps.proofs.Clock.{at_most_six}
use Rattle.waves.specs.Variables.{Variable, variables, change}
use Rattle.waves.specs.Steps.{time_line, changes, dump_step}
use Rattle.waves.specs.Reading.{read_step_of}
use Rattle.waves.specs.Files.{lines_in}
use Rattle.waves.proofs.Near.{changed, lines_of_step}
use Rattle.waves.proofs.Promises.{written_step_reads}
use Rattle.glances.proofs.Bits.{or_below, within}
use Rattle.glances.proofs.Valid.{cycle_pass}
use Rattle.glances.proofs.Seen.{masters_below}
use Rattle.sights.specs.Sights.{variable, piece, counted, Passed, InputsPassed, OutputsPassed}

one_passed : {w k v : ℕ} {s : List ℕ} {l u : ℕ} {r : List ℕ} {m : ℕ} → Passed w k v s l u r m → (xs : List Variable) (vs us t : List ℕ)
    → r ≡ changes false xs vs us ++ t → s ≡ changes false (variable w k ∷ xs) (v ∷ vs) (u ∷ us) ++ t
unfolding changes piece
one_passed {w} {k} {v} {s} {l} {u} p xs vs us t e =
    p.bytes ∙ ap (λ x. cond (not (eqb u v)) (change (variable w k) u) [] ++ x) e ∙ sym (append_assoc (cond (not (eqb u v)) (change (variable w k) u) []) (changes false xs vs us) t)

pub inputs_passed : (x : Inputs) (l u1 u2 u3 u4 u5 : ℕ) (s r1 r2 r3 r4 r5 : List ℕ) (m1 m2 m3 m4 m5 : ℕ)
    → Passed 16 33 x.hbusreq s l u1 r1 m1
    → Passed 16 34 x.hlock r1 m1 u2 r2 m2
    → Passed 1 35 x.hready r2 m2 u3 r3 m3
    → Passed 2 36 x.htrans r3 m3 u4 r4 m4
    → Passed 3 37 x.hburst r4 m4 u5 r5 m5
    → InputsPassed x s l (record { hbusreq = u1; hlock = u2; hready = u3; htrans = u4; hburst = u5 }) r5 m5
inputs_passed x l u1 u2 u3 u4 u5 s r1 r2 r3 r4 r5 m1 m2 m3 m4 m5 a b c d e =
    record {
      bytes = λ xs vs us t h.
          one_passed a _ _ _ t (one_passed b _ _ _ t (one_passed c _ _ _ t (one_passed d _ _ _ t (one_passed e xs vs us t h))));
      lines = omega (arith, a.lines, b.lines, c.lines, d.lines, e.lines);
    }

nothing : (r : List ℕ) → r ≡ changes false [] [] [] ++ r
unfolding changes
nothing r = refl

pub outputs_passed : (x : Outputs) (l u1 u2 u3 u4 u5 u6 : ℕ) (s r1 r2 r3 r4 r5 r6 : List ℕ) (m1 m2 m3 m4 m5 m6 : ℕ)
    → Passed 16 38 x.hgrant s l u1 r1 m1
    → Passed 4 39 x.hmaster r1 m1 u2 r2 m2
    → Passed 1 40 x.hmastlock r2 m2 u3 r3 m3
    → Passed 1 41 x.decide r3 m3 u4 r4 m4
    → Passed 1 42 x.granted r4 m4 u5 r5 m5
    → Passed 1 43 x.busreq r5 m5 u6 r6 m6
    → OutputsPassed x s l (record { hgrant = u1; hmaster = u2; hmastlock = u3; decide = u4; granted = u5; busreq = u6 }) r6 m6
outputs_passed x l u1 u2 u3 u4 u5 u6 s r1 r2 r3 r4 r5 r6 m1 m2 m3 m4 m5 m6 a b c d e f =
    record {
      bytes =
          one_passed a _ _ _ r6 (one_passed b _ _ _ r6 (one_passed c _ _ _ r6 (one_passed d _ _ _ r6 (one_passed e _ _ _ r6 (one_passed f [] [] [] r6 (nothing r6))))));
      lines = omega (arith, a.lines, b.lines, c.lines, d.lines, e.lines, f.lines);
    }

-- the sides of a test
record Sides (a b c d e f g : Bool) : Type 0 where
  one : a ≡ true
  two : b ≡ true
  three : c ≡ true
  four : d ≡ true
  five : e ≡ true
  six : f ≡ true
  seven : g ≡ true

sides : (a b c d e f g : Bool) → (a && b && c && d && e && f && g) ≡ true → Sides a b c d e f g
sides true true true true true true g t =
    record { one = refl; two = refl; three = refl; four = refl; five = refl; six = refl; seven = t }
sides true true true true true false g t = absurd (false≢true t)
sides true true true true false f g t = absurd (false≢true t)
sides true true true false e f g t = absurd (false≢true t)
sides true true false d e f g t = absurd (false≢true t)
sides true false c d e f g t = absurd (false≢true t)
sides false b c d e f g t = absurd (false≢true t)

module _ (n : ℕ) (ok : masters_ok n ≡ true) where
  pub few_masters : n < 32
  few_masters = omega (arith, masters_below n ok)

  pub tests_pass : (c : Cycle)
      → (eqb (bit_or (bit_or c.inputs.hbusreq c.inputs.hlock) c.outputs.hgrant / 2 ^ n) 0
      && ltb (bit_or (bit_or (bit_or (bit_or c.inputs.hready c.outputs.hmastlock) c.outputs.decide) c.outputs.granted) c.outputs.busreq) 2
      && ltb c.inputs.htrans 4
      && not (eqb c.inputs.htrans 1)
      && ltb c.inputs.hburst 4
      && not (eqb c.inputs.hburst 2)
      && ltb c.outputs.hmaster n) ≡ true
      → cycle_check n c ≡ Ok tt
  tests_pass c t =
      let x = c.inputs in
      let o = c.outputs in
      let f = sides _ _ _ _ _ _ _ t in
      let g = or_below (2 ^ n) (bit_or x.hbusreq x.hlock) o.hgrant (within n _ (eqb-true _ 0 f.one)) in
      let m = or_below (2 ^ n) x.hbusreq x.hlock g.0 in
      let b1 = or_below 2 (bit_or (bit_or (bit_or x.hready o.hmastlock) o.decide) o.granted) o.busreq (ltb-true _ 2 f.two) in
      let b2 = or_below 2 (bit_or (bit_or x.hready o.hmastlock) o.decide) o.granted b1.0 in
      let b3 = or_below 2 (bit_or x.hready o.hmastlock) o.decide b2.0 in
      let b4 = or_below 2 x.hready o.hmastlock b3.0 in
      line_valid n c
      (cycle_pass n (masters_below n ok) c
      (record {
        requests = m.0;
        locks = m.1;
        ready = omega (arith, b4.0);
        trans = omega (arith, ltb-true x.htrans 4 f.three);
        burst = omega (arith, ltb-true x.hburst 4 f.five);
        built = rw (not-true (eqb x.htrans 1) f.four) (not-true (eqb x.hburst 2) f.six);
      })
      (record {
        grant = g.1;
        owner = ltb-true o.hmaster n f.seven;
        lock = omega (arith, b4.1);
        decide = omega (arith, b3.1);
        granted = omega (arith, b2.1);
        request = omega (arith, b1.1);
      }))

counted_changed : (vs us : List ℕ) → changed false vs us ≡ counted vs us
unfolding changed
counted_changed [] us = refl
counted_changed (v ∷ vs) [] = refl
counted_changed (v ∷ vs) (u ∷ us) = ap (λ k. cond (not (eqb u v)) 1 0 + k) (counted_changed vs us)

step_of : (prev : Cycle) (t : ℕ) (c : Cycle) → (t ≡ 0 → ⊥) → dump_step prev t c ≡ time_line t ++ changes false variables (cycle_values prev) (cycle_values c)
unfolding dump_step
step_of prev t c some = rw (ne_eqb t 0 some)

-- a step that is written before something else is read
module _ (n t : ℕ) (prev c : Cycle) (s tail : List ℕ) (next : ℕ) (ok : masters_ok n ≡ true) (some : t ≡ 0 → ⊥) (early : t < most_cycles) (valid : cycle_check n c ≡ Ok tt)
    (ends : get_or tail 0 0 ≡ 35)
    (step : s ≡ time_line t ++ (changes false variables (cycle_values prev) (cycle_values c) ++ tail))
    (size : length (dump_step prev t c) ≡ next)
  where
    later : eqb t 0 ≡ false
    later = ne_eqb t 0 some

    written : s ≡ dump_step prev t c ++ tail
    written =
        step ∙ rw (step_of prev t c some) (sym (append_assoc (time_line t) (changes false variables (cycle_values prev) (cycle_values c)) tail))

    pub step_reads : read_step_of n t prev s 0 ≡ Ok (Some (c, next))
    step_reads =
        ap (λ l. read_step_of n t prev l 0) written
        ∙ written_step_reads n t prev c [] tail (ok_range n ok) early valid (inr ends)
        ∙ ap (λ (q : ℕ). Ok (Some (c, q))) (zero-add (length (dump_step prev t c)) ∙ size)

    pub step_lines : (m : ℕ) → m ≡ 1 + counted (cycle_values prev) (cycle_values c) → lines_in (take next s) ≡ m
    step_lines m e =
        ap lines_in (ap (take next) written ∙ take_at (dump_step prev t c) tail next size)
        ∙ lines_of_step prev t c
        ∙ rw (later, counted_changed (cycle_values prev) (cycle_values c)) (sym e)

-- the step stands in the first bytes of s
module _ (n t : ℕ) (prev : Cycle) (s head : List ℕ) (ok : masters_ok n ≡ true) (some : t ≡ 0 → ⊥) (early : t < most_cycles)
    (few : head ≡ take 128 s) (room : 128 ≤ length s)
    (rest : List ℕ) (time : head ≡ time_line t ++ rest)
  where
    pub room_left : (20 ≤ length rest) × (1 + length rest ≤ 128)
    unfolding time_line
    room_left =
        let all : length (time_line t) + length rest ≡ 128 =
        sym (length-append (time_line t) rest) ∙ sym (ap length time) ∙ ap length few ∙ length-take-le 128 s room in
        let line : length (time_line t) ≡ 1 + length (decimal t) + 1 = simp length-append (omega arith) in
        (omega (arith, at_most_six t early), omega arith)

    module _ (x : Inputs) (r : List ℕ) (l : ℕ) (a : InputsPassed prev.inputs rest 1 x r l)
        (y : Outputs) (tail : List ℕ) (m : ℕ) (b : OutputsPassed prev.outputs r l y tail m)
        (valid : Bool) (passed : valid ≡ true → cycle_check n (record { inputs = x; outputs = y }) ≡ Ok tt)
        (left : 20 ≤ length tail) (tests : (valid && eqb (get_or tail 0 0) 35) ≡ true)
      where
        abbrev cycle : Cycle
        cycle = record { inputs = x; outputs = y }

        pub step_seen : (read_step_of n t prev s 0 ≡ Ok (Some (cycle, 128 - length tail))) × (lines_in (take (128 - length tail) s) ≡ m) × (128 - length tail ≤ length s)
        step_seen =
            let after : List ℕ = drop 128 s in
            let lines : List ℕ = changes false variables (cycle_values prev) (cycle_values cycle) in
            let seen : head ≡ time_line t ++ (lines ++ tail) = time ∙ ap (λ k. time_line t ++ k) (a.bytes _ _ _ tail b.bytes) in
            let step : s ≡ time_line t ++ (lines ++ (tail ++ after)) =
            sym (take-append-drop 128 s) ∙ rw (← few, seen, append_assoc, append_assoc) in
            let size : length (dump_step prev t cycle) ≡ 128 - length tail =
            rw (step_of prev t cycle some)
            (omega (arith, ap length few, ap length seen, length-take-le 128 s room, length-append (time_line t) (lines ++ tail), length-append lines tail, length-append (time_line t) lines)) in
            let good = passed (and_left valid (eqb (get_or tail 0 0) 35) tests) in
            let found : get_or (tail ++ after) 0 0 ≡ 35 =
            get_or-append tail after 0 0 (omega arith) ∙ eqb-true _ _ (and_right valid (eqb (get_or tail 0 0) 35) tests) in (
              step_reads n t prev cycle s (tail ++ after) (128 - length tail) ok some early good found step size,
              step_lines n t prev cycle s (tail ++ after) (128 - length tail) ok some early good found step size m (omega (arith, a.lines, b.lines)),
              omega arith,
            )
