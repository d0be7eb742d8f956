-- What lent bytes hold: l, a, p and k are the bytes of HMASTLOCK, GRANTED, the phase and k, and v is the number of the four.
--
--   unsound, seen    == what is seen of the bytes is what they hold
use Prim.Native.Nat.{ℕ, zero, suc, ◌+◌, ◌-◌, ◌*◌, ◌/◌, ◌%◌, ◌≤◌}
use mathlib.Core.Path.{◌≡◌, sym, ◌∙◌}
use mathlib.Core.Bool.{Bool, true, false, ◌&&◌, ◌||◌}
use mathlib.Core.List.{List}
use native.Mathlib.Omega.{arith}
use borrow.Author.Tests.{leb-true, le-leb, eqb-true}
use lib.Dec.{eqb, leb, ltb}
use lib.ListN.{length, get_or, take, drop}
use Rattle.rules.specs.State.{phase_ok, well_formed}
use Rattle.rules.proofs.Choice.{and_left, and_right, and_both}
use Rattle.words.specs.Words.{number_low}
use Rattle.words.proofs.Words.{Bytes, number_part}
use Rattle.buses.specs.declared.Bus.{Bus}
use Rattle.buses.specs.Buses.{phase_from, phase_number, state_from}
use Rattle.buses.proofs.Phases.{number_of}
use Rattle.hosting.specs.Bytes.{phase_of, is_state, state_in}
use Rattle.octets.specs.Octets.{sound_in, small, place_of, fitting, Holds}
use Rattle.octets.proofs.Places.{same_flag, Small, small_of, of_small}

-- the four bytes of v
record Four (v l a p k : ℕ) : Type 0 where
  lock : v % 256 ≡ l
  granted : v / 256 % 256 ≡ a
  phase : v / 65536 % 256 ≡ p
  left : v / 16777216 ≡ k

four : (b : List ℕ) (v : ℕ) → Bytes b → v ≡ number_low 4 b 3 → Four v (get_or b 3 0) (get_or b 4 0) (get_or b 5 0) (get_or b 6 0)
four b v w e =
    let l = w.below 3 in
    let a = w.below 4 in
    let p = w.below 5 in
    let k = w.below 6 in
    record { lock = omega arith; granted = omega arith; phase = omega arith; left = omega arith }

-- where they are small, they are read from the bits of v, and from its place i
record Read (v i l a p k : ℕ) : Type 0 where
  lock : v % 2 ≡ l
  granted : v / 256 % 2 ≡ a
  lock_there : i % 2 ≡ l
  granted_there : i / 2 % 2 ≡ a
  phase_there : i / 4 % 4 ≡ p
  left_there : i / 16 ≡ k

there : (i l a p k : ℕ) → l ≤ 1 → a ≤ 1 → p ≤ 3 → k ≤ 3 → i ≡ l + 2 * a + 4 * p + 16 * k → (i % 2 ≡ l) × (i / 2 % 2 ≡ a) × (i / 4 % 4 ≡ p) × (i / 16 ≡ k)
there i l a p k hl ha hp hk e = (omega arith, omega arith, omega arith, omega arith)

read : (v i l a p k : ℕ) → Four v l a p k → Small v → i ≡ place_of v → Read v i l a p k
read v i l a p k f s e =
    let t = there i (v % 256) (v / 256 % 256) (v / 65536 % 256) (v / 16777216) s.lock s.granted s.phase s.left e in
    let low : v % 2 ≡ v % 256 = omega (arith, s.lock) in
    let next : v / 256 % 2 ≡ v / 256 % 256 = omega (arith, s.granted) in
    record {
      lock = low ∙ f.lock;
      granted = next ∙ f.granted;
      lock_there = t.0 ∙ f.lock;
      granted_there = t.1 ∙ f.granted;
      phase_there = t.2 ∙ f.phase;
      left_there = t.3 ∙ f.left;
    }

-- the number of a phase that fits
phase_known : (l a p k : ℕ) → fitting l a p k ≡ true → phase_from (phase_number (phase_of p k)) ≡ phase_of p k
unfolding fitting
phase_known l a p k e =
    (number_of (phase_of p k) (eqb a 1) (eqb l 1) (and_right (eqb p 1 || eqb k 0) (phase_ok (phase_of p k) (eqb a 1) (eqb l 1)) e)).is

-- the tests of the bytes that are seen, f and s among them
abbrev tested : (n g m v z count : ℕ) (f s : Bool) → Bool
tested n g m v z count f s =
    (f && s && eqb z 0)
    && (leb 2 n && leb n 16 && ltb g n && ltb m n && (eqb (v / 256 % 2) 1 || eqb g m) && leb count 1000000)

record Tested (n g m v z count : ℕ) (f s : Bool) : Type 0 where
  fits : f ≡ true
  small : s ≡ true
  spare : eqb z 0 ≡ true
  few : leb 2 n ≡ true
  many : leb n 16 ≡ true
  grant : ltb g n ≡ true
  owner : ltb m n ≡ true
  together : (eqb (v / 256 % 2) 1 || eqb g m) ≡ true
  room : leb count 1000000 ≡ true

tested_of : (n g m v z count : ℕ) (f s : Bool) → tested n g m v z count f s ≡ true → Tested n g m v z count f s
tested_of n g m v z count f s e = search (and_left, and_right) depth 9

-- the tests of the bytes that a well-formed state has
record Formed (b : List ℕ) : Type 0 where
  lock : leb (get_or b 3 0) 1 ≡ true
  granted : leb (get_or b 4 0) 1 ≡ true
  phase : leb (get_or b 5 0) 3 ≡ true
  left : (eqb (get_or b 5 0) 1 || eqb (get_or b 6 0) 0) ≡ true
  spare : eqb (get_or b 7 0) 0 ≡ true
  few : leb 2 (get_or b 0 0) ≡ true
  many : leb (get_or b 0 0) 16 ≡ true
  grant : ltb (get_or b 1 0) (get_or b 0 0) ≡ true
  owner : ltb (get_or b 2 0) (get_or b 0 0) ≡ true
  together : (eqb (get_or b 4 0) 1 || eqb (get_or b 1 0) (get_or b 2 0)) ≡ true
  fits : phase_ok (phase_of (get_or b 5 0) (get_or b 6 0)) (eqb (get_or b 4 0) 1) (eqb (get_or b 3 0) 1) ≡ true
  room : leb (number_low 4 b 8) 1000000 ≡ true

formed_of : (b : List ℕ) → sound_in b ≡ true → Formed b
unfolding sound_in is_state well_formed state_in
formed_of b e = search (and_left, and_right) depth 9

of_formed : (b : List ℕ) → Formed b → sound_in b ≡ true
unfolding sound_in is_state well_formed state_in
of_formed b f =
    and_both
    (and_both (and_both (and_both (and_both f.lock f.granted) f.phase) f.left) f.spare)
    (and_both (and_both (and_both (and_both (and_both (and_both f.few f.many) f.grant) f.owner) f.together) f.fits) f.room)

-- k of a phase that fits is small
left_small : (l a p k : ℕ) → p ≤ 3 → (eqb p 1 || eqb k 0) ≡ true → phase_ok (phase_of p k) (eqb a 1) (eqb l 1) ≡ true → k ≤ 3
unfolding phase_of phase_ok
left_small l a zero k h e q = omega (arith, eqb-true k 0 e)
left_small l a (suc zero) k h e q = leb-true k 3 (search (and_left, and_right))
left_small l a (suc (suc zero)) k h e q = omega (arith, eqb-true k 0 e)
left_small l a (suc (suc (suc zero))) k h e q = omega (arith, eqb-true k 0 e)
left_small l a (suc (suc (suc (suc p)))) k h e q = absurd (omega arith)

module _ (b : List ℕ) (w : Bytes b) (v i : ℕ) (f s : Bool)
    (word : v ≡ number_low 4 b 3)
    (place : small v ≡ true → i ≡ place_of v)
    (fits : f ≡ fitting (i % 2) (i / 2 % 2) (i / 4 % 4) (i / 16))
    (smalls : s ≡ small v)
  where
    abbrev tested_here : Bool
    tested_here = tested (get_or b 0 0) (get_or b 1 0) (get_or b 2 0) v (get_or b 7 0) (number_low 4 b 8) f s

    parts : Four v (get_or b 3 0) (get_or b 4 0) (get_or b 5 0) (get_or b 6 0)
    parts = four b v w word

    bits : small v ≡ true → Read v i (get_or b 3 0) (get_or b 4 0) (get_or b 5 0) (get_or b 6 0)
    bits e = read v i (get_or b 3 0) (get_or b 4 0) (get_or b 5 0) (get_or b 6 0) parts (small_of v e) (place e)

    fits_here : small v ≡ true → f ≡ fitting (get_or b 3 0) (get_or b 4 0) (get_or b 5 0) (get_or b 6 0)
    fits_here e = let r = bits e in fits ∙ rw (r.lock_there, r.granted_there, r.phase_there, r.left_there)

    -- what passes the tests is the state of the bytes
    passes : tested_here ≡ true → Formed b
    unfolding fitting
    passes e =
        let t = tested_of (get_or b 0 0) (get_or b 1 0) (get_or b 2 0) v (get_or b 7 0) (number_low 4 b 8) f s e in
        let low = sym smalls ∙ t.small in
        let m = small_of v low in
        let r = bits low in
        let fit = sym (fits_here low) ∙ t.fits in
        record {
          lock = le-leb (get_or b 3 0) 1 (rw (← parts.lock) m.lock);
          granted = le-leb (get_or b 4 0) 1 (rw (← parts.granted) m.granted);
          phase = le-leb (get_or b 5 0) 3 (rw (← parts.phase) m.phase);
          left = and_left (eqb (get_or b 5 0) 1 || eqb (get_or b 6 0) 0) (phase_ok (phase_of (get_or b 5 0) (get_or b 6 0)) (eqb (get_or b 4 0) 1) (eqb (get_or b 3 0) 1)) fit;
          spare = t.spare;
          few = t.few;
          many = t.many;
          grant = t.grant;
          owner = t.owner;
          together = rw (← r.granted) t.together;
          fits = and_right (eqb (get_or b 5 0) 1 || eqb (get_or b 6 0) 0) (phase_ok (phase_of (get_or b 5 0) (get_or b 6 0)) (eqb (get_or b 4 0) 1) (eqb (get_or b 3 0) 1)) fit;
          room = t.room;
        }

    -- and the other way round
    holds : Formed b → tested_here ≡ true
    unfolding fitting
    holds h =
        let p = leb-true (get_or b 5 0) 3 h.phase in
        let m : Small v = record {
          lock = rw parts.lock (leb-true (get_or b 3 0) 1 h.lock);
          granted = rw parts.granted (leb-true (get_or b 4 0) 1 h.granted);
          phase = rw parts.phase p;
          left = rw parts.left (left_small (get_or b 3 0) (get_or b 4 0) (get_or b 5 0) (get_or b 6 0) p h.left h.fits);
        } in
        let low = of_small v m in
        let r = bits low in
        and_both
        (and_both (and_both (fits_here low ∙ and_both h.left h.fits) (smalls ∙ low)) h.spare)
        (and_both (and_both (and_both (and_both (and_both h.few h.many) h.grant) h.owner) (rw r.granted h.together)) h.room)

    exact : tested_here ≡ sound_in b
    exact = same_flag tested_here (sound_in b) (λ e. of_formed b (passes e)) (λ e. holds (formed_of b e))

    -- q is the number of the phase there
    module _ (q : ℕ) (number : q ≡ phase_number (phase_of (i / 4 % 4) (i / 16))) (most : q ≤ 5) where
      abbrev bus_here : Bus
      bus_here =
          record { g = get_or b 1 0; m = get_or b 2 0; hmastlock = v % 2; granted = v / 256 % 2; phase = q; count = number_low 4 b 8 }

      same : tested_here ≡ true → state_from (get_or b 0 0) bus_here ≡ state_in b
      unfolding state_in
      same e =
          let t = tested_of (get_or b 0 0) (get_or b 1 0) (get_or b 2 0) v (get_or b 7 0) (number_low 4 b 8) f s e in
          let low = sym smalls ∙ t.small in
          let r = bits low in
          let k = phase_known (get_or b 3 0) (get_or b 4 0) (get_or b 5 0) (get_or b 6 0) (sym (fits_here low) ∙ t.fits) in
          rw (r.lock, r.granted, number, r.phase_there, r.left_there, k)

      held_here : tested_here ≡ true → Holds b (record { n = get_or b 0 0; bus = bus_here })
      held_here e =
          record {
            sound = sym exact ∙ e;
            known = same e;
            fit = record { phase = most; lock = omega arith; granted = omega arith };
          }

-- the bytes are read one by one, four at once, and four more
module _ (b : List ℕ) (w : Bytes b) (n g m v count i : ℕ) (f s : Bool)
    (en : n ≡ get_or b 0 0) (eg : g ≡ get_or b 1 0) (em : m ≡ get_or b 2 0)
    (ev : v ≡ number_low 4 (take (length b - 3) (drop 3 b)) 0)
    (ec : count ≡ number_low 4 (take (length b - 8) (drop 8 b)) 0)
    (place : small v ≡ true → i ≡ place_of v)
    (fits : f ≡ fitting (i % 2) (i / 2 % 2) (i / 4 % 4) (i / 16))
    (smalls : s ≡ small v)
  where
    tests : tested n g m v (get_or b 7 0) count f s ≡ tested (get_or b 0 0) (get_or b 1 0) (get_or b 2 0) v (get_or b 7 0) (number_low 4 b 8) f s
    tests = rw (en, eg, em, ec ∙ number_part 4 8 b 0)

    pub unsound : tested n g m v (get_or b 7 0) count f s ≡ false → sound_in b ≡ false
    unsound e =
        sym (exact b w v i f s (ev ∙ number_part 4 3 b 0) place fits smalls) ∙ sym tests ∙ e

    pub seen : (q : ℕ) → q ≡ phase_number (phase_of (i / 4 % 4) (i / 16)) → q ≤ 5 → tested n g m v (get_or b 7 0) count f s ≡ true
        → Holds b (record { n = n; bus = record { g = g; m = m; hmastlock = v % 2; granted = v / 256 % 2; phase = q; count = count } })
    seen q number most e =
        rw (en, eg, em, ec ∙ number_part 4 8 b 0)
        (held_here b w v i f s (ev ∙ number_part 4 3 b 0) place fits smalls q number most (sym tests ∙ e))
