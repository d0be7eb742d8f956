-- The twelve bytes and the well-formed states correspond one to one.
--
--   left_small      == k of a well-formed state is a byte
--   state_bytes_lem == a well-formed state has twelve bytes
--   state_again     == they write that state, whatever follows them
--   bytes_again     == bytes that write a state are its bytes
--   first_state     == the first twelve bytes say what state it is
use Rattle.std.specs.Prelude.{Some}
use Prim.Native.Nat.{ℕ, zero, suc, ◌≤◌, ◌<◌}
use mathlib.Core.Path.{◌≡◌, refl, sym, ◌∙◌}
use mathlib.Core.Bool.{Bool, true, false, ◌||◌}
use mathlib.Core.List.{List, ◌++◌}
use native.Mathlib.Omega.{arith}
use borrow.Author.Tests.{leb-true, le-leb, eqb-true}
use lib.Dec.{eqb, leb}
use lib.ListN.{length, get_or, take}
use Rattle.rules.specs.declared.Phase.{Phase}
use Rattle.rules.specs.declared.Phase.TheVariants.{Fresh, Fixed, Open, Done}
use Rattle.rules.specs.declared.State.{State}
use Rattle.rules.specs.State.{phase_ok, WellFormed}
use Rattle.rules.specs.Step.{flag_of}
use Rattle.rules.proofs.Choice.{and_left, and_right}
use Rattle.rules.proofs.Flags.{flag_most, flag_again}
use Rattle.words.specs.Words.{low_first}
use Rattle.words.proofs.Words.{Bytes, one_more, slots, slots_take, in_first, number_bytes, bytes_of_number}
use Rattle.hosting.specs.Bytes.{state_size, phase_byte, left_byte, state_bytes, phase_of, is_state, state_in, bytes_state}

flag_byte : (f : ℕ) → leb f 1 ≡ true → flag_of (eqb f 1) ≡ f
flag_byte zero e = refl
flag_byte (suc zero) e = refl
flag_byte (suc (suc f)) e = absurd (omega (arith, leb-true (suc (suc f)) 1 e))

flag_small : (f : Bool) → leb (flag_of f) 1 ≡ true
flag_small f = le-leb (flag_of f) 1 (flag_most f)

phase_again : (p : Phase) → phase_of (phase_byte p) (left_byte p) ≡ p
unfolding phase_of
phase_again Fresh = refl
phase_again (Fixed k) = refl
phase_again Open = refl
phase_again Done = refl

phase_shape : (p : Phase) → (leb (phase_byte p) 3 ≡ true) × ((eqb (phase_byte p) 1 || eqb (left_byte p) 0) ≡ true)
phase_shape Fresh = (refl, refl)
phase_shape (Fixed k) = (refl, refl)
phase_shape Open = (refl, refl)
phase_shape Done = (refl, refl)

phase_bytes : (p k : ℕ) → leb p 3 ≡ true → (eqb p 1 || eqb k 0) ≡ true → (phase_byte (phase_of p k) ≡ p) × (left_byte (phase_of p k) ≡ k)
unfolding phase_of
phase_bytes zero k e f = (refl, sym (eqb-true k 0 f))
phase_bytes (suc zero) k e f = (refl, refl)
phase_bytes (suc (suc zero)) k e f = (refl, sym (eqb-true k 0 f))
phase_bytes (suc (suc (suc zero))) k e f = (refl, sym (eqb-true k 0 f))
phase_bytes (suc (suc (suc (suc p)))) k e f = absurd (omega (arith, leb-true (suc (suc (suc (suc p)))) 3 e))

phase_left_small : (p : Phase) (granted lock : Bool) → phase_ok p granted lock ≡ true → left_byte p < 256
unfolding phase_ok
phase_left_small Fresh granted lock e = omega arith
phase_left_small (Fixed k) granted lock e =
    let f : leb k 3 ≡ true = search (and_left, and_right) depth 9 in
    omega (arith, leb-true k 3 f)
phase_left_small Open granted lock e = omega arith
phase_left_small Done granted lock e = omega arith

pub left_small : (s : State) → WellFormed s → left_byte s.phase < 256
left_small s w = phase_left_small s.phase s.granted s.hmastlock w.phase

phase_below : (p : Phase) → phase_byte p < 256
phase_below Fresh = omega arith
phase_below (Fixed k) = omega arith
phase_below Open = omega arith
phase_below Done = omega arith

pub state_bytes_lem : (s : State) → WellFormed s → (length (state_bytes s) ≡ state_size) × Bytes (state_bytes s)
unfolding state_bytes
state_bytes_lem s w =
    let n : s.n < 256 = omega (arith, w.many) in
    let g : s.g < 256 = omega (arith, w.grant) in
    let m : s.m < 256 = omega (arith, w.owner) in
    let spare : 0 < 256 = omega arith in
    let lock : flag_of s.hmastlock < 256 = omega (arith, flag_most s.hmastlock) in
    let granted : flag_of s.granted < 256 = omega (arith, flag_most s.granted) in
    let rest = one_more (phase_below s.phase) (one_more (left_small s w) (one_more spare (number_bytes 4 s.count))) in
    (refl, one_more n (one_more g (one_more m (one_more lock (one_more granted rest)))))

pub state_again : (s : State) (rest : List ℕ) → WellFormed s → bytes_state (state_bytes s ++ rest) ≡ Some s
unfolding bytes_state state_bytes is_state state_in
state_again s rest w =
    let count : (state_in (state_bytes s ++ rest)).count ≡ s.count = omega (arith, w.room) in
    let p = phase_shape s.phase in
    simp (flag_small s.hmastlock, flag_small s.granted, p.0, p.1, flag_again s.hmastlock, flag_again s.granted, phase_again s.phase, count)

-- the parts of the test
record Shape (b : List ℕ) : Type 0 where
  lock : leb (get_or b 3 0) 1 ≡ true
  granted : leb (get_or b 4 0) 1 ≡ true
  phase : leb (get_or b 5 0) 3 ≡ true
  left : (eqb (get_or b 5 0) 1 || eqb (get_or b 6 0) 0) ≡ true
  spare : eqb (get_or b 7 0) 0 ≡ true

shape_of : (b : List ℕ) → is_state b ≡ true → Shape b
unfolding is_state
shape_of b e = search (and_left, and_right) depth 9

shaped_bytes : (b : List ℕ) → Bytes b → is_state b ≡ true → state_bytes (state_in b) ≡ slots b 0 12
unfolding state_bytes state_in
shaped_bytes b w e =
    let t = shape_of b e in
    let p = phase_bytes (get_or b 5 0) (get_or b 6 0) t.phase t.left in
    let count : low_first 4 (state_in b).count ≡ slots b 8 4 = bytes_of_number 4 b 8 w in
    rw (
      flag_byte (get_or b 3 0) t.lock,
      flag_byte (get_or b 4 0) t.granted,
      p.0,
      p.1,
      count,
      eqb-true (get_or b 7 0) 0 t.spare,
    )

pub bytes_again : (b : List ℕ) (s : State) → state_size ≤ length b → Bytes b → bytes_state b ≡ Some s → state_bytes s ≡ take state_size b
unfolding bytes_state
bytes_again b s h w e = go (is_state b) refl
  where
    go : (t : Bool) → is_state b ≡ t → state_bytes s ≡ take state_size b
    go true q =
        let f = rw q at e in
        let i : s ≡ state_in b = cc in
        rw i (shaped_bytes b w q ∙ sym (slots_take b 12 0 h))
    go false q = let f = rw q at e in let z : ◌≡◌ {A = ℕ} 0 1 = cc in absurd (omega arith)

-- what lies behind the first bytes is not read
pub first_state : (b : List ℕ) → bytes_state (take state_size b) ≡ bytes_state b
unfolding bytes_state is_state state_in
first_state b = simp (in_first 12 b)
