-- Well-formed states: the test and the facts that it stands for agree, and reset gives such a state.
--
--   masters_ok_lem == n from 2 to 16 passes the test of n
--   facts_of       == what passes the test has the facts
--   test_of        == what has the facts passes the test
--   reset_is       == a reset that is not refused gives the reset state, for n from 2 to 16
--   reset_sound    == the reset state is well formed
use Rattle.std.specs.Prelude.{Ok}
use Prim.Native.Nat.{ℕ, ◌≤◌}
use mathlib.Core.Path.{◌≡◌, refl, sym}
use mathlib.Core.Bool.{Bool, true, false, ◌||◌, false≢true}
use native.Mathlib.Omega.{arith}
use borrow.Author.Tests.{ltb-true, leb-true, eqb-true, lt-ltb, le-leb, eq-eqb}
use lib.Dec.{eqb, ltb, leb}
use Rattle.rules.specs.declared.State.{State}
use Rattle.rules.specs.State.{masters_ok, reset_state, reset_of, phase_ok, well_formed, WellFormed}
use Rattle.rules.proofs.Choice.{and_left, and_right, and_both}

pub masters_ok_lem : (n : ℕ) → 2 ≤ n → n ≤ 16 → masters_ok n ≡ true
masters_ok_lem n few many = and_both (le-leb 2 n few) (le-leb n 16 many)

-- the parts of the test, as it stands
record Parts (s : State) : Type 0 where
  few : leb 2 s.n ≡ true
  many : leb s.n 16 ≡ true
  grant : ltb s.g s.n ≡ true
  owner : ltb s.m s.n ≡ true
  together : (s.granted || eqb s.g s.m) ≡ true
  phase : phase_ok s.phase s.granted s.hmastlock ≡ true
  room : leb s.count 1000000 ≡ true

parts_of : (s : State) → well_formed s ≡ true → Parts s
unfolding well_formed
parts_of s e = search (and_left, and_right) depth 9

low_means : (granted same : Bool) → (granted || same) ≡ true → granted ≡ false → same ≡ true
low_means true same e q = absurd (false≢true (sym q))
low_means false same e q = e

means_low : (granted same : Bool) → (granted ≡ false → same ≡ true) → (granted || same) ≡ true
means_low true same f = refl
means_low false same f = f refl

pub facts_of : (s : State) → well_formed s ≡ true → WellFormed s
facts_of s e =
    let p = parts_of s e in
    record {
      few = leb-true _ _ p.few;
      many = leb-true _ _ p.many;
      grant = ltb-true _ _ p.grant;
      owner = ltb-true _ _ p.owner;
      together = λ low. eqb-true _ _ (low_means s.granted (eqb s.g s.m) p.together low);
      phase = p.phase;
      room = leb-true _ _ p.room;
    }

pub test_of : (s : State) → WellFormed s → well_formed s ≡ true
unfolding well_formed
test_of s w =
    simp (
      masters_ok_lem s.n w.few w.many,
      lt-ltb s.g s.n w.grant,
      lt-ltb s.m s.n w.owner,
      means_low s.granted (eqb s.g s.m) (λ low. eq-eqb _ _ (w.together low)),
      w.phase,
      le-leb s.count 1000000 w.room,
    )

pub record Began (n : ℕ) (s : State) : Type 0 where
  pub few : 2 ≤ n
  pub many : n ≤ 16
  pub is : s ≡ reset_state n

pub reset_is : (n : ℕ) (s : State) → reset_of n ≡ Ok s → Began n s
unfolding reset_of
reset_is n s e = go (masters_ok n) refl
  where
    go : (b : Bool) → masters_ok n ≡ b → Began n s
    go true p =
        let f = simp p at e in
        record {
          few = leb-true 2 n (and_left (leb 2 n) (leb n 16) p);
          many = leb-true n 16 (and_right (leb 2 n) (leb n 16) p);
          is = cc;
        }
    go false p = let z : ◌≡◌ {A = ℕ} 0 1 = (let f = simp p at e in cc) in absurd (omega arith)

-- n from 2 to 16 is never refused
pub reset_taken : (n : ℕ) → 2 ≤ n → n ≤ 16 → reset_of n ≡ Ok (reset_state n)
unfolding reset_of
reset_taken n few many = rw (masters_ok_lem n few many)

pub reset_sound : (n : ℕ) → 2 ≤ n → n ≤ 16 → WellFormed (reset_state n)
unfolding phase_ok
reset_sound n few many =
    record {
      few = few;
      many = many;
      grant = omega arith;
      owner = omega arith;
      together = λ low. refl;
      phase = refl;
      room = omega arith;
    }
