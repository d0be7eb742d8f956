-- A line that the input begins with is read exactly where its separators are in their places and it passes its check.
--
--   Parted fs s p   == each separator stands in its place, one by one; parted_true, true_parted: as the definitions say it
--   Begins F n s a   == the input begins with a line of a
--   line_reads, line_read == that line is read
use Rattle.std.proofs.Common.{◌≡◌, ℕ, ◌+◌, ◌≤◌, true, eqb, List, [], ◌∷◌, length, get_or, refl, zero-add, arith, eq-eqb, eqb-true, Err, Ok}
use Rattle.rules.specs.declared.Refusal.{Refusal}
use Rattle.rules.specs.Results.{Check}
use Rattle.rules.specs.State.{masters_ok}
use Rattle.rules.proofs.Choice.{cond_elim, and_both, and_left, and_right}
use Rattle.formats.specs.Fields.{Field, parted}
use Rattle.formats.specs.Lines.{whole}
use Rattle.formats.specs.Files.{one, no_more, refused}
use Rattle.formats.proofs.Reading.{Format, found, reading, size, place_whole, place_elim}

abbrev pub Parted : List Field → List ℕ → ℕ → Type 0
Parted [] s p = Unit
Parted (f ∷ fs) s p = (get_or s (p + f.digits) 0 ≡ f.after) × Parted fs s (p + (f.digits + 1))

parted_true : (fs : List Field) (s : List ℕ) (p : ℕ) → Parted fs s p → parted fs s p ≡ true
parted_true [] s p h = refl
parted_true (f ∷ fs) s p h = and_both (eq-eqb _ _ h.0) (parted_true fs s (p + (f.digits + 1)) h.1)

true_parted : (fs : List Field) (s : List ℕ) (p : ℕ) → parted fs s p ≡ true → Parted fs s p
true_parted [] s p e = tt
true_parted (f ∷ fs) s p e = (
  eqb-true _ _ (and_left _ (parted fs s (p + (f.digits + 1))) e),
  true_parted fs s (p + (f.digits + 1)) (and_right (eqb (get_or s (p + f.digits) 0) f.after) _ e),
)

pub record Begins {A : Type 0} (F : Format A) (n : ℕ) (s : List ℕ) (a : A) : Type 0 where
  pub apart : Parted F.fields s 0
  pub here : F.at s 0 ≡ a
  pub good : F.check n a ≡ Ok tt

module _ {A : Type 0} where
  found_one : (k : Check) (a b : A) (m next : ℕ) → found whole k a m ≡ one b next → (k ≡ Ok tt) × (a ≡ b)
  found_one (Ok _) a b m next e = (refl, cc)
  found_one (Err r) a b m next e = let z : ◌≡◌ {A = ℕ} 0 1 = cc in absurd (omega arith)

  refused_none : (r : Refusal) (a : A) (next : ℕ) → refused r ≡ one a next → ⊥
  refused_none r a next e = let z : ◌≡◌ {A = ℕ} 0 1 = cc in omega arith

  ended_none : (a : A) (next : ℕ) → no_more ≡ one a next → ⊥
  ended_none a next e = let z : ◌≡◌ {A = ℕ} 0 1 = cc in omega arith

  module _ (F : Format A) (n : ℕ) (s : List ℕ) (a : A) where
    pub line_reads : masters_ok n ≡ true → size F ≤ length s → Begins F n s a → reading F n s 0 ≡ one a (size F)
    unfolding reading
    line_reads ok room r =
        rw (
          ok,
          place_whole F.fields s 0 F.some (record { inside = omega arith; apart = parted_true F.fields s 0 r.apart }),
          r.here,
          r.good,
          zero-add (size F),
        )

    pub line_read : (next : ℕ) → reading F n s 0 ≡ one a next → Begins F n s a
    unfolding reading
    line_read next =
        cond_elim (λ l. l ≡ one a next → Begins F n s a) (masters_ok n)
        (λ ok.
        place_elim (λ q. found q (F.check n (F.at s 0)) (F.at s 0) (0 + size F) ≡ one a next → Begins F n s a) F.fields s 0
        (λ far e. absurd (refused_none _ a next e))
        (λ last e. absurd (ended_none a next e))
        (λ e. absurd (refused_none _ a next e))
        (λ w e.
        let k = found_one (F.check n (F.at s 0)) (F.at s 0) a (0 + size F) next e in
        record { apart = true_parted F.fields s 0 w.apart; here = k.1; good = rw (← k.1) k.0 }))
        (λ ok e. absurd (refused_none _ a next e))
