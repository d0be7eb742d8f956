-- A reader looks at nothing before its position: behind other bytes it finds the same, that many bytes later.
--
--   later k l      == what was found, with the next position k bytes later
--   place_behind   == what there is at a position
--   reading_behind == the law, over any format of lines
--   stimulus_behind, trace_behind == the same of the two readers, at the front of what stands behind
use Rattle.std.specs.Prelude.{Err, Ok}
use Prim.Native.Nat.{ℕ, zero, suc, ◌+◌, ◌-◌}
use mathlib.Core.Path.{◌≡◌, refl, sym, ◌∙◌, ap}
use mathlib.Core.Bool.{Bool, true, false, cond}
use mathlib.Core.List.{List, [], ◌∷◌, ◌++◌}
use native.Mathlib.Nat.{add_assoc, add-zero}
use native.Mathlib.Omega.{arith}
use borrow.Author.Tests.{lt-ltb, le-ltb, eq-eqb, ne_eqb, eqb-true, eqb-false}
use lib.Dec.{eqb, ltb}
use lib.ListN.{length, length-append}
use lib.Seq.{get_or-append-add}
use Rattle.rules.specs.declared.Refusal.TheVariants as refusal
use Rattle.rules.specs.Results.{Check}
use Rattle.rules.specs.State.{masters_ok}
use Rattle.rules.proofs.Choice.{either, order}
use Rattle.formats.specs.Digits.{number_at}
use Rattle.formats.specs.Fields.{Field, parted, values}
use Rattle.formats.specs.Lines.{Place, beyond, at_end, cut, whole, place, read_stimulus_of, read_trace_of}
use Rattle.formats.specs.Files.{Line, one, no_more, refused, as_stimulus, as_trace}
use Rattle.formats.proofs.Reading.{Format, found, size, reading}
use Rattle.formats.proofs.Lines.{stimulus, trace, stimulus_reading, trace_reading}

abbrev pub later : {A : Type 0} → ℕ → Line A → Line A
later k (one a next) = one a (k + next)
later k no_more = no_more
later k (refused r) = refused r

ltb_later : (k a b : ℕ) → ltb (k + a) (k + b) ≡ ltb a b
ltb_later k a b =
    order b a
    (λ h. le-ltb (k + a) (k + b) (omega arith) ∙ sym (le-ltb a b h))
    (λ h. lt-ltb (k + a) (k + b) (omega arith) ∙ sym (lt-ltb a b h))

eqb_later : (k a b : ℕ) → eqb (k + a) (k + b) ≡ eqb a b
eqb_later k a b =
    either (eqb a b)
    (λ e. eq-eqb (k + a) (k + b) (rw (eqb-true a b e)) ∙ sym e)
    (λ e. ne_eqb (k + a) (k + b) (λ h. eqb-false a b e (omega arith)) ∙ sym e)

module _ (pre s : List ℕ) where
  number_behind : (w p : ℕ) → number_at w (pre ++ s) (length pre + p) ≡ number_at w s p
  number_behind zero p = refl
  number_behind (suc w) p =
      rw (number_behind w p, add_assoc (length pre) p w, get_or-append-add pre s (p + w) 0)

  parted_behind : (fs : List Field) (p : ℕ) → parted fs (pre ++ s) (length pre + p) ≡ parted fs s p
  parted_behind [] p = refl
  parted_behind (f ∷ fs) p =
      rw (
        add_assoc (length pre) p f.digits,
        get_or-append-add pre s (p + f.digits) 0,
        add_assoc (length pre) p (f.digits + 1),
        parted_behind fs (p + (f.digits + 1)),
      )

  values_behind : (fs : List Field) (p : ℕ) → values fs (pre ++ s) (length pre + p) ≡ values fs s p
  values_behind [] p = refl
  values_behind (f ∷ fs) p =
      rw (
        number_behind f.digits p,
        add_assoc (length pre) p (f.digits + 1),
        values_behind fs (p + (f.digits + 1)),
      )

  pub place_behind : (fs : List Field) (p : ℕ) → place fs (pre ++ s) (length pre + p) ≡ place fs s p
  unfolding place
  place_behind fs p =
      let left : (length pre + length s) - (length pre + p) ≡ length s - p = omega arith in
      rw (
        length-append pre s,
        ltb_later (length pre) (length s) p,
        eqb_later (length pre) p (length s),
        left,
        parted_behind fs p,
      )

  module _ {A : Type 0} (F : Format A) (n : ℕ) where
    found_later : (k next : ℕ) (ok : Bool) (q : Place) (c : Check) (a : A)
        → cond ok (found q c a (k + next)) (refused refusal.Masters) ≡ later k (cond ok (found q c a next) (refused refusal.Masters))
    found_later k next false q c a = refl
    found_later k next true beyond c a = refl
    found_later k next true at_end c a = refl
    found_later k next true cut c a = refl
    found_later k next true whole (Ok _) a = refl
    found_later k next true whole (Err r) a = refl

    pub reading_behind : (p : ℕ) → reading F n (pre ++ s) (length pre + p) ≡ later (length pre) (reading F n s p)
    unfolding reading
    reading_behind p =
        let here : F.at (pre ++ s) (length pre + p) ≡ F.at s p =
        F.same _ _ (F.stands (pre ++ s) (length pre + p) ∙ values_behind F.fields p ∙ sym (F.stands s p)) in
        rw (place_behind F.fields p, here, add_assoc (length pre) p (size F))
        (found_later (length pre) (p + size F) (masters_ok n) (place F.fields s p) (F.check n (F.at s p)) (F.at s p))

    reading_front : reading F n (pre ++ s) (length pre) ≡ later (length pre) (reading F n s 0)
    reading_front = rw add-zero at (reading_behind 0)

  pub stimulus_behind : (n : ℕ) → as_stimulus (read_stimulus_of n (pre ++ s) (length pre)) ≡ later (length pre) (as_stimulus (read_stimulus_of n s 0))
  stimulus_behind n =
      stimulus_reading n (pre ++ s) (length pre) ∙ reading_front stimulus n ∙ ap (later (length pre)) (sym (stimulus_reading n s 0))

  pub trace_behind : (n : ℕ) → as_trace (read_trace_of n (pre ++ s) (length pre)) ≡ later (length pre) (as_trace (read_trace_of n s 0))
  trace_behind n =
      trace_reading n (pre ++ s) (length pre) ∙ reading_front trace n ∙ ap (later (length pre)) (sym (trace_reading n s 0))
