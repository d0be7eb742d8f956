-- A header is told by its first bytes.
--
--   head_near     == the bytes that a program reads tell the header of the whole input
--   head_size_lem == and are those of the header, where it is accepted
use Rattle.std.specs.Prelude.{Err, Ok}
use Prim.Native.Nat.{ℕ, zero, suc, ◌+◌, ◌-◌, ◌*◌, ◌≤◌}
use mathlib.Core.Path.{◌≡◌, refl, sym}
use mathlib.Core.Bool.{Bool, true, false, not, ◌&&◌, cond}
use mathlib.Core.List.{List}
use native.Mathlib.Omega.{arith}
use borrow.Author.Tests.{eqb-true}
use lib.Dec.{eqb}
use lib.ListN.{length, get_or, take}
use lib.Seq.{get_or-take}
use Rattle.rules.proofs.Parts.{ok_parts}
use Rattle.rules.specs.declared.Refusal.TheVariants as refusal
use Rattle.rules.specs.State.{masters_ok}
use Rattle.rules.proofs.Choice.{either}
use Rattle.formats.specs.declared.Word.{Word}
use Rattle.formats.specs.Results.{HeaderRead}
use Rattle.formats.specs.Digits.{lf}
use Rattle.formats.specs.Headers.{prefix, same_to, starts_with, is_decimal, ranged, number_in, read_header_of}
use Rattle.streams.specs.Heads.{head_size}

-- the number of a header, by its three bytes
abbrev digits : ℕ → ℕ → ℕ → ℕ → HeaderRead
digits a b c p =
    cond (is_decimal a && eqb b lf) (ranged (a - 48) (p + 2))
    (cond (is_decimal a && not (eqb a 48) && is_decimal b && eqb c lf)
    (ranged ((a - 48) * 10 + (b - 48)) (p + 3))
    (Err refusal.Header))

same_near : (k m : ℕ) (s t : List ℕ) → k ≤ m → same_to k (take m s) t ≡ same_to k s t
same_near zero m s t h = refl
same_near (suc k) m s t h = rw (same_near k m s t (omega arith), get_or-take m s k 0 (omega arith))

-- after LF the third byte does not matter
after_lf : (a c d p : ℕ) → digits a lf c p ≡ digits a lf d p
after_lf a c d p = go (is_decimal a) (not (eqb a 48))
  where
    go : (x y : Bool) → cond (x && true) (ranged (a - 48) (p + 2)) (cond (x && y && false && eqb c lf) (ranged ((a - 48) * 10 + (lf - 48)) (p + 3)) (Err refusal.Header))
        ≡ cond (x && true) (ranged (a - 48) (p + 2)) (cond (x && y && false && eqb d lf) (ranged ((a - 48) * 10 + (lf - 48)) (p + 3)) (Err refusal.Header))
    go true true = refl
    go true false = refl
    go false y = refl

module _ (w : Word) (s : List ℕ) where
  abbrev p : ℕ
  p = length (prefix w)

  size_lf : eqb (get_or s (p + 1) 0) lf ≡ true → head_size w s ≡ p + 2
  unfolding head_size
  size_lf e = rw e

  size_more : eqb (get_or s (p + 1) 0) lf ≡ false → head_size w s ≡ p + 3
  unfolding head_size
  size_more e = rw e

  number_near : number_in (take (head_size w s) s) p ≡ number_in s p
  unfolding number_in
  number_near =
      either (eqb (get_or s (p + 1) 0) lf)
      (λ e.
      rw (size_lf e, get_or-take (p + 2) s p 0 (omega arith), get_or-take (p + 2) s (p + 1) 0 (omega arith), eqb-true (get_or s (p + 1) 0) lf e)
      (after_lf (get_or s p 0) (get_or (take (p + 2) s) (p + 2) 0) (get_or s (p + 2) 0) p))
      (λ e.
      rw (
        size_more e,
        get_or-take (p + 3) s p 0 (omega arith),
        get_or-take (p + 3) s (p + 1) 0 (omega arith),
        get_or-take (p + 3) s (p + 2) 0 (omega arith),
      ))

  large : p ≤ head_size w s
  large = either (eqb (get_or s (p + 1) 0) lf) (λ e. rw (size_lf e) (omega arith)) (λ e. rw (size_more e) (omega arith))

  pub head_near : read_header_of w (take (head_size w s) s) ≡ read_header_of w s
  unfolding read_header_of
  head_near = rw (same_near p (head_size w s) s (prefix w) large, number_near)

ranged_next : (n k m next : ℕ) → ranged n k ≡ Ok (m, next) → next ≡ k
ranged_next n k m next e =
    either (masters_ok n)
    (λ q. let f = rw q at e in sym (ok_parts f).1)
    (λ q. let f = rw q at e in let z : ◌≡◌ {A = ℕ} 0 1 = cc in absurd (omega arith))

digits_next : (a b c p n next : ℕ) → digits a b c p ≡ Ok (n, next) → next ≡ cond (eqb b lf) (p + 2) (p + 3)
digits_next a b c p n next e = go (is_decimal a) (eqb b lf) (not (eqb a 48)) (is_decimal b) (eqb c lf) e
  where
    go : (x l y z m : Bool)
        → cond (x && l) (ranged (a - 48) (p + 2)) (cond (x && y && z && m) (ranged ((a - 48) * 10 + (b - 48)) (p + 3)) (Err refusal.Header)) ≡ Ok (n, next)
        → next ≡ cond l (p + 2) (p + 3)
    go true true y z m f = ranged_next (a - 48) (p + 2) n next f
    go true false true true true f = ranged_next ((a - 48) * 10 + (b - 48)) (p + 3) n next f
    go true false true true false f = let z : ◌≡◌ {A = ℕ} 0 1 = cc in absurd (omega arith)
    go true false true false m f = let z : ◌≡◌ {A = ℕ} 0 1 = cc in absurd (omega arith)
    go true false false z m f = let z : ◌≡◌ {A = ℕ} 0 1 = cc in absurd (omega arith)
    go false l y z m f = let z : ◌≡◌ {A = ℕ} 0 1 = cc in absurd (omega arith)

pub head_size_lem : (w : Word) (s : List ℕ) (n next : ℕ) → read_header_of w s ≡ Ok (n, next) → next ≡ head_size w s
unfolding read_header_of number_in head_size
head_size_lem w s n next e =
    either (starts_with s (prefix w))
    (λ q. digits_next (get_or s (p w s) 0) (get_or s (p w s + 1) 0) (get_or s (p w s + 2) 0) (p w s) n next (rw q at e))
    (λ q. let f = rw q at e in let z : ◌≡◌ {A = ℕ} 0 1 = cc in absurd (omega arith))
