-- The header of a dump is told by its first bytes.
--
--   begins_near, begins_at == what a text begins with is told by as many bytes; and each of them
--   undump_head_near     == the bytes that the program reads tell the header of the whole input
--   undump_head_size_lem == and are those of the header, where it is accepted
--   undump_head_good     == a header that is accepted has a good n
use Rattle.std.specs.Prelude.{Err, Ok}
use Prim.Native.Nat.{ℕ, zero, suc, ◌+◌, ◌-◌, ◌*◌, ◌≤◌, ◌<◌}
use mathlib.Core.Path.{◌≡◌, refl, sym, ◌∙◌, ap}
use mathlib.Core.Bool.{Bool, true, false, not, ◌&&◌, cond, true≢false}
use mathlib.Core.Logic.{◌⊎◌, inl, inr}
use mathlib.Core.List.{List, [], ◌∷◌}
use native.Mathlib.Omega.{arith}
use borrow.Author.Tests.{eqb-true, ne_eqb}
use lib.Dec.{eqb}
use lib.ListN.{length, get_or, take, drop}
use lib.Seq.{get_or-take, get_or-drop}
use Rattle.rules.proofs.Parts.{ok_parts}
use Rattle.rules.specs.declared.Refusal.TheVariants as refusal
use Rattle.rules.specs.State.{masters_ok}
use Rattle.rules.proofs.Choice.{either, and_left, and_right}
use Rattle.formats.specs.Results.{HeaderRead}
use Rattle.formats.specs.Digits.{lf, decimal_before}
use Rattle.formats.specs.Texts.{bytes}
use Rattle.formats.specs.Headers.{is_decimal, ranged}
use Rattle.waves.specs.Header.{opening, declared, all_declared, closing, begins, masters_in, read_dump_header_of}
use Rattle.conversions.specs.Heads.{undump_head_size}

begins_near : (p k : ℕ) (s t : List ℕ) → p + length t ≤ k → begins (drop p (take k s)) t ≡ begins (drop p s) t
unfolding begins
begins_near p k s [] h = refl
begins_near (suc p) zero s (b ∷ t) h = absurd (omega arith)
begins_near (suc p) (suc k) [] (b ∷ t) h = refl
begins_near (suc p) (suc k) (a ∷ s) (b ∷ t) h = begins_near p k s (b ∷ t) (omega arith)
begins_near zero zero s (b ∷ t) h = absurd (omega arith)
begins_near zero (suc k) [] (b ∷ t) h = refl
begins_near zero (suc k) (a ∷ s) (b ∷ t) h = ap (λ (x : Bool). eqb a b && x) (begins_near zero k s t (omega arith))

begins_at : (s t : List ℕ) (i : ℕ) → begins s t ≡ true → i < length t → get_or s i 0 ≡ get_or t i 0
unfolding begins
begins_at s [] i e h = absurd (omega arith)
begins_at [] (b ∷ t) i e h = absurd (true≢false (sym e))
begins_at (a ∷ s) (b ∷ t) zero e h = eqb-true a b (and_left (eqb a b) (begins s t) e)
begins_at (a ∷ s) (b ∷ t) (suc i) e h = begins_at s t i (and_right (eqb a b) (begins s t) e) (omega arith)

-- what stands after n: its size, and its last two bytes, 'd' and LF
closing_size : length closing ≡ 379
unfolding bytes closing declared all_declared decimal_before
closing_size = refl

opening_size : length opening ≡ 17
unfolding bytes opening
opening_size = refl

closing_last : get_or closing 378 0 ≡ lf
unfolding bytes closing declared all_declared decimal_before
closing_last = refl

closing_before : get_or closing 377 0 ≡ 100
unfolding bytes closing declared all_declared decimal_before
closing_before = refl

-- a byte of what stands behind the first digit, or behind the second
closing_at : (u : List ℕ) (p i : ℕ) → begins (drop p u) closing ≡ true → i < 379 → get_or u (p + i) 0 ≡ get_or closing i 0
closing_at u p i e h = sym (get_or-drop p u i 0) ∙ begins_at (drop p u) closing i e (omega (arith, closing_size))

-- no header with n in two digits has LF where one with n in one digit ends
not_two : (u : List ℕ) → get_or u 396 0 ≡ lf → begins (drop 19 u) closing ≡ false
not_two u e =
    either (begins (drop 19 u) closing)
    (λ f. absurd (omega (arith, e, closing_at u 19 377 f (omega arith), closing_before)))
    (λ f. f)

-- what the bytes of n and the tests of what follows come to
abbrev counted : ℕ → ℕ → Bool → Bool → HeaderRead
counted a b one two =
    cond (is_decimal a && one) (ranged (a - 48) (17 + 1 + length closing))
    (cond (is_decimal a && not (eqb a 48) && is_decimal b && two)
    (ranged ((a - 48) * 10 + (b - 48)) (17 + 2 + length closing))
    (Err refusal.Dump))

read_is : (u : List ℕ)
    → read_dump_header_of u
    ≡ cond (begins u opening) (counted (get_or u 17 0) (get_or u 18 0) (begins (drop 18 u) closing) (begins (drop 19 u) closing)) (Err refusal.Dump)
unfolding read_dump_header_of masters_in
read_is u = rw opening_size

module _ (s : List ℕ) where
  size_lf : get_or s 396 0 ≡ lf → undump_head_size s ≡ 397
  unfolding undump_head_size
  size_lf e = rw e

  size_more : eqb (get_or s 396 0) lf ≡ false → undump_head_size s ≡ 398
  unfolding undump_head_size
  size_more e = rw e

  taken : (k : ℕ) → 397 ≤ k → begins (drop 19 (take k s)) closing ≡ begins (drop 19 s) closing → read_dump_header_of (take k s) ≡ read_dump_header_of s
  taken k h e =
      rw (
        read_is (take k s),
        read_is s,
        begins_near 0 k s opening (omega (arith, opening_size)),
        get_or-take k s 17 0 (omega arith),
        get_or-take k s 18 0 (omega arith),
        begins_near 18 k s closing (omega (arith, closing_size)),
        e,
      )

  pub undump_head_near : read_dump_header_of (take (undump_head_size s) s) ≡ read_dump_header_of s
  undump_head_near =
      either (eqb (get_or s 396 0) lf)
      (λ e.
      let l = eqb-true (get_or s 396 0) lf e in
      rw (size_lf l) (taken 397 (omega arith) (not_two (take 397 s) (get_or-take 397 s 396 0 (omega arith) ∙ l) ∙ sym (not_two s l))))
      (λ e. rw (size_more e) (taken 398 (omega arith) (begins_near 19 398 s closing (omega (arith, closing_size)))))

-- what is accepted is in range, and ends where its digits say
ranged_good : (n k m next : ℕ) → ranged n k ≡ Ok (m, next) → (masters_ok m ≡ true) × (next ≡ k)
ranged_good n k m next e =
    either (masters_ok n)
    (λ q. let f = ok_parts (rw q at e) in (rw f.0 at q, sym f.1))
    (λ q. let f = rw q at e in let z : ◌≡◌ {A = ℕ} 0 1 = cc in absurd (omega arith))

counted_good : (a b : ℕ) (one two : Bool) (n next : ℕ) → counted a b one two ≡ Ok (n, next)
    → (masters_ok n ≡ true) × (((one ≡ true) × (next ≡ 397)) ⊎ ((two ≡ true) × (next ≡ 398)))
counted_good a b one two n next e = go (is_decimal a) one (not (eqb a 48)) (is_decimal b) two e
  where
    go : (x one y z two : Bool)
        → cond (x && one) (ranged (a - 48) (17 + 1 + length closing)) (cond (x && y && z && two) (ranged ((a - 48) * 10 + (b - 48)) (17 + 2 + length closing)) (Err refusal.Dump)) ≡ Ok (n, next)
        → (masters_ok n ≡ true) × (((one ≡ true) × (next ≡ 397)) ⊎ ((two ≡ true) × (next ≡ 398)))
    go true true y z two f =
        let g = ranged_good (a - 48) (17 + 1 + length closing) n next f in
        (g.0, inl (refl, omega (arith, g.1, closing_size)))
    go true false true true true f =
        let g = ranged_good ((a - 48) * 10 + (b - 48)) (17 + 2 + length closing) n next f in
        (g.0, inr (refl, omega (arith, g.1, closing_size)))
    go true false true true false f = let z : ◌≡◌ {A = ℕ} 0 1 = cc in absurd (omega arith)
    go true false true false two f = let z : ◌≡◌ {A = ℕ} 0 1 = cc in absurd (omega arith)
    go true false false z two f = let z : ◌≡◌ {A = ℕ} 0 1 = cc in absurd (omega arith)
    go false one y z two f = let z : ◌≡◌ {A = ℕ} 0 1 = cc in absurd (omega arith)

module _ (s : List ℕ) (n next : ℕ) (e : read_dump_header_of s ≡ Ok (n, next)) where
  accepted : (masters_ok n ≡ true) × (((begins (drop 18 s) closing ≡ true) × (next ≡ 397)) ⊎ ((begins (drop 19 s) closing ≡ true) × (next ≡ 398)))
  accepted =
      either (begins s opening)
      (λ q. counted_good (get_or s 17 0) (get_or s 18 0) (begins (drop 18 s) closing) (begins (drop 19 s) closing) n next (rw q at (sym (read_is s) ∙ e)))
      (λ q. let f = rw q at (sym (read_is s) ∙ e) in let z : ◌≡◌ {A = ℕ} 0 1 = cc in absurd (omega arith))

  pub undump_head_good : masters_ok n ≡ true
  undump_head_good = accepted.0

  pub undump_head_size_lem : next ≡ undump_head_size s
  undump_head_size_lem = go accepted.1
    where
      go : ((begins (drop 18 s) closing ≡ true) × (next ≡ 397)) ⊎ ((begins (drop 19 s) closing ≡ true) × (next ≡ 398)) → next ≡ undump_head_size s
      go (inl h) = h.1 ∙ sym (size_lf s (closing_at s 18 378 h.0 (omega arith) ∙ closing_last))
      go (inr h) =
          h.1 ∙ sym (size_more s (ne_eqb (get_or s 396 0) lf (λ f. omega (arith, f, closing_at s 19 377 h.0 (omega arith), closing_before))))
