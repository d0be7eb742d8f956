-- Headers: what is written reads back, and what is read writes back.
--
--   starts_append == an input that begins with the bytes t starts with t
--   starts_take   == an input that starts with t, which has no byte 0, begins with its bytes
--   header_reads  == a written header reads back, whatever comes after it
--   header_writes == a header that was read writes back as the bytes that stood there
use Rattle.rules.proofs.Parts.{ok_parts}
use Rattle.std.specs.Prelude.{Err, Ok}
use Prim.Native.Nat.{ℕ, zero, suc, ◌+◌, ◌-◌, ◌*◌, ◌/◌, ◌%◌, ◌≤◌, ◌<◌}
use mathlib.Core.Path.{◌≡◌, refl, sym, ◌∙◌, ap, ap₂}
use mathlib.Core.Bool.{Bool, true, false, false≢true}
use mathlib.Core.List.{List, [], ◌∷◌, ◌++◌, append_assoc}
use native.Mathlib.Nat.{add-zero}
use native.Mathlib.Omega.{arith}
use borrow.Author.Tests.{eqb-true, eqb-false, eq-eqb, ne_eqb, not-true}
use lib.Dec.{eqb}
use lib.ListN.{length, get_or, take, length-append, get_or-append}
use lib.Seq.{take-suc, take-add, take-length, length-take-le, get_or-append_seam, get_or-append-add}
use Rattle.rules.specs.State.{masters_ok}
use Rattle.rules.proofs.Choice.{cond_elim, order, and_left, and_right, and_both}
use Rattle.formats.specs.declared.Word.{Word}
use Rattle.formats.specs.declared.Word.TheVariants.{Stim, Trace}
use Rattle.formats.specs.Results.{HeaderRead}
use Rattle.formats.specs.Digits.{lf, decimal}
use Rattle.formats.specs.Headers.{prefix, header, same_to, starts_with, one_digit, two_digits, ranged, number_in, read_header_of}
use Rattle.formats.specs.Promises.{Each, InRange}
use Rattle.formats.proofs.Bytes.{each_at, present, bytes_at, take_bytes}
use Rattle.formats.proofs.Decimal.{Digit, digit_is, digit_bounds, one_digit_lem, two_digits_lem}
use Rattle.formats.proofs.Limits.{range_ok, ok_range}

same_append : (k : ℕ) (t r : List ℕ) → k ≤ length t → same_to k (t ++ r) t ≡ true
same_append zero t r h = refl
same_append (suc k) t r h =
    and_both (same_append k t r (omega arith)) (eq-eqb _ _ (get_or-append t r 0 k h))

pub starts_append : (t r : List ℕ) → starts_with (t ++ r) t ≡ true
starts_append t r = same_append (length t) t r (omega arith)

same_take : (k : ℕ) (s t : List ℕ) → Each (λ b. 0 < b) t → k ≤ length t → same_to k s t ≡ true → take k s ≡ take k t
same_take zero s t solid h e = refl
same_take (suc k) s t solid h e =
    let r = same_take k s t solid (omega arith) (and_left (same_to k s t) (eqb (get_or s k 0) (get_or t k 0)) e) in
    let q : get_or s k 0 ≡ get_or t k 0 = eqb-true _ _ (and_right (same_to k s t) (eqb (get_or s k 0) (get_or t k 0)) e) in
    let some : 0 < get_or s k 0 = rw q (each_at (λ b. 0 < b) t k 0 solid h) in
    let inside : k < length s = present s k some in
    rw (take-suc s k 0 inside, take-suc t k 0 h, r, q)

pub starts_take : (s t : List ℕ) → Each (λ b. 0 < b) t → starts_with s t ≡ true → take (length t) s ≡ t
starts_take s t solid e = same_take (length t) s t solid (omega arith) e ∙ take-length t

prefix_solid : (w : Word) → Each (λ b. 0 < b) (prefix w)
prefix_solid Stim = omega arith
prefix_solid Trace = omega arith

ranged_ok : (m n next : ℕ) → m ≡ n → masters_ok n ≡ true → ranged m next ≡ Ok (n, next)
ranged_ok m n next e ok = rw (e, ok)

-- a header with the digits ds is read where its number is
reads_digits : (w : Word) (n : ℕ) (ds rest : List ℕ) → decimal n ≡ ds
    → number_in (prefix w ++ (ds ++ (lf ∷ rest))) (length (prefix w)) ≡ Ok (n, length (prefix w) + length (ds ++ (lf ∷ [])))
    → read_header_of w (header w n ++ rest) ≡ Ok (n, length (header w n))
unfolding read_header_of header
reads_digits w n ds rest d e =
    rw (
      d,
      append_assoc (prefix w) (ds ++ (lf ∷ [])) rest,
      append_assoc ds (lf ∷ []) rest,
      starts_append (prefix w) (ds ++ (lf ∷ rest)),
      length-append (prefix w) (ds ++ (lf ∷ [])),
    ) e

in_one : (t rest : List ℕ) (n : ℕ) → n < 10 → masters_ok n ≡ true
    → number_in (t ++ ((48 + n) ∷ (lf ∷ rest))) (length t) ≡ Ok (n, length t + 2)
unfolding number_in
in_one t rest n h ok =
    rw (get_or-append_seam t (48 + n) (lf ∷ rest) 0, get_or-append-add t ((48 + n) ∷ (lf ∷ rest)) 1 0, digit_is n h)
    (ranged_ok (48 + n - 48) n (length t + 2) (omega arith) ok)

in_two : (t rest : List ℕ) (n : ℕ) → 10 ≤ n → n < 100 → masters_ok n ≡ true
    → number_in (t ++ ((48 + n / 10) ∷ ((48 + n % 10) ∷ (lf ∷ rest)))) (length t) ≡ Ok (n, length t + 3)
unfolding number_in
in_two t rest n h k ok =
    let high : ℕ = 48 + n / 10 in
    let low : ℕ = 48 + n % 10 in
    let s : List ℕ = high ∷ (low ∷ (lf ∷ rest)) in
    rw (
      get_or-append_seam t high (low ∷ (lf ∷ rest)) 0,
      get_or-append-add t s 1 0,
      get_or-append-add t s 2 0,
      digit_is (n / 10) (omega arith),
      ne_eqb low lf (λ e. omega arith),
      ne_eqb high 48 (λ e. omega arith),
      digit_is (n % 10) (omega arith),
    )
    (ranged_ok ((high - 48) * 10 + (low - 48)) n (length t + 3) (omega arith) ok)

pub header_reads : (w : Word) (n : ℕ) (rest : List ℕ) → InRange n
    → read_header_of w (header w n ++ rest) ≡ Ok (n, length (header w n))
header_reads w n rest range =
    order 10 n
    (λ two.
    let k : n < 100 = omega (arith, range.many) in
    reads_digits w n _ rest (two_digits_lem n two k) (in_two (prefix w) rest n two k (range_ok n range)))
    (λ one. reads_digits w n _ rest (one_digit_lem n one) (in_one (prefix w) rest n one (range_ok n range)))

pub record HeaderWrote (w : Word) (s : List ℕ) (n next : ℕ) : Type 0 where
  pub range : InRange n
  pub past : next ≡ length (header w n)
  pub bytes : header w n ≡ take next s

-- what the two shapes say of the bytes from p on
record One (s : List ℕ) (p : ℕ) : Type 0 where
  digit : Digit (get_or s p 0)
  ends : get_or s (p + 1) 0 ≡ lf

one_is : (s : List ℕ) (p : ℕ) → one_digit s p ≡ true → One s p
one_is s p e = search (and_left, and_right, eqb-true) depth 9

record Two (s : List ℕ) (p : ℕ) : Type 0 where
  high : Digit (get_or s p 0)
  lead : get_or s p 0 ≡ 48 → ⊥
  low : Digit (get_or s (p + 1) 0)
  ends : get_or s (p + 2) 0 ≡ lf

two_is : (s : List ℕ) (p : ℕ) → two_digits s p ≡ true → Two s p
two_is s p e = search (and_left, and_right, eqb-true, eqb-false, not-true) depth 9

abbrev is_header : HeaderRead → Bool
is_header (Ok (n, next)) = true
is_header (Err r) = false

ranged_is : (m q n next : ℕ) → ranged m q ≡ Ok (n, next) → InRange m × (m ≡ n) × (q ≡ next)
ranged_is m q n next =
    cond_elim (λ r. r ≡ Ok (n, next) → InRange m × (m ≡ n) × (q ≡ next)) (masters_ok m)
    (λ ok e. (ok_range m ok, (ok_parts e).0, (ok_parts e).1))
    (λ ok e. absurd (false≢true (ap is_header e)))

-- the k bytes after the word are the digits of n and LF
wrote : (w : Word) (s : List ℕ) (k n : ℕ) → starts_with s (prefix w) ≡ true → InRange n → length (prefix w) + k ≤ length s
    → decimal n ++ (lf ∷ []) ≡ bytes_at k s (length (prefix w)) → HeaderWrote w s n (length (prefix w) + k)
unfolding header
wrote w s k n starts range inside e =
    let p : ℕ = length (prefix w) in
    let b : header w n ≡ take (p + k) s =
    rw (take-add p k s, starts_take s (prefix w) (prefix_solid w) starts, e, take_bytes k s p inside) in
    record { range = range; past = sym (length-take-le (p + k) s inside) ∙ ap length (sym b); bytes = b }

module _ (w : Word) (s : List ℕ) (n next : ℕ) (starts : starts_with s (prefix w) ≡ true) where
  abbrev p : ℕ
  p = length (prefix w)

  wrote_one : One s p → ranged (get_or s p 0 - 48) (p + 2) ≡ Ok (n, next) → HeaderWrote w s n next
  wrote_one o e =
      let a : ℕ = get_or s p 0 in
      let r = ranged_is (a - 48) (p + 2) n next e in
      let k = digit_bounds a o.digit in
      let last : p + 1 < length s = present s (p + 1) (omega (arith, o.ends)) in
      let d : decimal (a - 48) ≡ a ∷ [] = one_digit_lem (a - 48) (omega arith) ∙ ap (λ x. x ∷ []) (omega arith) in
      let bytes : decimal (a - 48) ++ (lf ∷ []) ≡ bytes_at 2 s p = rw (d, add-zero p, o.ends) in
      rw (← r.1, ← r.2) (wrote w s 2 (a - 48) starts r.0 (omega arith) bytes)

  wrote_two : Two s p → ranged ((get_or s p 0 - 48) * 10 + (get_or s (p + 1) 0 - 48)) (p + 3) ≡ Ok (n, next) → HeaderWrote w s n next
  wrote_two o e =
      let a : ℕ = get_or s p 0 in
      let b : ℕ = get_or s (p + 1) 0 in
      let m : ℕ = (a - 48) * 10 + (b - 48) in
      let r = ranged_is m (p + 3) n next e in
      let k = digit_bounds a o.high in
      let l = digit_bounds b o.low in
      let lead : a ≡ 48 → ⊥ = o.lead in
      let last : p + 2 < length s = present s (p + 2) (omega (arith, o.ends)) in
      let high : 48 + m / 10 ≡ a = omega arith in
      let low : 48 + m % 10 ≡ b = omega arith in
      let d : decimal m ≡ a ∷ (b ∷ []) = two_digits_lem m (omega arith) (omega arith) ∙ ap₂ (λ x y. x ∷ (y ∷ [])) high low in
      let bytes : decimal m ++ (lf ∷ []) ≡ bytes_at 3 s p = rw (d, add-zero p, o.ends) in
      rw (← r.1, ← r.2) (wrote w s 3 m starts r.0 (omega arith) bytes)

pub header_writes : (w : Word) (s : List ℕ) (n next : ℕ) → read_header_of w s ≡ Ok (n, next) → HeaderWrote w s n next
unfolding read_header_of number_in
header_writes w s n next =
    cond_elim Written (starts_with s (prefix w))
    (λ starts.
    cond_elim Written (one_digit s (length (prefix w)))
    (λ one. wrote_one w s n next starts (one_is s _ one))
    (λ more.
    cond_elim Written (two_digits s (length (prefix w)))
    (λ two. wrote_two w s n next starts (two_is s _ two))
    (λ other e. absurd (false≢true (ap is_header e)))))
    (λ other e. absurd (false≢true (ap is_header e)))
  where
    Written : HeaderRead → Type 0
    Written r = r ≡ Ok (n, next) → HeaderWrote w s n next
