-- The header of a dump: what is written reads back, and what is read writes back.
--
--   header_reads  == a written header reads back, whatever comes after it
--   header_writes == a header that was read writes back as the bytes that stood there
use Rattle.std.specs.Prelude.{Err, Ok}
use Prim.Native.Nat.{ℕ, suc, ◌+◌, ◌-◌, ◌*◌, ◌/◌, ◌%◌, ◌≤◌, ◌<◌}
use mathlib.Core.Path.{◌≡◌, refl, sym, ◌∙◌, ap, ap₂}
use mathlib.Core.Bool.{Bool, true, false, false≢true}
use mathlib.Core.List.{List, [], ◌∷◌, ◌++◌, append_assoc}
use native.Mathlib.Numerals.{add-one}
use native.Mathlib.Omega.{arith}
use borrow.Author.Tests.{eqb-false, ne_eqb, not-true}
use lib.ListN.{length, get_or, take, drop, length-append}
use lib.Seq.{take_at, drop-cons, drop-append-add, get_or-append_seam, get_or-append-add}
use Rattle.rules.proofs.Parts.{ok_parts}
use Rattle.rules.specs.State.{masters_ok}
use Rattle.rules.proofs.Choice.{cond_elim, order, and_left, and_right}
use Rattle.formats.specs.Results.{HeaderRead}
use Rattle.formats.specs.Digits.{decimal}
use Rattle.formats.specs.Headers.{ranged}
use Rattle.formats.specs.Texts.{bytes}
use Rattle.formats.specs.Promises.{InRange}
use Rattle.formats.proofs.Bytes.{present}
use Rattle.formats.proofs.Decimal.{Digit, digit_is, digit_bounds, one_digit_lem, two_digits_lem}
use Rattle.formats.proofs.Limits.{range_ok, ok_range}
use Rattle.waves.specs.Variables.{space}
use Rattle.waves.specs.Header.{opening, closing, dump_header, begins, one_digit, two_digits, masters_in, read_dump_header_of}
use Rattle.waves.proofs.Begins.{begins_append, begins_split, begins_other}

-- what stands after n begins with a space
closing_head : get_or closing 0 0 ≡ space
unfolding closing bytes
closing_head = refl

closing_some : 0 < length closing
closing_some = present closing 0 (omega (arith, closing_head))

ranged_ok : (m n p next : ℕ) → m ≡ n → p ≡ next → masters_ok n ≡ true → ranged m p ≡ Ok (n, next)
ranged_ok m n p next e f ok = rw (e, f, ok)

-- a header with the digits ds is read where its number is
reads_digits : (n : ℕ) (ds rest : List ℕ) → decimal n ≡ ds
    → masters_in (opening ++ (ds ++ (closing ++ rest))) (length opening) ≡ Ok (n, length opening + length (ds ++ closing))
    → read_dump_header_of (dump_header n ++ rest) ≡ Ok (n, length (dump_header n))
unfolding read_dump_header_of dump_header
reads_digits n ds rest d e =
    rw (
      d,
      append_assoc opening (ds ++ closing) rest,
      append_assoc ds closing rest,
      begins_append opening (ds ++ (closing ++ rest)),
      length-append opening (ds ++ closing),
    ) e

in_one : (t rest : List ℕ) (n : ℕ) → n < 10 → masters_ok n ≡ true
    → masters_in (t ++ ((48 + n) ∷ (closing ++ rest))) (length t) ≡ Ok (n, length t + suc (length closing))
unfolding masters_in
in_one t rest n h ok =
    rw (
      get_or-append_seam t (48 + n) (closing ++ rest) 0,
      drop-append-add t ((48 + n) ∷ (closing ++ rest)) 1,
      digit_is n h,
      begins_append closing rest,
    )
    (ranged_ok (48 + n - 48) n (length t + 1 + length closing) (length t + suc (length closing)) (omega arith) (omega arith) ok)

in_two : (t rest : List ℕ) (n : ℕ) → 10 ≤ n → n < 100 → masters_ok n ≡ true
    → masters_in (t ++ ((48 + n / 10) ∷ ((48 + n % 10) ∷ (closing ++ rest)))) (length t) ≡ Ok (n, length t + suc (suc (length closing)))
unfolding masters_in
in_two t rest n h k ok =
    let high : ℕ = 48 + n / 10 in
    let low : ℕ = 48 + n % 10 in
    let s : List ℕ = high ∷ (low ∷ (closing ++ rest)) in
    let other : begins (low ∷ (closing ++ rest)) closing ≡ false =
    begins_other (low ∷ (closing ++ rest)) closing closing_some (λ e. omega (arith, closing_head)) in
    rw (
      get_or-append_seam t high (low ∷ (closing ++ rest)) 0,
      get_or-append-add t s 1 0,
      drop-append-add t s 1,
      drop-append-add t s 2,
      digit_is (n / 10) (omega arith),
      other,
      ne_eqb high 48 (λ e. omega arith),
      digit_is (n % 10) (omega arith),
      begins_append closing rest,
    )
    (ranged_ok ((high - 48) * 10 + (low - 48)) n (length t + 2 + length closing) (length t + suc (suc (length closing))) (omega arith) (omega arith) ok)

pub header_reads : (n : ℕ) (rest : List ℕ) → InRange n → read_dump_header_of (dump_header n ++ rest) ≡ Ok (n, length (dump_header n))
header_reads n rest range =
    order 10 n
    (λ two.
    let k : n < 100 = omega (arith, range.many) in
    reads_digits n _ rest (two_digits_lem n two k) (in_two opening rest n two k (range_ok n range)))
    (λ one. reads_digits n _ rest (one_digit_lem n one) (in_one opening rest n one (range_ok n range)))

pub record HeaderWrote (s : List ℕ) (n next : ℕ) : Type 0 where
  pub range : InRange n
  pub past : next ≡ length (dump_header n)
  pub bytes : dump_header n ≡ take next s

-- what the two shapes say of the bytes from p on
record One (s : List ℕ) (p : ℕ) : Type 0 where
  digit : Digit (get_or s p 0)
  ends : begins (drop (p + 1) s) closing ≡ true

one_is : (s : List ℕ) (p : ℕ) → one_digit s p ≡ true → One s p
one_is s p e = search (and_left, and_right) depth 9

record Two (s : List ℕ) (p : ℕ) : Type 0 where
  high : Digit (get_or s p 0)
  lead : get_or s p 0 ≡ 48 → ⊥
  low : Digit (get_or s (p + 1) 0)
  ends : begins (drop (p + 2) s) closing ≡ true

two_is : (s : List ℕ) (p : ℕ) → two_digits s p ≡ true → Two s p
two_is s p e = search (and_left, and_right, eqb-false, not-true) depth 9

abbrev is_header : HeaderRead → Bool
is_header (Ok (n, next)) = true
is_header (Err r) = false

ranged_is : (m q n next : ℕ) → ranged m q ≡ Ok (n, next) → InRange m × (m ≡ n) × (q ≡ next)
ranged_is m q n next =
    cond_elim (λ r. r ≡ Ok (n, next) → InRange m × (m ≡ n) × (q ≡ next)) (masters_ok m)
    (λ ok e. (ok_range m ok, (ok_parts e).0, (ok_parts e).1))
    (λ ok e. absurd (false≢true (ap is_header e)))

-- after the opening stand the digits of n, the closing, and whatever follows
wrote : (s : List ℕ) (n : ℕ) (ds rest : List ℕ) → begins s opening ≡ true → InRange n → decimal n ≡ ds
    → drop (length opening) s ≡ ds ++ (closing ++ rest) → HeaderWrote s n (length opening + (length ds + length closing))
unfolding dump_header
wrote s n ds rest starts range d e =
    let k : ℕ = length opening + (length ds + length closing) in
    let all : List ℕ = opening ++ (ds ++ closing) in
    let size : length all ≡ k = omega (arith, length-append opening (ds ++ closing), length-append ds closing) in
    let whole : s ≡ all ++ rest =
    begins_split s opening starts
    ∙ rw e (sym (append_assoc opening (ds ++ closing) rest ∙ ap (λ l. opening ++ l) (append_assoc ds closing rest))) in
    record {
      range = range;
      past = rw d (sym size);
      bytes = rw d (sym (ap (take k) whole ∙ take_at all rest k size));
    }

-- the byte at p and those after it
at_byte : (s : List ℕ) (p : ℕ) → 0 < get_or s p 0 → drop p s ≡ get_or s p 0 ∷ drop (p + 1) s
at_byte s p h = rw (add-one p) (drop-cons s p 0 (present s p h))

module _ (s : List ℕ) (n next : ℕ) (starts : begins s opening ≡ true) where
  abbrev p : ℕ
  p = length opening

  wrote_one : One s p → ranged (get_or s p 0 - 48) (p + 1 + length closing) ≡ Ok (n, next) → HeaderWrote s n next
  wrote_one o e =
      let a : ℕ = get_or s p 0 in
      let r = ranged_is (a - 48) (p + 1 + length closing) n next e in
      let k = digit_bounds a o.digit in
      let d : decimal (a - 48) ≡ a ∷ [] = one_digit_lem (a - 48) (omega arith) ∙ ap (λ x. x ∷ []) (omega arith) in
      let rest : List ℕ = drop (length closing) (drop (p + 1) s) in
      let stands : drop p s ≡ a ∷ (closing ++ rest) = at_byte s p (omega arith) ∙ ap (λ l. a ∷ l) (begins_split (drop (p + 1) s) closing o.ends) in
      let past : p + (1 + length closing) ≡ p + 1 + length closing = omega arith in
      rw (← r.1, ← r.2, ← past) (wrote s (a - 48) (a ∷ []) rest starts r.0 d stands)

  wrote_two : Two s p → ranged ((get_or s p 0 - 48) * 10 + (get_or s (p + 1) 0 - 48)) (p + 2 + length closing) ≡ Ok (n, next)
      → HeaderWrote s n next
  wrote_two o e =
      let a : ℕ = get_or s p 0 in
      let b : ℕ = get_or s (p + 1) 0 in
      let m : ℕ = (a - 48) * 10 + (b - 48) in
      let r = ranged_is m (p + 2 + length closing) n next e in
      let k = digit_bounds a o.high in
      let l = digit_bounds b o.low in
      let lead : a ≡ 48 → ⊥ = o.lead in
      let high : 48 + m / 10 ≡ a = omega arith in
      let low : 48 + m % 10 ≡ b = omega arith in
      let d : decimal m ≡ a ∷ (b ∷ []) = two_digits_lem m (omega arith) (omega arith) ∙ ap₂ (λ x y. x ∷ (y ∷ [])) high low in
      let rest : List ℕ = drop (length closing) (drop (p + 2) s) in
      let after : p + 1 + 1 ≡ p + 2 = omega arith in
      let second : drop (p + 1) s ≡ b ∷ drop (p + 2) s = rw after at (at_byte s (p + 1) (omega arith)) in
      let stands : drop p s ≡ a ∷ (b ∷ (closing ++ rest)) =
      at_byte s p (omega arith)
      ∙ ap (λ l. a ∷ l) (second ∙ ap (λ l. b ∷ l) (begins_split (drop (p + 2) s) closing o.ends)) in
      let past : p + (2 + length closing) ≡ p + 2 + length closing = omega arith in
      rw (← r.1, ← r.2, ← past) (wrote s m (a ∷ (b ∷ [])) rest starts r.0 d stands)

pub header_writes : (s : List ℕ) (n next : ℕ) → read_dump_header_of s ≡ Ok (n, next) → HeaderWrote s n next
unfolding read_dump_header_of masters_in
header_writes s n next =
    cond_elim Written (begins s opening)
    (λ starts.
    cond_elim Written (one_digit s (length opening))
    (λ one. wrote_one s n next starts (one_is s _ one))
    (λ more.
    cond_elim Written (two_digits s (length opening))
    (λ two. wrote_two s n next starts (two_is s _ two))
    (λ other e. absurd (false≢true (ap is_header e)))))
    (λ other e. absurd (false≢true (ap is_header e)))
  where
    Written : HeaderRead → Type 0
    Written r = r ≡ Ok (n, next) → HeaderWrote s n next
