-- The header of a dump, from the tests of its bytes.
--
--   closing_some, opening_short == how long the two texts are, as far as the calls ask
--   one_digit_lem, two_digits_lem, no_number == the three ends after the opening
--   opened, not_opened == the two ends at the opening
use Rattle.std.specs.Prelude.{Err}
use Prim.Native.Nat.{ℕ, ◌+◌, ◌-◌, ◌*◌, ◌≤◌, ◌<◌}
use mathlib.Core.Path.{◌≡◌}
use mathlib.Core.Bool.{Bool, true, false, not, ◌&&◌}
use mathlib.Core.List.{List}
use native.Mathlib.Omega.{arith}
use lib.Dec.{eqb, lit≤}
use lib.ListN.{length, get_or, drop}
use Rattle.rules.specs.declared.Refusal.TheVariants.{Dump}
use Rattle.formats.specs.Results.{HeaderRead}
use Rattle.formats.specs.Headers.{is_decimal, ranged}
use Rattle.formats.specs.Texts.{bytes}
use Rattle.waves.specs.Header.{opening, closing, begins, one_digit, two_digits, masters_in, read_dump_header_of}

pub closing_some : (k : List ℕ) → k ≡ closing → 0 < length k
unfolding closing bytes
closing_some k e = rw e (omega arith)

pub opening_short : (k : List ℕ) → k ≡ opening → length k ≤ 64
unfolding opening bytes
opening_short k e = rw e (lit≤ tt)

module _ (s : List ℕ) (p a b : ℕ) (k : List ℕ) (first second after after' : Bool)
    (ek : k ≡ closing)
    (ea : a ≡ get_or s p 0)
    (eb : b ≡ get_or s (p + 1) 0)
    (ef : first ≡ is_decimal a)
    (es : second ≡ is_decimal b)
    (e1 : after ≡ begins (drop (p + 1) s) k)
    (e2 : after' ≡ begins (drop (p + 2) s) k)
  where
    one : one_digit s p ≡ (first && after)
    one = rw (ef, e1, ek, ea)

    two : two_digits s p ≡ (first && not (eqb a 48) && second && after')
    two = rw (ef, es, e2, ek, ea, eb)

    pub one_digit_lem : (tens : ℕ) (r : HeaderRead) → (first && after) ≡ true → tens ≡ a - 48 → r ≡ ranged tens (p + 1 + length k) → r ≡ masters_in s p
    unfolding masters_in
    one_digit_lem tens r t et h = simp (one, t) (rw (← ek, ← ea, ← et) h)

    module _ (no : (first && after) ≡ false) where
      pub two_digits_lem : (tens ones : ℕ) (r : HeaderRead) → (first && not (eqb a 48) && second && after') ≡ true → tens ≡ a - 48 → ones ≡ b - 48 → r ≡ ranged (tens * 10 + ones) (p + 2 + length k) → r ≡ masters_in s p
      unfolding masters_in
      two_digits_lem tens ones r t et eo h = simp (one, no, two, t) (rw (← ek, ← ea, ← eb, ← et, ← eo) h)

      pub no_number : (first && not (eqb a 48) && second && after') ≡ false → Err Dump ≡ masters_in s p
      unfolding masters_in
      no_number t = simp (one, no, two, t)

module _ (s o : List ℕ) (found : Bool) (eo : o ≡ opening) (ef : found ≡ begins s o) where
  pub opened : (r : HeaderRead) → found ≡ true → r ≡ masters_in s (length o) → r ≡ read_dump_header_of s
  unfolding read_dump_header_of
  opened r t h = rw (← eo, ← ef, t) h

  pub not_opened : found ≡ false → Err Dump ≡ read_dump_header_of s
  unfolding read_dump_header_of
  not_opened t = rw (← eo, ← ef, t)
