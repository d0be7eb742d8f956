-- Hex digits: what the arithmetic of the readers and writers comes to.
--
--   or_none none d      == the digit d, and none where d is no digit
--   joined_by_sum       == one digit more: a sum and one test say what two tests say
--   number_one          == a column of one digit
--   mask_good, mask_bad == a column of four, by their sum
--   small_char          == the character of a number below ten
use Rattle.std.proofs.Common.{◌≡◌, ℕ, ◌+◌, ◌*◌, ◌%◌, ◌<◌, ◌≤◌, cond, ltb, List, get_or, sym, refl, ◌∙◌, add-zero, zero-add, arith, le-ltb, lt-ltb}
use Rattle.rules.proofs.Choice.{order}
use Rattle.formats.specs.Digits.{hex_char, hex_digit, joined, number_at}

abbrev pub or_none : ℕ → ℕ → ℕ
or_none none d = cond (ltb d 16) d none

-- high is w, or top where w is too large; low is a digit, or too large for the sum
pub joined_by_sum : (top high low w none : ℕ) → top * 16 ≤ none → high ≡ cond (ltb w top) w top
    → joined top high low ≡ cond (ltb (w * 16 + or_none none low) (top * 16)) (w * 16 + or_none none low) (top * 16)
unfolding joined
joined_by_sum top high low w none h e =
    order top w
    (λ large. simp (e, le-ltb w top large, le-ltb top top (omega arith), le-ltb (w * 16 + or_none none low) (top * 16) (omega arith)))
    (λ small. order 16 low
    (λ bad. simp (e, lt-ltb w top small, le-ltb low 16 bad, le-ltb (w * 16 + none) (top * 16) (omega arith)))
    (λ good. simp (e, lt-ltb w top small, lt-ltb low 16 good, lt-ltb (w * 16 + low) (top * 16) (omega arith))))

pub number_one : (s : List ℕ) (p : ℕ) → number_at 1 s p ≡ or_none 16 (hex_digit (get_or s p 0))
unfolding joined
number_one s p = rw (add-zero p, zero-add)

-- the sum of four digits, from the left
abbrev pub sum_of : ℕ → ℕ → ℕ → ℕ → ℕ
sum_of a b c d = ((a * 16 + b) * 16 + c) * 16 + d

module _ (s : List ℕ) (p a b c d : ℕ)
    (ea : a ≡ or_none 65536 (hex_digit (get_or s p 0)))
    (eb : b ≡ or_none 65536 (hex_digit (get_or s (p + 1) 0)))
    (ec : c ≡ or_none 65536 (hex_digit (get_or s (p + 2) 0)))
    (ed : d ≡ or_none 65536 (hex_digit (get_or s (p + 3) 0)))
  where
    number_four : number_at 4 s p ≡ cond (ltb (sum_of a b c d) 65536) (sum_of a b c d) 65536
    number_four =
        let one = rw zero-add at (joined_by_sum 1 0 (hex_digit (get_or s p 0)) 0 65536 (omega arith) refl) in
        rw (add-zero p, ea, eb, ec, ed)
        (joined_by_sum 4096 _ _ _ 65536 (omega arith)
        (joined_by_sum 256 _ _ _ 65536 (omega arith) (joined_by_sum 16 _ _ _ 65536 (omega arith) one)))

    pub mask_good : sum_of a b c d < 65536 → sum_of a b c d ≡ number_at 4 s p
    mask_good h = sym (number_four ∙ rw (lt-ltb (sum_of a b c d) 65536 h))

    pub mask_bad : 65536 ≤ sum_of a b c d → 65536 ≡ number_at 4 s p
    mask_bad h = sym (number_four ∙ rw (le-ltb (sum_of a b c d) 65536 h))

pub small_char : (v : ℕ) → v < 10 → hex_char (v % 16) ≡ 48 + v
unfolding hex_char
small_char v h =
    let e : v % 16 ≡ v = omega arith in
    simp (e, lt-ltb v 10 h)
