-- Columns as the table of digits reads them.
--
--   mask_seen    == a mask, by its four digits as they weigh in their places
--   small_column, column_char == a column has a number below ten exactly where it has its character
--   digit_column, column_digit == what the table has for a column's character is its digit, where either is one
use Rattle.std.proofs.Common.{◌≡◌, ℕ, ◌+◌, ◌%◌, ◌<◌, List, get_or, sym, refl, ◌∙◌, arith, le-ltb, lt-ltb}
use Rattle.rules.proofs.Choice.{order}
use Rattle.formats.specs.Digits.{hex_digit, number_at}
use Rattle.formats.proofs.Hex.{digit_of_char, char_of_digit}
use Rattle.fields.proofs.Digits.{number_one, small_char, sum_of, mask_good, mask_bad}
use Rattle.glances.specs.Glances.{digit_of, MaskSeen}
use Rattle.glances.proofs.Entries.{weighed}

pub mask_seen : (s : List ℕ) (p a b c d : ℕ) → a ≡ weighed 3 (get_or s p 0) → b ≡ weighed 2 (get_or s (p + 1) 0)
    → c ≡ weighed 1 (get_or s (p + 2) 0) → d ≡ weighed 0 (get_or s (p + 3) 0) → MaskSeen s p (a + b + c + d)
mask_seen s p a b c d ea eb ec ed =
    let w = digit_of (get_or s p 0) in
    let x = digit_of (get_or s (p + 1) 0) in
    let y = digit_of (get_or s (p + 2) 0) in
    let z = digit_of (get_or s (p + 3) 0) in
    let e : a + b + c + d ≡ sum_of w x y z = omega arith in
    rw e
    (record {
      found = mask_good s p w x y z refl refl refl refl;
      sure = λ h.
          order 65536 (sum_of w x y z)
          (λ large. absurd (omega (arith, mask_bad s p w x y z refl refl refl refl large)))
          (λ small. mask_good s p w x y z refl refl refl refl small);
    })

module _ (s : List ℕ) (p v : ℕ) where
  abbrev byte : ℕ
  byte = get_or s p 0

  one_digit_lem : hex_digit byte ≡ v → v < 16 → v ≡ number_at 1 s p
  one_digit_lem e h = sym (number_one s p ∙ rw (e, lt-ltb v 16 h))

  digit_there : number_at 1 s p < 16 → (hex_digit byte < 16) × (number_at 1 s p ≡ hex_digit byte)
  digit_there h =
      order 16 (hex_digit byte)
      (λ none. let q : number_at 1 s p ≡ 16 = number_one s p ∙ rw (le-ltb (hex_digit byte) 16 none) in absurd (omega arith))
      (λ some. (some, number_one s p ∙ rw (lt-ltb (hex_digit byte) 16 some)))

  pub small_column : get_or s p 0 ≡ 48 + v → v < 10 → v ≡ number_at 1 s p
  small_column e h =
      let m : v % 16 ≡ v = omega arith in
      one_digit_lem (rw (e, ← small_char v h) (digit_of_char (v % 16) (omega arith) ∙ m)) (omega arith)

  pub column_char : v ≡ number_at 1 s p → v < 10 → get_or s p 0 ≡ 48 + v
  column_char e h =
      let t = digit_there (omega arith) in
      let m : v % 16 ≡ hex_digit byte = omega arith in
      sym (char_of_digit byte t.0) ∙ rw (← m) (small_char v h)

  pub digit_column : v ≡ digit_of (get_or s p 0) → v < 16 → v ≡ number_at 1 s p
  digit_column e h =
      order 16 (hex_digit byte)
      (λ none. let q : v ≡ 65536 = e ∙ rw (le-ltb (hex_digit byte) 16 none) in absurd (omega arith))
      (λ some. one_digit_lem (sym (e ∙ rw (lt-ltb (hex_digit byte) 16 some))) h)

  pub column_digit : v ≡ digit_of (get_or s p 0) → number_at 1 s p < 16 → v ≡ number_at 1 s p
  column_digit e h =
      let t = digit_there h in
      e ∙ rw (lt-ltb (hex_digit byte) 16 t.0) (sym t.1)
