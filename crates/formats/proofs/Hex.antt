-- Hex digits: what is written reads back, and what is read writes back. A character that is no hex digit makes the number 16 ^ w.
--
--   digit_bound   == a byte writes a digit below 16, or 16 stands for none
--   digit_of_char == the character of a digit reads back
--   char_of_digit == the digit of a character writes back
--   none_no_hex, no_hex_none == 16 stands for a byte exactly when it is the character of no digit
--   char_bound    == no character of a digit is below '0'
--   hex_length    == w digits are w bytes
--   number_bound  == a number of w digits is below 16 ^ w, or 16 ^ w stands for none
--   number_of_hex == the number that hex wrote reads back
--   hex_of_number == the digits of the number that was read are the bytes that stood there
--   top_no_digit, no_digit_top == 16 ^ w stands for w characters exactly when some of them is no hex digit
use Prim.Native.Nat.{ℕ, zero, suc, ◌+◌, ◌-◌, ◌*◌, ◌/◌, ◌%◌, ◌^◌, ◌≤◌, ◌<◌}
use mathlib.Core.Path.{◌≡◌, refl, sym, ◌∙◌}
use mathlib.Core.List.{List, [], ◌∷◌, ◌++◌, append_assoc}
use native.Mathlib.Omega.{arith}
use native.Mathlib.Nat.{mod-lt, div-add-mod', div-lt_iff_lt-mul, pow-suc}
use native.Mathlib.Numerals.{add-one}
use borrow.Author.Tests.{lt-ltb, le-ltb}
use lib.Arith.{digits_div, digits_mod}
use lib.Dec.{lit<}
use lib.ListN.{length, get_or, take, drop, length-append, length-drop}
use lib.Seq.{get_or-append-add, get_or_at, take-suc, get_or-drop}
use Rattle.rules.proofs.Choice.{order}
use Rattle.formats.specs.Digits.{hex_char, hex_digit, hex, joined, number_at}
use Rattle.formats.specs.Promises.{NoHex, NoDigit}
use Rattle.formats.proofs.Bytes.{below}

-- by the ranges of a byte: before '0', '0' to '9', before 'a', 'a' to 'f', and above
ranges : (P : ℕ → Type 0) (b : ℕ) → P 16 → (48 ≤ b → b < 58 → P (b - 48)) → (97 ≤ b → b < 103 → P (b - 87)) → P (hex_digit b)
unfolding hex_digit
ranges P b none digit letter =
    below P b 48 (λ h. none) (λ h48.
    below P b 58 (λ h58. digit h48 h58) (λ h58.
    below P b 97 (λ h. none) (λ h97.
    below P b 103 (λ h103. letter h97 h103) (λ h. none))))

pub digit_bound : (b : ℕ) → hex_digit b ≤ 16
digit_bound b = ranges (λ d. d ≤ 16) b (omega arith) (λ h k. omega arith) (λ h k. omega arith)

pub char_of_digit : (b : ℕ) → hex_digit b < 16 → hex_char (hex_digit b) ≡ b
unfolding hex_char
char_of_digit b =
    ranges (λ d. d < 16 → hex_char d ≡ b) b (λ h. omega arith)
    (λ h k l. rw (lt-ltb (b - 48) 10 (omega arith)) (omega arith))
    (λ h k l. rw (le-ltb (b - 87) 10 (omega arith)) (omega arith))

pub digit_of_char : (d : ℕ) → d < 16 → hex_digit (hex_char d) ≡ d
unfolding hex_char hex_digit
digit_of_char d h =
    below (λ b. hex_digit b ≡ d) d 10
    (λ l. simp (le-ltb (48 + d) 48 (omega arith), lt-ltb (48 + d) 58 (omega arith)) (omega arith))
    (λ l.
    simp (
      le-ltb (87 + d) 48 (omega arith),
      le-ltb (87 + d) 58 (omega arith),
      le-ltb (87 + d) 97 (omega arith),
      lt-ltb (87 + d) 103 (omega arith),
    )
    (omega arith))

pub none_no_hex : (b : ℕ) → hex_digit b ≡ 16 → NoHex b
none_no_hex b none d h e = let q : hex_digit b ≡ d = rw (← e) (digit_of_char d h) in omega arith

pub no_hex_none : (b : ℕ) → NoHex b → hex_digit b ≡ 16
no_hex_none b none =
    order 16 (hex_digit b)
    (λ h. omega (arith, digit_bound b))
    (λ h. absurd (none (hex_digit b) h (char_of_digit b h)))

pub char_bound : (d : ℕ) → 48 ≤ hex_char d
unfolding hex_char
char_bound d = below (λ b. 48 ≤ b) d 10 (λ h. omega arith) (λ h. omega arith)

pub hex_length : (w v : ℕ) → length (hex w v) ≡ w
hex_length zero v = refl
hex_length (suc w) v = length-append (hex w (v / 16)) _ ∙ rw (hex_length w (v / 16)) (add-one w)

joined_bound : (top high low : ℕ) → joined top high low ≤ top * 16
unfolding joined
joined_bound top high low =
    below (λ v. v ≤ top * 16) high top
    (λ h. below (λ v. v ≤ top * 16) low 16 (λ l. omega arith) (λ l. omega arith))
    (λ h. omega arith)

joined_digits : (top high low : ℕ) → high < top → low < 16 → joined top high low ≡ high * 16 + low
unfolding joined
joined_digits top high low h l = simp (lt-ltb high top h, lt-ltb low 16 l)

record Parts (top high low v : ℕ) : Type 0 where
  high_below : high < top
  low_below : low < 16
  value : v ≡ high * 16 + low

joined_parts : (top high low : ℕ) → joined top high low < top * 16 → Parts top high low (joined top high low)
unfolding joined
joined_parts top high low =
    below Whole high top
    (λ h. below Whole low 16 (λ l k. record { high_below = h; low_below = l; value = refl }) (λ l k. absurd (omega arith)))
    (λ h k. absurd (omega arith))
  where
    Whole : ℕ → Type 0
    Whole v = v < top * 16 → Parts top high low v

pub number_bound : (w : ℕ) (s : List ℕ) (p : ℕ) → number_at w s p ≤ 16 ^ w
number_bound zero s p = omega arith
number_bound (suc w) s p =
    rw pow-suc (joined_bound (16 ^ w) (number_at w s p) (hex_digit (get_or s (p + w) 0)))

pub number_of_hex : (w v : ℕ) (pre post : List ℕ) → v < 16 ^ w → number_at w (pre ++ (hex w v ++ post)) (length pre) ≡ v
number_of_hex zero v pre post h = omega arith
number_of_hex (suc w) v pre post h =
    let low : ℕ = hex_char (v % 16) in
    let s : List ℕ = pre ++ (hex w (v / 16) ++ (low ∷ post)) in
    let l : v % 16 < 16 = mod-lt v (lit< tt) in
    let q : v / 16 < 16 ^ w = (div-lt_iff_lt-mul (lit< tt)).1 (rw pow-suc at h) in
    let high : number_at w s (length pre) ≡ v / 16 = number_of_hex w (v / 16) pre (low ∷ post) q in
    let at : get_or s (length pre + w) 0 ≡ low =
    get_or-append-add pre (hex w (v / 16) ++ (low ∷ post)) w 0 ∙ get_or_at (hex w (v / 16)) low post 0 w (hex_length w (v / 16)) in
    rw (append_assoc (hex w (v / 16)) (low ∷ []) post, high, at, digit_of_char (v % 16) l)
    (joined_digits (16 ^ w) (v / 16) (v % 16) q l ∙ div-add-mod' v 16)

pub hex_of_number : (w : ℕ) (s : List ℕ) (p : ℕ) → p + w ≤ length s → number_at w s p < 16 ^ w
    → hex w (number_at w s p) ≡ take w (drop p s)
hex_of_number zero s p l h = refl
hex_of_number (suc w) s p l h =
    let j = joined_parts (16 ^ w) (number_at w s p) (hex_digit (get_or s (p + w) 0)) (rw pow-suc at h) in
    let e : hex w (number_at w s p) ≡ take w (drop p s) = hex_of_number w s p (omega arith) j.high_below in
    let inside : w < length (drop p s) = simp length-drop (omega arith) in
    rw (
      j.value,
      digits_div (number_at w s p) j.low_below,
      digits_mod (number_at w s p) j.low_below,
      e,
      char_of_digit (get_or s (p + w) 0) j.low_below,
      take-suc (drop p s) w 0 inside,
      get_or-drop p s w 0,
    )

pub top_no_digit : (w : ℕ) (s : List ℕ) (p : ℕ) → number_at w s p ≡ 16 ^ w → NoDigit w s p
top_no_digit zero s p e = absurd (omega arith)
top_no_digit (suc w) s p e =
    order (16 ^ w) (number_at w s p)
    (λ high.
    let r = top_no_digit w s p (omega (arith, number_bound w s p)) in
    record { at = r.at; there = omega (arith, r.there); none = r.none })
    (λ high.
    order 16 (hex_digit byte)
    (λ low. record { at = w; there = omega arith; none = none_no_hex byte (omega (arith, digit_bound byte)) })
    (λ low. absurd (omega (arith, sym (joined_digits (16 ^ w) (number_at w s p) (hex_digit byte) high low) ∙ e, pow-suc 16 w))))
  where
    byte : ℕ
    byte = get_or s (p + w) 0

joined_top : (top high low : ℕ) → (high < top → 16 ≤ low) → joined top high low ≡ top * 16
unfolding joined
joined_top top high low f =
    below (λ v. v ≡ top * 16) high top (λ h. rw (le-ltb low 16 (f h))) (λ h. refl)

pub no_digit_top : (w : ℕ) (s : List ℕ) (p : ℕ) → NoDigit w s p → number_at w s p ≡ 16 ^ w
no_digit_top zero s p n = absurd (omega (arith, n.there))
no_digit_top (suc w) s p n =
    rw pow-suc
    (joined_top (16 ^ w) (number_at w s p) (hex_digit (get_or s (p + w) 0))
    (λ h. order w n.at
    (λ last.
    let e : n.at ≡ w = omega (arith, n.there) in
    let none : NoHex (get_or s (p + w) 0) = rw e at n.none in
    omega (arith, no_hex_none (get_or s (p + w) 0) none))
    (λ before.
    absurd (omega (arith, no_digit_top w s p (record { at = n.at; there = before; none = n.none }))))))
