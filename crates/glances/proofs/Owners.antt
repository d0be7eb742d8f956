-- HGRANT with a single bit, and HMASTER, as bytes and as one number.
--
--   shifted g       == the four digits of the single bit g, each in the low half of a byte
--   shifted_small   == they fit into four bytes
--   char_small      == a character is a byte
--   owner_number    == the number that the text of both is
--   owner_bytes_lem == that number has the bytes of the text
use Rattle.std.proofs.Common.{◌≡◌, ℕ, ◌+◌, ◌-◌, ◌*◌, ◌/◌, ◌%◌, ◌^◌, ◌<◌, refl, arith}
use Rattle.rules.specs.Masks.{single}
use Rattle.words.specs.Words.{low_first, number_low}
use Rattle.words.proofs.Words.{none_bytes, one_more, again_bytes}
use Rattle.words.proofs.Tables.{same_below}
use Rattle.formats.specs.Digits.{hex_char, hex}
use Rattle.formats.proofs.Bytes.{below}
use Rattle.glances.specs.Puts.{owner_bytes}

abbrev pub shifted : ℕ → ℕ
shifted g = 1 * 2 ^ (g % 4) % 2 ^ 64 * 2 ^ (24 - g / 4 * 8) % 2 ^ 64

-- the character of each of the four is that of 0 and the digit: no digit of a single bit is a letter
grant_number : (g : ℕ) → g < 16 → 808464432 + shifted g ≡ number_low 4 (hex 4 (single g)) 0
unfolding hex_char
grant_number = same_below 16 (λ g. 808464432 + shifted g) (λ g. number_low 4 (hex 4 (single g)) 0) refl

owner_char : (m : ℕ) → m < 16 → 48 + m + (m + 6) / 16 * 39 ≡ hex_char (m % 16)
unfolding hex_char
owner_char = same_below 16 (λ m. 48 + m + (m + 6) / 16 * 39) (λ m. hex_char (m % 16)) refl

pub shifted_small : (g : ℕ) → g < 16 → shifted g < 2 ^ 28
shifted_small g h = omega (arith, same_below 16 (λ g. shifted g / 2 ^ 28) (λ g. 0) refl g h)

pub owner_number : (g m : ℕ) → g < 16 → m < 16
    → 648528448912896009 + shifted g * 256 + (48 + m + (m + 6) / 16 * 39) * 281474976710656 ≡ number_low 8 (owner_bytes g m) 0
owner_number g m h k = omega (arith, grant_number g h, owner_char m k)

pub char_small : (d : ℕ) → hex_char (d % 16) < 256
unfolding hex_char
char_small d = below (λ b. b < 256) (d % 16) 10 (λ h. omega arith) (λ h. omega arith)

pub owner_bytes_lem : (g m : ℕ) → low_first 8 (number_low 8 (owner_bytes g m) 0) ≡ owner_bytes g m
owner_bytes_lem g m =
    let tabs : 9 < 256 = omega arith in
    again_bytes 8 (owner_bytes g m)
    (one_more tabs (one_more (char_small _) (one_more (char_small _) (one_more (char_small _) (one_more (char_small _)
    (one_more tabs (one_more (char_small m) (one_more tabs none_bytes)))))))) refl
