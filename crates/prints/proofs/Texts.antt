-- The characters of two masks.
--
--   texts           == the two texts, from the digits of both side by side
use Prim.Native.Nat.{ℕ, ◌+◌, ◌*◌, ◌/◌, ◌%◌, ◌<◌}
use mathlib.Core.Path.{◌≡◌, refl, ap, ◌∙◌}
use mathlib.Core.List.{List, [], ◌∷◌, ◌++◌}
use native.Mathlib.Omega.{arith}
use Rattle.words.specs.Words.{low_first, number_low}
use Rattle.words.proofs.Words.{Bytes, none_bytes, one_more, again_bytes}
use Rattle.words.proofs.Tables.{same_below}
use Rattle.formats.specs.Digits.{hex_char, hex}
use Rattle.glances.proofs.Owners.{char_small}
use Rattle.prints.specs.Prints.{digits_low, letters_of, backwards}

-- the character of a digit
char : (d : ℕ) → d < 16 → d + 48 + (d + 6) / 16 % 2 * 39 ≡ hex_char d
unfolding hex_char
char = same_below 16 (λ d. d + 48 + (d + 6) / 16 % 2 * 39) (λ d. hex_char d) refl

-- a list of eight
abbrev eight : ℕ → ℕ → ℕ → ℕ → ℕ → ℕ → ℕ → ℕ → List ℕ
eight a b c d e f g h = a ∷ b ∷ c ∷ d ∷ e ∷ f ∷ g ∷ h ∷ []

eight_bytes : {a b c d e f g h : ℕ} → a < 256 → b < 256 → c < 256 → d < 256 → e < 256 → f < 256 → g < 256 → h < 256 → Bytes (eight a b c d e f g h)
eight_bytes a b c d e f g h = one_more a (one_more b (one_more c (one_more d (one_more e (one_more f (one_more g (one_more h none_bytes)))))))

-- digit by digit: 48 more, and 39 more where l has a letter
sum_of : (a b c d e f g h a' b' c' d' e' f' g' h' w l : ℕ) → w ≡ number_low 8 (eight a b c d e f g h) 0 → l ≡ number_low 8 (eight a' b' c' d' e' f' g' h') 0
    → w + 3472328296227680304 + l * 39
    ≡ number_low 8 (eight (a + 48 + a' * 39) (b + 48 + b' * 39) (c + 48 + c' * 39) (d + 48 + d' * 39) (e + 48 + e' * 39) (f + 48 + f' * 39) (g + 48 + g' * 39) (h + 48 + h' * 39)) 0
sum_of a b c d e f g h a' b' c' d' e' f' g' h' w l p q = omega arith

module _ (a b c d e f g h : ℕ) (ha : a < 16) (hb : b < 16) (hc : c < 16) (hd : d < 16) (he : e < 16) (hf : f < 16) (hg : g < 16) (hh : h < 16) where
  six_more : (w : ℕ) → w ≡ number_low 8 (eight a b c d e f g h) 0
      → low_first 8 (w + 434041037028460038) ≡ eight (a + 6) (b + 6) (c + 6) (d + 6) (e + 6) (f + 6) (g + 6) (h + 6)
  six_more w q =
      let l = eight (a + 6) (b + 6) (c + 6) (d + 6) (e + 6) (f + 6) (g + 6) (h + 6) in
      let sum : w + 434041037028460038 ≡ number_low 8 l 0 = omega arith in
      rw sum
      (again_bytes 8 l
      (eight_bytes (omega arith) (omega arith) (omega arith) (omega arith) (omega arith) (omega arith) (omega arith) (omega arith))
      refl)

  -- the characters of eight digits, a byte each
  chars : (w l : ℕ) → w ≡ number_low 8 (eight a b c d e f g h) 0 → l ≡ number_low 8 (letters_of (low_first 8 (w + 434041037028460038))) 0
      → w + 3472328296227680304 + l * 39
      ≡ number_low 8 (eight (hex_char a) (hex_char b) (hex_char c) (hex_char d) (hex_char e) (hex_char f) (hex_char g) (hex_char h)) 0
  chars w l q r =
      let s : l ≡ number_low 8 (letters_of (eight (a + 6) (b + 6) (c + 6) (d + 6) (e + 6) (f + 6) (g + 6) (h + 6))) 0 =
      r ∙ ap (λ (m : List ℕ). number_low 8 (letters_of m) 0) (six_more w q) in
      sum_of a b c d e f g h _ _ _ _ _ _ _ _ w l q s
      ∙ rw (char a ha, char b hb, char c hc, char d hd, char e he, char f hf, char g hg, char h hh)

-- the low four, and the high four
halves : (a b c d e f g h t : ℕ) → a < 256 → b < 256 → c < 256 → d < 256 → t ≡ number_low 8 (eight a b c d e f g h) 0
    → (t / 4294967296 ≡ number_low 4 (e ∷ f ∷ g ∷ h ∷ []) 0) × (t % 4294967296 ≡ number_low 4 (a ∷ b ∷ c ∷ d ∷ []) 0)
halves a b c d e f g h t ha hb hc hd q = (omega arith, omega arith)

-- the four characters of a mask, in the order of a line
mask_text : (m w r : ℕ) → w ≡ number_low 4 (hex_char (m % 16) ∷ hex_char (m / 16 % 16) ∷ hex_char (m / 16 / 16 % 16) ∷ hex_char (m / 16 / 16 / 16 % 16) ∷ []) 0
    → r ≡ number_low 4 (backwards (low_first 4 w)) 0 → r ≡ number_low 4 (hex 4 m) 0
mask_text m w r e q =
    let l = hex_char (m % 16) ∷ hex_char (m / 16 % 16) ∷ hex_char (m / 16 / 16 % 16) ∷ hex_char (m / 16 / 16 / 16 % 16) ∷ [] in
    let bytes : Bytes l = one_more (char_small m) (one_more (char_small (m / 16)) (one_more (char_small (m / 16 / 16)) (one_more (char_small (m / 16 / 16 / 16)) none_bytes))) in
    let s : low_first 4 w ≡ l = ap (low_first 4) e ∙ again_bytes 4 l bytes refl in
    q ∙ ap (λ (k : List ℕ). number_low 4 (backwards k) 0) s

pub texts : (a b d l r s : ℕ) → d ≡ number_low 8 (digits_low b ++ digits_low a) 0 → l ≡ number_low 8 (letters_of (low_first 8 (d + 434041037028460038))) 0
    → r ≡ number_low 4 (backwards (low_first 4 ((d + 3472328296227680304 + l * 39) / 4294967296))) 0
    → s ≡ number_low 4 (backwards (low_first 4 ((d + 3472328296227680304 + l * 39) % 4294967296))) 0
    → (r ≡ number_low 4 (hex 4 a) 0) × (s ≡ number_low 4 (hex 4 b) 0)
texts a b d l r s ed el er es =
    let t = chars (b % 16) (b / 16 % 16) (b / 16 / 16 % 16) (b / 16 / 16 / 16 % 16) (a % 16) (a / 16 % 16) (a / 16 / 16 % 16) (a / 16 / 16 / 16 % 16)
    (omega arith) (omega arith) (omega arith) (omega arith) (omega arith) (omega arith) (omega arith) (omega arith) d l ed el in
    let h = halves _ _ _ _ _ _ _ _ _ (char_small b) (char_small (b / 16)) (char_small (b / 16 / 16)) (char_small (b / 16 / 16 / 16)) t in
    (mask_text a _ r h.0 er, mask_text b _ s h.1 es)
