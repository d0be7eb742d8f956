-- The table of digits, made byte by byte.
--
--   weighed place b == what the digit of the byte b weighs in a place; weighed_small: how much at most
--   To b t      == the digits of the bytes below b are in their four places
--   digits_more == one byte further, when that byte's digit is stored
use Rattle.std.proofs.Common.{◌≡◌, ℕ, zero, suc, ◌+◌, ◌*◌, ◌^◌, ◌<◌, ◌≤◌, List, length, get_or, set, sym, ◌∙◌, zero-add, mul-one, arith, length-set, get_or-set_other, get_or-set_same}
use Rattle.rules.proofs.Choice.{order}
use Rattle.formats.specs.Digits.{hex_digit}
use Rattle.formats.proofs.Bytes.{below}
use Rattle.glances.specs.Glances.{digit_of}

digit_small : (b : ℕ) → digit_of b ≤ 65536
digit_small b = below (λ d. d ≤ 65536) (hex_digit b) 16 (λ h. omega arith) (λ h. omega arith)

abbrev pub weighed : ℕ → ℕ → ℕ
weighed place b = digit_of b * 16 ^ place

pub weighed_small : (place b : ℕ) → place < 4 → weighed place b ≤ 268435456
weighed_small zero b h = omega (arith, digit_small b)
weighed_small (suc zero) b h = omega (arith, digit_small b)
weighed_small (suc (suc zero)) b h = omega (arith, digit_small b)
weighed_small (suc (suc (suc zero))) b h = omega (arith, digit_small b)
weighed_small (suc (suc (suc (suc place)))) b h = absurd (omega arith)

abbrev pub To : ℕ → List ℕ → Type 0
To b t = (place k : ℕ) → place < 4 → k < b → get_or t (place * 256 + k) 0 ≡ weighed place k

-- one byte's digit stored in its four places
module _ (b v : ℕ) (t : List ℕ) (size : length t ≡ 1024) (small : b < 256) where
  abbrev t1 : List ℕ
  t1 = set t b v

  abbrev t2 : List ℕ
  t2 = set t1 (256 + b) (v * 16)

  abbrev t3 : List ℕ
  t3 = set t2 (512 + b) (v * 256)

  abbrev t4 : List ℕ
  t4 = set t3 (768 + b) (v * 4096)

  length_1 : length t1 ≡ 1024
  length_1 = length-set t b v ∙ size

  length_2 : length t2 ≡ 1024
  length_2 = length-set t1 (256 + b) (v * 16) ∙ length_1

  length_3 : length t3 ≡ 1024
  length_3 = length-set t2 (512 + b) (v * 256) ∙ length_2

  stored : (place : ℕ) → place < 4 → get_or t4 (place * 256 + b) 0 ≡ v * 16 ^ place
  stored zero h =
      rw zero-add
      (get_or-set_other t3 (768 + b) b (v * 4096) 0 (λ q. omega arith)
      ∙ get_or-set_other t2 (512 + b) b (v * 256) 0 (λ q. omega arith)
      ∙ get_or-set_other t1 (256 + b) b (v * 16) 0 (λ q. omega arith)
      ∙ get_or-set_same t b v 0 (omega arith)
      ∙ sym (mul-one v))
  stored (suc zero) h =
      get_or-set_other t3 (768 + b) (256 + b) (v * 4096) 0 (λ q. omega arith)
      ∙ get_or-set_other t2 (512 + b) (256 + b) (v * 256) 0 (λ q. omega arith)
      ∙ get_or-set_same t1 (256 + b) (v * 16) 0 (omega (arith, length_1))
  stored (suc (suc zero)) h =
      get_or-set_other t3 (768 + b) (512 + b) (v * 4096) 0 (λ q. omega arith)
      ∙ get_or-set_same t2 (512 + b) (v * 256) 0 (omega (arith, length_2))
  stored (suc (suc (suc zero))) h = get_or-set_same t3 (768 + b) (v * 4096) 0 (omega (arith, length_3))
  stored (suc (suc (suc (suc place)))) h = absurd (omega arith)

  -- an entry of another byte is as it was
  others : (i : ℕ) → (i ≡ b → ⊥) → (i ≡ 256 + b → ⊥) → (i ≡ 512 + b → ⊥) → (i ≡ 768 + b → ⊥) → get_or t4 i 0 ≡ get_or t i 0
  others i f g h k =
      get_or-set_other t3 (768 + b) i (v * 4096) 0 k
      ∙ get_or-set_other t2 (512 + b) i (v * 256) 0 h
      ∙ get_or-set_other t1 (256 + b) i (v * 16) 0 g
      ∙ get_or-set_other t b i v 0 f

  pub digits_more : To b t → v ≡ digit_of b → To (b + 1) t4
  digits_more h e place k few less =
      order b k
      (λ last. let q : k ≡ b = omega arith in rw (q, ← e) (stored place few))
      (λ before.
      others (place * 256 + k) (λ q. omega arith) (λ q. omega arith) (λ q. omega arith) (λ q. omega arith)
      ∙ h place k few before)
