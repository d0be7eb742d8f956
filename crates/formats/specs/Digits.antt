-- Digits as characters: hex in lower case, and decimal.
--
--   tab, lf         == the two bytes that part fields and end lines
--   hex_char d      == the character of the hex digit d, below 16
--   hex_digit b     == the digit that the byte b writes, and 16 where it writes none
--   hex w v         == the number v in w hex digits
--   number_at w s p == the number that the w characters at p write, and 16 ^ w where one of them is no hex digit
--   decimal v       == the number v in decimal, with no leading zero
use Rattle.std.specs.Prelude.{ℕ, zero, suc, ◌+◌, ◌-◌, ◌*◌, ◌/◌, ◌%◌, ◌^◌, cond, List, [], ◌∷◌, ◌++◌, ltb, get_or}

abbrev pub tab : ℕ
tab = 9

abbrev pub lf : ℕ
lf = 10

-- '0' is 48 and 'a' is 97
unfoldable pub hex_char : ℕ → ℕ
hex_char d = cond (ltb d 10) (48 + d) (87 + d)

-- '0' to '9' and 'a' to 'f': "hex is lower case"
unfoldable pub hex_digit : ℕ → ℕ
hex_digit b =
    cond (ltb b 48) 16 (cond (ltb b 58) (b - 48) (cond (ltb b 97) 16 (cond (ltb b 103) (b - 87) 16)))

abbrev pub hex : ℕ → ℕ → List ℕ
hex zero v = []
hex (suc w) v = hex w (v / 16) ++ (hex_char (v % 16) ∷ [])

-- a number of digits below top, and one more digit; top * 16 where either is none
unfoldable pub joined : ℕ → ℕ → ℕ → ℕ
joined top high low = cond (ltb high top) (cond (ltb low 16) (high * 16 + low) (top * 16)) (top * 16)

abbrev pub number_at : ℕ → List ℕ → ℕ → ℕ
number_at zero s p = 0
number_at (suc w) s p = joined (16 ^ w) (number_at w s p) (hex_digit (get_or s (p + w) 0))

-- the digits of v before l, at most k of them
unfoldable pub decimal_before : ℕ → ℕ → List ℕ → List ℕ
decimal_before zero v l = l
decimal_before (suc k) v l = cond (ltb v 10) ((48 + v) ∷ l) (decimal_before k (v / 10) ((48 + v % 10) ∷ l))

-- ten digits hold every number of 32 bits
abbrev pub decimal : ℕ → List ℕ
decimal v = decimal_before 10 v []
