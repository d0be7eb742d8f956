-- The header: the bytes `stim` or `trace`, tab, `1`, tab, n in decimal, LF.
-- "Reading a header: 2, 1. Writing one: 1, 9."
--
--   prefix w           == the bytes before n
--   header w n         == the bytes of a header
--   read_header_of w s == the answer of reading a header of the word w at the start of s
--   write_header_of, header_written == the answer of writing one, and the buffer afterwards
use Rattle.std.specs.Prelude.{ℕ, zero, suc, ◌+◌, ◌-◌, ◌*◌, Bool, true, not, ◌&&◌, cond, List, [], ◌∷◌, ◌++◌, eqb, leb, length, get_or, Err, Ok}
use Rattle.rules.specs.declared.Refusal.TheVariants as refusal
use Rattle.rules.specs.State.{masters_ok}
use Rattle.formats.specs.declared.Word.{Word}
use Rattle.formats.specs.declared.Word.TheVariants.{Stim, Trace}
use Rattle.formats.specs.Results.{HeaderRead, Written}
use Rattle.formats.specs.Digits.{tab, lf, decimal}
use Rattle.formats.specs.Lines.{fitted, for_masters, left}

-- "the bytes `stim` or `trace`, tab, `1`, tab"
abbrev pub prefix : Word → List ℕ
prefix Stim = 115 ∷ 116 ∷ 105 ∷ 109 ∷ tab ∷ 49 ∷ tab ∷ []
prefix Trace = 116 ∷ 114 ∷ 97 ∷ 99 ∷ 101 ∷ tab ∷ 49 ∷ tab ∷ []

unfoldable pub header : Word → ℕ → List ℕ
header w n = prefix w ++ (decimal n ++ (lf ∷ []))

-- the first k bytes of s are those of t
abbrev pub same_to : ℕ → List ℕ → List ℕ → Bool
same_to zero s t = true
same_to (suc k) s t = same_to k s t && eqb (get_or s k 0) (get_or t k 0)

abbrev pub starts_with : List ℕ → List ℕ → Bool
starts_with s t = same_to (length t) s t

abbrev pub is_decimal : ℕ → Bool
is_decimal b = leb 48 b && leb b 57

-- n in one digit at p, or in two with no leading zero, and LF; past the end of the input there is neither a digit nor LF
abbrev pub one_digit : List ℕ → ℕ → Bool
one_digit s p = is_decimal (get_or s p 0) && eqb (get_or s (p + 1) 0) lf

abbrev pub two_digits : List ℕ → ℕ → Bool
two_digits s p =
    is_decimal (get_or s p 0)
    && not (eqb (get_or s p 0) 48)
    && is_decimal (get_or s (p + 1) 0)
    && eqb (get_or s (p + 2) 0) lf

-- 1 where the number is not 2 to 16
abbrev pub ranged : ℕ → ℕ → HeaderRead
ranged n next = cond (masters_ok n) (Ok (n, next)) (Err refusal.Masters)

unfoldable pub number_in : List ℕ → ℕ → HeaderRead
number_in s p =
    cond (one_digit s p) (ranged (get_or s p 0 - 48) (p + 2))
    (cond (two_digits s p)
    (ranged ((get_or s p 0 - 48) * 10 + (get_or s (p + 1) 0 - 48)) (p + 3))
    (Err refusal.Header))

unfoldable pub read_header_of : Word → List ℕ → HeaderRead
read_header_of w s =
    cond (starts_with s (prefix w)) (number_in s (length (prefix w))) (Err refusal.Header)

unfoldable pub write_header_of : Word → ℕ → ℕ → Written
write_header_of w n room = fitted (for_masters n (Ok tt)) (length (header w n)) room

unfoldable pub header_written : Word → ℕ → List ℕ → List ℕ
header_written w n buffer = left (write_header_of w n (length buffer)) (header w n) buffer
