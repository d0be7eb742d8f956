-- The header of a dump, whole. Reading it: 12, also for the empty input, in the place of 2; then 1. Writing it: 1, 9.
--
--   dump_header n         == the bytes of the header
--   begins s t            == s begins with t
--   read_dump_header_of s == the answer of reading a header at the start of s
--   write_dump_header_of, dump_header_written == the answer of writing one, and the buffer afterwards
use Rattle.std.specs.Prelude.{ℕ, suc, ◌+◌, ◌-◌, ◌*◌, Bool, true, false, not, ◌&&◌, cond, List, [], ◌∷◌, ◌++◌, eqb, length, get_or, drop, Err, Ok}
use Rattle.rules.specs.declared.Refusal.TheVariants as refusal
use Rattle.formats.specs.Results.{HeaderRead, Written}
use Rattle.formats.specs.Digits.{decimal}
use Rattle.formats.specs.Columns.{Column, cycle_columns}
use Rattle.formats.specs.Headers.{is_decimal, ranged}
use Rattle.formats.specs.Lines.{fitted, for_masters, left}
use Rattle.formats.specs.Texts.{bytes}
use Rattle.waves.specs.Variables.{space}

-- "A comment in the header carries n"
unfoldable pub opening : List ℕ
opening = bytes "$comment masters "

-- `$var wire WIDTH CODE NAME $end`, for the column with the code k
unfoldable pub declared : ℕ → Column → List ℕ
declared k c = bytes "$var wire " ++ (decimal c.bits ++ (space ∷ k ∷ space ∷ (bytes c.name ++ bytes " $end\n")))

unfoldable pub all_declared : ℕ → List Column → List ℕ
all_declared k [] = []
all_declared k (c ∷ cs) = declared k c ++ all_declared (suc k) cs

-- all that stands after n
unfoldable pub closing : List ℕ
closing =
    bytes " $end\n$timescale 1 ns $end\n$scope module ahb $end\n"
    ++ (all_declared 33 cycle_columns ++ bytes "$upscope $end\n$enddefinitions $end\n")

unfoldable pub dump_header : ℕ → List ℕ
dump_header n = opening ++ (decimal n ++ closing)

unfoldable pub begins : List ℕ → List ℕ → Bool
begins s [] = true
begins [] (b ∷ t) = false
begins (a ∷ s) (b ∷ t) = eqb a b && begins s t

-- n in one digit at p, or in two with no leading zero, and all that stands after it
abbrev pub one_digit : List ℕ → ℕ → Bool
one_digit s p = is_decimal (get_or s p 0) && begins (drop (p + 1) s) closing

abbrev pub two_digits : List ℕ → ℕ → Bool
two_digits s p =
    is_decimal (get_or s p 0)
    && not (eqb (get_or s p 0) 48)
    && is_decimal (get_or s (p + 1) 0)
    && begins (drop (p + 2) s) closing

-- 12 of the whole header comes before 1
unfoldable pub masters_in : List ℕ → ℕ → HeaderRead
masters_in s p =
    cond (one_digit s p) (ranged (get_or s p 0 - 48) (p + 1 + length closing))
    (cond (two_digits s p)
    (ranged ((get_or s p 0 - 48) * 10 + (get_or s (p + 1) 0 - 48)) (p + 2 + length closing))
    (Err refusal.Dump))

unfoldable pub read_dump_header_of : List ℕ → HeaderRead
read_dump_header_of s = cond (begins s opening) (masters_in s (length opening)) (Err refusal.Dump)

unfoldable pub write_dump_header_of : ℕ → ℕ → Written
write_dump_header_of n room = fitted (for_masters n (Ok tt)) (length (dump_header n)) room

unfoldable pub dump_header_written : ℕ → List ℕ → List ℕ
dump_header_written n buffer = left (write_dump_header_of n (length buffer)) (dump_header n) buffer
