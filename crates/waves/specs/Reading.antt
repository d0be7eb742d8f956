-- A step of a dump as it is read: 1, 13, 8, 14, 3, 4, 5, 6, 7. Each test is of the whole step.
--
--   step_text s        == the step that s begins with: up to the next line that begins with `#`, or the end of the input, and at most 105 bytes
--   wrong_time t s     == 13: its time is another number than t
--   full_time t s      == 8: its time is t, and that is 1,000,000
--   unknown_in s       == 14: a value of a variable that is none of the eleven
--   placed x s         == s begins with a line of the variable x, of its kind and width
--   value_in x s       == the value in that line, and 2 ^ width where a character is no bit
--   shaped all xs vs s == s has nothing but lines of the variables xs, in their order, none of which repeats the value v; all of them in cycle 0
--   values_in xs vs s  == the values after those lines
--   read_step_of n t prev s p == the answer of reading at p the step of cycle t, after the cycle prev
use Rattle.std.specs.Prelude.{ℕ, zero, suc, ◌+◌, ◌-◌, ◌*◌, ◌^◌, Bool, true, false, not, ◌&&◌, ◌||◌, cond, List, [], ◌∷◌, eqb, ltb, leb, length, get_or, drop, Err, None, Ok, Some}
use Rattle.rules.specs.declared.Refusal.TheVariants as refusal
use Rattle.rules.specs.Results.{Check}
use Rattle.rules.specs.declared.Cycle.{Cycle}
use Rattle.rules.specs.Codes.{most_cycles}
use Rattle.rules.specs.State.{masters_ok}
use Rattle.formats.specs.Results.{TraceRead}
use Rattle.formats.specs.Digits.{lf, decimal}
use Rattle.formats.specs.Columns.{cycle_values}
use Rattle.formats.specs.Headers.{is_decimal}
use Rattle.formats.specs.Lines.{line_check}
use Rattle.waves.specs.Variables.{Variable, variables, space, size_of}
use Rattle.waves.specs.Header.{begins}
use Rattle.waves.specs.Steps.{hash, time_line}

-- a longest good step has 104 bytes: of a longer one the first 105 are looked at, and no good step has as many
abbrev pub most_bytes : ℕ
most_bytes = 105

-- at most k bytes, up to the LF before a line that begins with `#`
unfoldable pub up_to : ℕ → List ℕ → List ℕ
up_to zero s = []
up_to (suc k) [] = []
up_to (suc k) (b ∷ s) = b ∷ cond (eqb b lf && eqb (get_or s 0 0) hash) [] (up_to k s)

abbrev pub step_text : List ℕ → List ℕ
step_text s = up_to most_bytes s

-- The time: one digit or more after `#`, with no leading zero.
unfoldable pub has_time : List ℕ → Bool
has_time s =
    eqb (get_or s 0 0) hash
    && is_decimal (get_or s 1 0)
    && not (eqb (get_or s 1 0) 48 && is_decimal (get_or s 2 0))

-- whatever follows those digits
unfoldable pub time_is : ℕ → List ℕ → Bool
time_is t s = begins s (hash ∷ decimal t) && not (is_decimal (get_or s (1 + length (decimal t)) 0))

-- 13: another number than the next
unfoldable pub wrong_time : ℕ → List ℕ → Bool
wrong_time t s = has_time s && not (time_is t s)

-- 8: `#1000000` after a million steps, whatever follows it
unfoldable pub full_time : ℕ → List ℕ → Bool
full_time t s = leb most_cycles t && time_is t s

-- The value changes of IEEE 1364, as far as it takes to tell an unknown variable: a scalar has its code after one character, a vector and
-- a real number have theirs after a space. A code has the characters '!' to '~'.
abbrev pub is_scalar : ℕ → Bool
is_scalar b = eqb b 48 || eqb b 49 || eqb b 88 || eqb b 120 || eqb b 90 || eqb b 122

-- 'b', 'B', 'r', 'R'
abbrev pub is_vector : ℕ → Bool
is_vector b = eqb b 98 || eqb b 66 || eqb b 114 || eqb b 82

abbrev pub is_printed : ℕ → Bool
is_printed b = leb 33 b && leb b 126

-- what stands after the first space of the line
unfoldable pub after_space : List ℕ → List ℕ
after_space [] = []
after_space (b ∷ s) = cond (eqb b lf) [] (cond (eqb b space) s (after_space s))

-- what the line has from its code on; nothing where it is no value change
unfoldable pub code_in : List ℕ → List ℕ
code_in [] = []
code_in (b ∷ s) = cond (is_scalar b) s (cond (is_vector b) (after_space s) [])

-- 14: a code that is none of the eleven, which are one character each, '!' to '+'
unfoldable pub unknown_code : List ℕ → Bool
unknown_code s = is_printed (get_or s 0 0) && not (leb (get_or s 0 0) 43 && not (is_printed (get_or s 1 0)))

-- in some line of s; whether its first byte begins a line is told
unfoldable pub unknown_from : Bool → List ℕ → Bool
unknown_from starts [] = false
unknown_from starts (b ∷ s) = (starts && unknown_code (code_in (b ∷ s))) || unknown_from (eqb b lf) s

-- the first line is the time's
abbrev pub unknown_in : List ℕ → Bool
unknown_in s = unknown_from false s

-- the bytes before the first LF
unfoldable pub line_size : List ℕ → ℕ
line_size [] = 0
line_size (b ∷ s) = cond (eqb b lf) 0 (suc (line_size s))

-- one character and the code; or `b`, as many characters as the width, one space and the code; and LF
unfoldable pub placed : Variable → List ℕ → Bool
placed x s =
    eqb (line_size s + 1) (size_of x)
    && eqb (get_or s (line_size s) 0) lf
    && eqb (get_or s (line_size s - 1) 0) x.code
    && (eqb x.width 1 || (eqb (get_or s 0 0) 98 && eqb (get_or s (line_size s - 2) 0) space))

-- the first w bytes are bits, and the number that they write after the bits of a
unfoldable pub are_bits : ℕ → List ℕ → Bool
are_bits zero s = true
are_bits (suc w) s = (eqb (get_or s 0 0) 48 || eqb (get_or s 0 0) 49) && are_bits w (drop 1 s)

unfoldable pub binary : ℕ → ℕ → List ℕ → ℕ
binary a zero s = a
binary a (suc w) s = binary (a * 2 + (get_or s 0 0 - 48)) w (drop 1 s)

-- 2 ^ w stands for w characters one of which is no bit
unfoldable pub bits_in : ℕ → List ℕ → ℕ
bits_in w s = cond (are_bits w s) (binary 0 w s) (2 ^ w)

unfoldable pub value_in : Variable → List ℕ → ℕ
value_in x s = bits_in x.width (cond (eqb x.width 1) s (drop 1 s))

-- 3: a repeated value, out of order or twice, missing in cycle 0, a wrong width or kind, a line of no shape, a missing LF
unfoldable pub shaped : Bool → List Variable → List ℕ → List ℕ → Bool
shaped all [] vs s = eqb (length s) 0
shaped all (x ∷ xs) [] s = false
shaped all (x ∷ xs) (v ∷ vs) s =
    cond (placed x s)
    ((all || not (eqb (value_in x s) v)) && shaped all xs vs (drop (size_of x) s))
    (not all && shaped all xs vs s)

unfoldable pub values_in : List Variable → List ℕ → List ℕ → List ℕ
values_in [] vs s = []
values_in (x ∷ xs) [] s = []
values_in (x ∷ xs) (v ∷ vs) s =
    cond (placed x s) (value_in x s ∷ values_in xs vs (drop (size_of x) s)) (v ∷ values_in xs vs s)

-- the cycle of eleven values, in column order
unfoldable pub cycle_of : List ℕ → Cycle
cycle_of vs =
    record {
      inputs = record { hbusreq = get_or vs 0 0; hlock = get_or vs 1 0; hready = get_or vs 2 0; htrans = get_or vs 3 0; hburst = get_or vs 4 0 };
      outputs = record { hgrant = get_or vs 5 0; hmaster = get_or vs 6 0; hmastlock = get_or vs 7 0; decide = get_or vs 8 0; granted = get_or vs 9 0; busreq = get_or vs 10 0 };
    }

-- what stands after the line of the time t
abbrev pub changes_in : ℕ → List ℕ → List ℕ
changes_in t s = drop (length (time_line t)) s

unfoldable pub step_shaped : ℕ → Cycle → List ℕ → Bool
step_shaped t prev s = begins s (time_line t) && shaped (eqb t 0) variables (cycle_values prev) (changes_in t s)

-- 4, 5, 6 and 7 are of the cycle that results
unfoldable pub step_cycle : ℕ → Cycle → List ℕ → Cycle
step_cycle t prev s = cycle_of (values_in variables (cycle_values prev) (changes_in t s))

abbrev pub step_checked : Check → Cycle → ℕ → TraceRead
step_checked (Ok _) c next = Ok (Some (c, next))
step_checked (Err r) c next = Err r

-- the step's text is s, and next is the position after it
unfoldable pub step_in : ℕ → ℕ → Cycle → List ℕ → ℕ → TraceRead
step_in n t prev s next =
    cond (wrong_time t s) (Err refusal.Time)
    (cond (full_time t s) (Err refusal.Full)
    (cond (unknown_in s) (Err refusal.Variable)
    (cond (step_shaped t prev s)
    (step_checked (line_check n (step_cycle t prev s)) (step_cycle t prev s) next)
    (Err refusal.Shape))))

-- at the input's end there is no more, and beyond it nothing
unfoldable pub read_step_of : ℕ → ℕ → Cycle → List ℕ → ℕ → TraceRead
read_step_of n t prev s p =
    cond (masters_ok n)
    (cond (ltb (length s) p) (Err refusal.Shape)
    (cond (eqb p (length s)) (Ok None)
    (step_in n t prev (step_text (drop p s)) (p + length (step_text (drop p s))))))
    (Err refusal.Masters)
