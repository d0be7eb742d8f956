-- The promises of the formats, one type for each, beside the page's sentence. proofs/Promises.antt has the proof of each, under
-- the same name in lower case with underscores.
--
-- The notions that they use:
--   header_answer, stimulus_answer, trace_answer, written_answer == the number of an answer (specs/Answers.antt)
--   InRange n     == n is from 2 to 16
--   Each P l      == every element of l has P
--   ValidInputs n x, ValidCycle n c == none of the tests 4 to 7 applies
--   NoHex b       == the byte b is the character of no hex digit
--   NoDigit w s p == some of the w characters at p is no hex digit
--   Unread fs s p == some character of a field of the line at p is no hex digit
--   read_on v l   == the number that the decimal digits v and then l write
--   InDecimal v l == l is the number v in decimal, with no leading zero
--   OneLine l     == the bytes l are one line: LF ends it, and stands nowhere else
--   Writes l buffer a after == a writer of the bytes l answers a and leaves `after` in the buffer
use Rattle.std.specs.Prelude.{ℕ, ◌+◌, ◌-◌, ◌*◌, ◌^◌, ◌≤◌, ◌<◌, ◌≡◌, ◌⊎◌, ◌↔◌, true, List, [], ◌∷◌, ◌++◌, map, length, get_or, take, drop, Err, None, Ok, Some}
use Rattle.rules.specs.declared.Refusal.{Refusal}
use Rattle.rules.specs.declared.Refusal.TheVariants as refusal
use Rattle.rules.specs.declared.Inputs.{Inputs}
use Rattle.rules.specs.declared.Cycle.{Cycle}
use Rattle.rules.specs.Refusals.{number_of}
use Rattle.rules.specs.Codes.{fewest_masters, most_masters}
use Rattle.rules.specs.Valid.{inputs_check, cycle_check}
use Rattle.rulebook.specs.declared.Rule.{Rule}
use Rattle.rulebook.specs.Rules.{rules}
use Rattle.formats.specs.declared.Word.{Word}
use Rattle.formats.specs.declared.Word.TheVariants.{Stim, Trace}
use Rattle.formats.specs.Results.{HeaderRead, StimulusRead, TraceRead, Written}
use Rattle.formats.specs.Answers.{header_answer, stimulus_answer, stimulus_ends, trace_answer, trace_ends, written_answer}
use Rattle.formats.specs.Digits.{lf, hex_char, number_at, decimal}
use Rattle.formats.specs.Fields.{Field}
use Rattle.formats.specs.Lines.{whole, place, stimulus_fields, trace_fields, stimulus_line, trace_line, read_stimulus_of, read_trace_of, write_stimulus_of, stimulus_written, write_trace_of, trace_written}
use Rattle.formats.specs.Headers.{prefix, header, is_decimal, read_header_of, write_header_of, header_written}
use Rattle.formats.specs.Report.{rule_name, breach_line, end_line, refused_line, write_of, written_of}
use Rattle.formats.specs.Files.{complete, refused_at, stimulus_file, trace_file, read_stimulus_file, read_trace_file}
use Rattle.formats.specs.Texts.{bytes, numbers, heads, names, printed}

pub record InRange (n : ℕ) : Type 0 where
  pub few : fewest_masters ≤ n
  pub many : n ≤ most_masters

abbrev pub Each : {A : Type 0} → (A → Type 0) → List A → Type 0
Each P [] = Unit
Each P (a ∷ l) = P a × Each P l

abbrev pub ValidInputs : ℕ → Inputs → Type 0
ValidInputs n x = inputs_check n x ≡ Ok tt

abbrev pub ValidCycle : ℕ → Cycle → Type 0
ValidCycle n c = cycle_check n c ≡ Ok tt

-- "Every refusal returns its number", and no other answer has it.
pub record RefusedByNumber : Type 0 where
  pub header_read : (a : HeaderRead) (r : Refusal) → (header_answer a ≡ number_of r) ↔ (a ≡ Err r)
  pub stimulus_read_lem : (a : StimulusRead) (r : Refusal) → (stimulus_answer a ≡ number_of r) ↔ (a ≡ Err r)
  pub trace_read_lem : (a : TraceRead) (r : Refusal) → (trace_answer a ≡ number_of r) ↔ (a ≡ Err r)
  pub line_written : (a : Written) (r : Refusal) → (written_answer a ≡ number_of r) ↔ (a ≡ Err r)

-- Lines.
-- "A stimulus line has .. 16 bytes. A trace line adds ..: 31 bytes."
pub record LineLengths : Type 0 where
  pub stimulus_line_lem : (x : Inputs) → length (stimulus_line x) ≡ 16
  pub trace_line_lem : (c : Cycle) → length (trace_line c) ≡ 31

-- A written line reads back as the same cycle, wherever it stands in an input, and the next position is after it.
abbrev pub WrittenStimulusLineReads : Type 0
WrittenStimulusLineReads =
    (n : ℕ) (x : Inputs) (pre post : List ℕ) → InRange n → ValidInputs n x
    → read_stimulus_of n (pre ++ (stimulus_line x ++ post)) (length pre) ≡ Ok (Some (x, length pre + 16))

abbrev pub WrittenTraceLineReads : Type 0
WrittenTraceLineReads =
    (n : ℕ) (c : Cycle) (pre post : List ℕ) → InRange n → ValidCycle n c
    → read_trace_of n (pre ++ (trace_line c ++ post)) (length pre) ≡ Ok (Some (c, length pre + 31))

-- A line read and written again has the same bytes; only a valid line is read.
abbrev pub ReadStimulusLineWrites : Type 0
ReadStimulusLineWrites =
    (n : ℕ) (s : List ℕ) (p : ℕ) (x : Inputs) (next : ℕ) → read_stimulus_of n s p ≡ Ok (Some (x, next))
    → InRange n × ValidInputs n x × (next ≡ p + 16) × (stimulus_line x ≡ take 16 (drop p s))

abbrev pub ReadTraceLineWrites : Type 0
ReadTraceLineWrites =
    (n : ℕ) (s : List ℕ) (p : ℕ) (c : Cycle) (next : ℕ) → read_trace_of n s p ≡ Ok (Some (c, next))
    → InRange n × ValidCycle n c × (next ≡ p + 31) × (trace_line c ≡ take 31 (drop p s))

-- "Reading a line at a position equal to the input's length answers "no more lines", once n is tested; that is no refusal." No other reading does.
pub record NoMoreAtTheEnd : Type 0 where
  pub stimulus_line_lem : (n : ℕ) (s : List ℕ) → InRange n → read_stimulus_of n s (length s) ≡ Ok None
  pub trace_line_lem : (n : ℕ) (s : List ℕ) → InRange n → read_trace_of n s (length s) ≡ Ok None
  pub stimulus_only : (n : ℕ) (s : List ℕ) (p : ℕ) → stimulus_ends (read_stimulus_of n s p) ≡ true → InRange n × (p ≡ length s)
  pub trace_only : (n : ℕ) (s : List ℕ) (p : ℕ) → trace_ends (read_trace_of n s p) ≡ true → InRange n × (p ≡ length s)

-- "hex is lower case"
abbrev pub NoHex : ℕ → Type 0
NoHex b = (d : ℕ) → d < 16 → hex_char d ≡ b → ⊥

pub record NoDigit (w : ℕ) (s : List ℕ) (p : ℕ) : Type 0 where
  pub at : ℕ
  pub there : at < w
  pub none : NoHex (get_or s (p + at) 0)

-- 16 ^ w stands for w characters exactly when some of them is no hex digit.
abbrev pub TopIsNoDigit : Type 0
TopIsNoDigit = (w : ℕ) (s : List ℕ) (p : ℕ) → (number_at w s p ≡ 16 ^ w) ↔ NoDigit w s p

abbrev pub Unread : List Field → List ℕ → ℕ → Type 0
Unread [] s p = ⊥
Unread (f ∷ fs) s p = NoDigit f.digits s p ⊎ Unread fs s (p + (f.digits + 1))

-- 4: "a character its field doesn't allow". In HMASTER too, where a digit from n on is 7.
pub record BadCharacterRefused : Type 0 where
  pub stimulus_line_lem : (n : ℕ) (s : List ℕ) (p : ℕ) → InRange n → place stimulus_fields s p ≡ whole → Unread stimulus_fields s p
      → read_stimulus_of n s p ≡ Err refusal.Value
  pub trace_line_lem : (n : ℕ) (s : List ℕ) (p : ℕ) → InRange n → place trace_fields s p ≡ whole → Unread trace_fields s p
      → read_trace_of n s p ≡ Err refusal.Value

-- Headers.
-- A written header reads back, whatever follows it; a header read and written again has the same bytes.
abbrev pub WrittenHeaderReads : Type 0
WrittenHeaderReads =
    (w : Word) (n : ℕ) (rest : List ℕ) → InRange n
    → read_header_of w (header w n ++ rest) ≡ Ok (n, length (header w n))

abbrev pub ReadHeaderWrites : Type 0
ReadHeaderWrites =
    (w : Word) (s : List ℕ) (n next : ℕ) → read_header_of w s ≡ Ok (n, next)
    → InRange n × (next ≡ length (header w n)) × (header w n ≡ take next s)

abbrev pub other_than : Word → Word
other_than Stim = Trace
other_than Trace = Stim

-- 2: "the header has .. the other word (`stim` for `trace`)"
abbrev pub OtherWordRefused : Type 0
OtherWordRefused =
    (w : Word) (n : ℕ) (rest : List ℕ) → read_header_of (other_than w) (header w n ++ rest) ≡ Err refusal.Header

-- The tables of specs/Texts.antt.
pub record HeaderShapes : Type 0 where
  pub after_the_word : (w : Word)
      → map (λ r. header_answer (read_header_of w (prefix w ++ bytes r.text))) numbers ≡ map (λ r. r.answer) numbers
  pub of_a_trace : map (λ r. header_answer (read_header_of Trace (bytes r.text))) heads ≡ map (λ r. r.answer) heads

-- Whole files.
-- "A written trace reads back as the same cycles; a trace read and written again has the same bytes." So does a stimulus.
abbrev pub WrittenTraceReads : Type 0
WrittenTraceReads =
    (n : ℕ) (cs : List Cycle) → InRange n → Each (ValidCycle n) cs → read_trace_file (trace_file n cs) ≡ complete n cs

abbrev pub ReadTraceWrites : Type 0
ReadTraceWrites =
    (s : List ℕ) (n : ℕ) (cs : List Cycle) → read_trace_file s ≡ complete n cs
    → InRange n × Each (ValidCycle n) cs × (trace_file n cs ≡ s)

abbrev pub WrittenStimulusReads : Type 0
WrittenStimulusReads =
    (n : ℕ) (xs : List Inputs) → InRange n → Each (ValidInputs n) xs → read_stimulus_file (stimulus_file n xs) ≡ complete n xs

abbrev pub ReadStimulusWrites : Type 0
ReadStimulusWrites =
    (s : List ℕ) (n : ℕ) (xs : List Inputs) → read_stimulus_file s ≡ complete n xs
    → InRange n × Each (ValidInputs n) xs × (stimulus_file n xs ≡ s)

-- "line number (header is 1)": what is refused after the header and k valid lines is refused at line k + 2.
pub record RefusedAtItsLine : Type 0 where
  pub stimulus_header : (s : List ℕ) (r : Refusal) → read_header_of Stim s ≡ Err r → read_stimulus_file s ≡ refused_at 1 r
  pub trace_header : (s : List ℕ) (r : Refusal) → read_header_of Trace s ≡ Err r → read_trace_file s ≡ refused_at 1 r
  pub stimulus_line_lem : (n : ℕ) (xs : List Inputs) (rest : List ℕ) (r : Refusal) → InRange n → Each (ValidInputs n) xs
      → read_stimulus_of n (stimulus_file n xs ++ rest) (length (stimulus_file n xs)) ≡ Err r
      → read_stimulus_file (stimulus_file n xs ++ rest) ≡ refused_at (length xs + 2) r
  pub trace_line_lem : (n : ℕ) (cs : List Cycle) (rest : List ℕ) (r : Refusal) → InRange n → Each (ValidCycle n) cs
      → read_trace_of n (trace_file n cs ++ rest) (length (trace_file n cs)) ≡ Err r
      → read_trace_file (trace_file n cs ++ rest) ≡ refused_at (length cs + 2) r

-- Numbers and lines of the report.
unfoldable pub read_on : ℕ → List ℕ → ℕ
read_on v [] = v
read_on v (b ∷ l) = read_on (v * 10 + (b - 48)) l

pub record InDecimal (v : ℕ) (l : List ℕ) : Type 0 where
  pub digits : Each (λ b. is_decimal b ≡ true) l
  pub some : 0 < length l
  pub few : length l ≤ 10
  pub zero_alone : v ≡ 0 → l ≡ 48 ∷ []
  pub no_leading_zero : 0 < v → get_or l 0 0 ≡ 48 → ⊥
  pub reads : read_on 0 l ≡ v

-- "Cycles count from 0, in decimal." No count of a run comes to ten digits.
abbrev pub CountsInDecimal : Type 0
CountsInDecimal = (v : ℕ) → v < 10 ^ 10 → InDecimal v (decimal v)

pub record OneLine (l : List ℕ) : Type 0 where
  pub body : List ℕ
  pub ends : l ≡ body ++ (lf ∷ [])
  pub plain : Each (λ b. b ≡ lf → ⊥) body

-- "LF ends a line"
pub record LinesEnd : Type 0 where
  pub header_line : (w : Word) (n : ℕ) → OneLine (header w n)
  pub stimulus_line_lem : (x : Inputs) → OneLine (stimulus_line x)
  pub trace_line_lem : (c : Cycle) → OneLine (trace_line c)
  pub breach_line_lem : (t : ℕ) (r : Rule) → OneLine (breach_line t r)
  pub end_line_lem : (cycles breaches : ℕ) → OneLine (end_line cycles breaches)
  pub refused_line_lem : (line : ℕ) (r : Refusal) → OneLine (refused_line line r)

-- Two equal lines of the report say the same; the refusal numbers differ.
pub record ReportTells : Type 0 where
  pub breach_line_lem : (t u : ℕ) (q r : Rule) → t < 10 ^ 10 → u < 10 ^ 10
      → breach_line t q ≡ breach_line u r → (t ≡ u) × (q ≡ r)
  pub end_line_lem : (k l b c : ℕ) → k < 10 ^ 10 → l < 10 ^ 10 → b < 10 ^ 10 → c < 10 ^ 10
      → end_line k b ≡ end_line l c → (k ≡ l) × (b ≡ c)
  pub refused_line_lem : (k l : ℕ) (q r : Refusal) → k < 10 ^ 10 → l < 10 ^ 10
      → refused_line k q ≡ refused_line l r → (k ≡ l) × (q ≡ r)
  pub refusals : (q r : Refusal) → number_of q ≡ number_of r → q ≡ r

-- The rules have the page's names, and printed lines its bytes (specs/Texts.antt).
pub record PrintedAsText : Type 0 where
  pub rule_names : map rule_name rules ≡ map bytes names
  pub lines : map (λ r. r.line) printed ≡ map (λ r. bytes r.shown) printed

-- Lent buffers.
pub record Writes (l buffer : List ℕ) (answer : Written) (after : List ℕ) : Type 0 where
  pub same_length : length after ≡ length buffer
  pub refused : (written_answer answer ≡ 0 → ⊥) → after ≡ buffer
  pub done : written_answer answer ≡ 0 → (answer ≡ Ok (length l)) × (after ≡ l ++ drop (length l) buffer)

-- "Every refusal returns its number ..; no lent byte changes." So nothing has changed where the number is not 0; where it is 0, what
-- is written stands at the start, and the rest is as it was.
pub record BuffersKept : Type 0 where
  pub header_line : (w : Word) (n : ℕ) (buffer : List ℕ)
      → Writes (header w n) buffer (write_header_of w n (length buffer)) (header_written w n buffer)
  pub stimulus_line_lem : (n : ℕ) (x : Inputs) (buffer : List ℕ)
      → Writes (stimulus_line x) buffer (write_stimulus_of n x (length buffer)) (stimulus_written n x buffer)
  pub trace_line_lem : (n : ℕ) (c : Cycle) (buffer : List ℕ)
      → Writes (trace_line c) buffer (write_trace_of n c (length buffer)) (trace_written n c buffer)
  pub report_line : (l buffer : List ℕ) → Writes l buffer (write_of l (length buffer)) (written_of l buffer)
