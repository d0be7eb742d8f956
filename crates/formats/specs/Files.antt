-- Whole files: a header and its lines, written and read.
--
--   stimulus_file n xs, trace_file n cs == the bytes of a file
--   read_stimulus_file s, read_trace_file s == what reading a file from its start to its end finds
--   lines_from read k p                 == the lines that a reader finds from p on
use Rattle.std.specs.Prelude.{ℕ, zero, suc, ◌+◌, List, [], ◌∷◌, ◌++◌, length, Err, None, Ok, Some}
use Rattle.rules.specs.declared.Refusal.{Refusal}
use Rattle.rules.specs.declared.Inputs.{Inputs}
use Rattle.rules.specs.declared.Cycle.{Cycle}
use Rattle.formats.specs.declared.Word.TheVariants.{Stim, Trace}
use Rattle.formats.specs.Results.{HeaderRead, StimulusRead, TraceRead}
use Rattle.formats.specs.Lines.{stimulus_line, trace_line, read_stimulus_of, read_trace_of}
use Rattle.formats.specs.Headers.{header, read_header_of}

-- lines one after the other
module _ {A : Type 0} (line : A → List ℕ) where
  unfoldable pub lines_of : List A → List ℕ
  lines_of [] = []
  lines_of (a ∷ l) = line a ++ lines_of l

abbrev pub stimulus_file : ℕ → List Inputs → List ℕ
stimulus_file n xs = header Stim n ++ lines_of stimulus_line xs

abbrev pub trace_file : ℕ → List Cycle → List ℕ
trace_file n cs = header Trace n ++ lines_of trace_line cs

-- what reading at a position finds, of stimulus lines and trace lines alike
pub data Line (A : Type 0) : Type 0 where
  one : A → ℕ → Line A
  no_more : Line A
  refused : Refusal → Line A

abbrev pub as_stimulus : StimulusRead → Line Inputs
as_stimulus (Ok (Some (x, next))) = one x next
as_stimulus (Ok None) = no_more
as_stimulus (Err r) = refused r

abbrev pub as_trace : TraceRead → Line Cycle
as_trace (Ok (Some (c, next))) = one c next
as_trace (Ok None) = no_more
as_trace (Err r) = refused r

-- lines that end, or that stop at a refusal after some of them
pub data Lines (A : Type 0) : Type 0 where
  ended : List A → Lines A
  stopped : List A → Refusal → Lines A

abbrev pub before : {A : Type 0} → A → Lines A → Lines A
before a (ended l) = ended (a ∷ l)
before a (stopped l r) = stopped (a ∷ l) r

abbrev pub onward : {A : Type 0} → Line A → (ℕ → Lines A) → Lines A
onward (one a next) more = before a (more next)
onward no_more more = ended []
onward (refused r) more = stopped [] r

-- the lines from p on, at most k of them: a line has bytes, so as many steps as the input has bytes come to its end
unfoldable pub lines_from : {A : Type 0} → (ℕ → Line A) → ℕ → ℕ → Lines A
lines_from read zero p = ended []
lines_from read (suc k) p = onward (read p) (lines_from read k)

-- a file that reads to its end, with its n and what it holds; or the line of its refusal, the header being line 1
pub data File (A : Type 0) : Type 0 where
  complete : ℕ → List A → File A
  refused_at : ℕ → Refusal → File A

abbrev pub file_of : {A : Type 0} → ℕ → Lines A → File A
file_of n (ended l) = complete n l
file_of n (stopped l r) = refused_at (length l + 2) r

abbrev pub after_header : {A : Type 0} → HeaderRead → (ℕ → ℕ → Lines A) → File A
after_header (Ok (n, p)) lines = file_of n (lines n p)
after_header (Err r) lines = refused_at 1 r

unfoldable pub read_stimulus_file : List ℕ → File Inputs
read_stimulus_file s =
    after_header (read_header_of Stim s) (λ n p. lines_from (λ q. as_stimulus (read_stimulus_of n s q)) (suc (length s)) p)

unfoldable pub read_trace_file : List ℕ → File Cycle
read_trace_file s =
    after_header (read_header_of Trace s) (λ n p. lines_from (λ q. as_trace (read_trace_of n s q)) (suc (length s)) p)
