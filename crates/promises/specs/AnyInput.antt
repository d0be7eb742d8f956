-- The promises over every input whatever: it has exactly one of three forms, and what a program writes is said of each.
--
-- The header is refused; or good lines stand after it and the line after them is refused; or the input is valid to its end.
-- proofs/AnyInput.antt has the proof of each promise, under the same name in lower case with underscores.
--
--   Kind A           == a kind of file with lines of A: its word, the bytes of a line, the reader of a line, and the test of a line for n
--   traces, stimuli  == the two kinds
--   file_for K n l   == the file of the header with n and the lines l
--   Begins K s n l rest == the input s is such a file with good lines, no more than a run may have, and then the rest
--   Form A           == a form of an input: its refusal, or its n and its good lines, and the refusal after them if there is one
--   Stops a k r      == after k good lines, what the reader found is refused by r
--   Has K s f        == the input s has the form f
--   OneForm K        == every input has exactly one form
--   Numbers K        == which numbers the refusals of a form have
--   report_on f      == what the judging program writes for an input of that form
--   TraceAnd n xs last out == out is the trace of the run from reset over the inputs xs, and then the bytes last
--   Arbitrated f out == out is what the arbiter program writes for an input of that form
use Rattle.std.specs.Prelude.{ℕ, ◌+◌, ◌≤◌, ◌<◌, ◌≡◌, ◌⊎◌, List, [], ◌++◌, length, Err, Ok}
use Rattle.rules.specs.declared.Refusal.{Refusal}
use Rattle.rules.specs.declared.Refusal.TheVariants as refusal
use Rattle.rules.specs.Results.{Check}
use Rattle.rules.specs.declared.State.{State}
use Rattle.rules.specs.declared.Inputs.{Inputs}
use Rattle.rules.specs.declared.Cycle.{Cycle}
use Rattle.rules.specs.Refusals.{number_of}
use Rattle.rules.specs.Codes.{most_cycles}
use Rattle.rules.specs.Valid.{inputs_check, cycle_check}
use Rattle.rules.specs.State.{reset_of}
use Rattle.rulebook.specs.Promises.{broken_report, broken_count}
use Rattle.formats.specs.declared.Word.{Word}
use Rattle.formats.specs.declared.Word.TheVariants.{Stim, Trace}
use Rattle.formats.specs.Lines.{stimulus_line, trace_line, read_stimulus_of, read_trace_of}
use Rattle.formats.specs.Headers.{header, read_header_of}
use Rattle.formats.specs.Files.{lines_of, trace_file, stimulus_file, Line, one, no_more, refused, as_stimulus, as_trace}
use Rattle.formats.specs.Report.{end_line, refused_line}
use Rattle.formats.specs.Promises.{InRange, Each, ValidInputs, ValidCycle}
use Rattle.streams.specs.Arbiter.{arbiter_program}
use Rattle.streams.specs.Judging.{judge_program}
use Rattle.promises.specs.Machines.{arbiter}
use Rattle.promises.specs.Runs.{Run, trace_of}
use Rattle.promises.specs.Programs.{report_from}

pub record Kind (A : Type 0) : Type 0 where
  pub word : Word
  pub line : A → List ℕ
  pub read : ℕ → List ℕ → ℕ → Line A
  pub check : ℕ → A → Check

abbrev pub traces : Kind Cycle
traces =
    record { word = Trace; line = trace_line; read = λ n s p. as_trace (read_trace_of n s p); check = cycle_check }

abbrev pub stimuli : Kind Inputs
stimuli =
    record { word = Stim; line = stimulus_line; read = λ n s p. as_stimulus (read_stimulus_of n s p); check = inputs_check }

pub data Form (A : Type 0) : Type 0 where
  no_header : Refusal → Form A
  cut_after : ℕ → List A → Refusal → Form A
  whole : ℕ → List A → Form A

-- "The first test that applies, in the order given here, answers. .. A program reads a line before it steps": a reader's refusal, and 8 for
-- a good line where "the count is 1,000,000 already". No more lines is no refusal.
abbrev pub Stops : {A : Type 0} → Line A → ℕ → Refusal → Type 0
Stops (one a next) k r = (k ≡ most_cycles) × (r ≡ refusal.Full)
Stops no_more k r = ⊥
Stops (refused q) k r = r ≡ q

module _ {A : Type 0} (K : Kind A) where
  abbrev pub file_for : ℕ → List A → List ℕ
  file_for n l = header K.word n ++ lines_of K.line l

  pub record Begins (s : List ℕ) (n : ℕ) (l : List A) (rest : List ℕ) : Type 0 where
    pub masters : InRange n
    pub good : Each (λ a. K.check n a ≡ Ok tt) l
    pub room : length l ≤ most_cycles
    pub bytes : s ≡ file_for n l ++ rest

  abbrev pub Has : List ℕ → Form A → Type 0
  Has s (no_header r) = read_header_of K.word s ≡ Err r
  Has s (cut_after n l r) =
      (rest : List ℕ) × Begins s n l rest × Stops (K.read n s (length (file_for n l))) (length l) r
  Has s (whole n l) = Begins s n l []

  -- every input has exactly one form
  abbrev pub OneForm : Type 0
  OneForm = (s : List ℕ) → (f : Form A) × Has s f × ((g : Form A) → Has s g → g ≡ f)

  -- "Reading a header: 2, 1", "Reading a line: 1, 3, 4, 5, 6, 7", of which 1 is given for no header that was accepted; and 8
  pub record Numbers : Type 0 where
    pub of_a_header : (s : List ℕ) (r : Refusal) → Has s (no_header r) → (number_of r ≡ 2) ⊎ (number_of r ≡ 1)
    pub of_a_line : (s : List ℕ) (n : ℕ) (l : List A) (r : Refusal) → Has s (cut_after n l r) → (3 ≤ number_of r) × (number_of r ≤ 8)

pub record EveryInputHasOneForm : Type 0 where
  pub of_traces : OneForm traces
  pub of_stimuli : OneForm stimuli

pub record RefusedByItsNumber : Type 0 where
  pub in_traces : Numbers traces
  pub in_stimuli : Numbers stimuli

-- "On a refusal the programs write `refused`, tab, line number (header is 1), tab, refusal number, LF, and stop: the judge's in place of the
-- end line". The line after k good ones is line k + 2, and their breaches stand before it.
abbrev pub report_on : Form Cycle → List ℕ
report_on (no_header r) = refused_line 1 r
report_on (cut_after n cs r) = report_from 0 (broken_report n cs) ++ refused_line (length cs + 2) r
report_on (whole n cs) = report_from 0 (broken_report n cs) ++ end_line (length cs) (broken_count n cs)

abbrev pub JudgesAnyInput : Type 0
JudgesAnyInput = (s : List ℕ) (f : Form Cycle) → Has traces s f → judge_program s ≡ report_on f

pub record TraceAnd (n : ℕ) (xs : List Inputs) (last out : List ℕ) : Type 0 where
  pub first : State
  pub end : State
  pub began : reset_of n ≡ Ok first
  pub run : Run arbiter first xs end
  pub writes : out ≡ trace_file n (trace_of run) ++ last

-- "the arbiter's after the lines already written"
abbrev pub Arbitrated : Form Inputs → List ℕ → Type 0
Arbitrated (no_header r) out = out ≡ refused_line 1 r
Arbitrated (cut_after n xs r) out = TraceAnd n xs (refused_line (length xs + 2) r) out
Arbitrated (whole n xs) out = TraceAnd n xs [] out

abbrev pub ArbitratesAnyInput : Type 0
ArbitratesAnyInput = (s : List ℕ) (f : Form Inputs) → Has stimuli s f → Arbitrated f (arbiter_program s)

-- "At most 1,000,000 cycles a run": after as many good lines, one good line more is 8 at line 1,000,002, and a line that is cut, be it one
-- stray byte, is 3 there.
pub record AtTheLimit : Type 0 where
  pub judge_full : (n : ℕ) (cs : List Cycle) (c : Cycle) (rest : List ℕ) → InRange n → Each (ValidCycle n) cs → ValidCycle n c → length cs ≡ most_cycles
      → judge_program (trace_file n cs ++ (trace_line c ++ rest)) ≡ report_from 0 (broken_report n cs) ++ refused_line 1000002 refusal.Full
  pub judge_stray : (n : ℕ) (cs : List Cycle) (rest : List ℕ) → InRange n → Each (ValidCycle n) cs → length cs ≡ most_cycles
      → 0 < length rest → length rest < 31
      → judge_program (trace_file n cs ++ rest) ≡ report_from 0 (broken_report n cs) ++ refused_line 1000002 refusal.Shape
  pub arbiter_full : (n : ℕ) (xs : List Inputs) (x : Inputs) (rest : List ℕ) → InRange n → Each (ValidInputs n) xs → ValidInputs n x → length xs ≡ most_cycles
      → TraceAnd n xs (refused_line 1000002 refusal.Full) (arbiter_program (stimulus_file n xs ++ (stimulus_line x ++ rest)))
  pub arbiter_stray : (n : ℕ) (xs : List Inputs) (rest : List ℕ) → InRange n → Each (ValidInputs n) xs → length xs ≡ most_cycles
      → 0 < length rest → length rest < 16
      → TraceAnd n xs (refused_line 1000002 refusal.Shape) (arbiter_program (stimulus_file n xs ++ rest))
