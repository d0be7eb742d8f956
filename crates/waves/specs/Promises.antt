-- The promises of a dump, one type for each, beside the sentence that it stands for. proofs/Promises.antt has the proof of each, under
-- the same name in lower case with underscores.
--
--   Ends s             == a step ends before s: nothing follows it, or a line that begins with `#`
use Rattle.std.specs.Prelude.{ℕ, ◌+◌, ◌≤◌, ◌<◌, ◌≡◌, ◌⊎◌, ◌↔◌, List, [], ◌++◌, length, get_or, take, drop, Ok, Some}
use Rattle.rules.specs.declared.Cycle.{Cycle}
use Rattle.rules.specs.Codes.{most_cycles}
use Rattle.formats.specs.Answers.{written_answer}
use Rattle.formats.specs.Files.{complete}
use Rattle.formats.specs.Promises.{InRange, Each, ValidCycle}
use Rattle.waves.specs.Header.{dump_header, read_dump_header_of, write_dump_header_of, dump_header_written}
use Rattle.waves.specs.Steps.{hash, dump_step, write_step_of, step_written}
use Rattle.waves.specs.Reading.{read_step_of}
use Rattle.waves.specs.Files.{dump, read_dump}

-- a step goes on up to the next line that begins with `#`, or the end of the input
abbrev pub Ends : List ℕ → Type 0
Ends s = (s ≡ []) ⊎ (get_or s 0 0 ≡ hash)

-- a longest good step has 104 bytes
abbrev pub StepsAreShort : Type 0
StepsAreShort = (prev : Cycle) (t : ℕ) (c : Cycle) → t < most_cycles → length (dump_step prev t c) ≤ 104

-- A step: "Both round trips of demand 2 hold for it." Whatever the cycle before is.
abbrev pub WrittenStepReads : Type 0
WrittenStepReads =
    (n t : ℕ) (prev c : Cycle) (pre post : List ℕ) → InRange n → t < most_cycles → ValidCycle n c → Ends post
    → read_step_of n t prev (pre ++ (dump_step prev t c ++ post)) (length pre) ≡ Ok (Some (c, length pre + length (dump_step prev t c)))

pub record StepIs (n t : ℕ) (prev : Cycle) (s : List ℕ) (p : ℕ) (c : Cycle) (next : ℕ) : Type 0 where
  pub masters : InRange n
  pub time : t < most_cycles
  pub valid : ValidCycle n c
  pub after : next ≡ p + length (dump_step prev t c)
  pub inside : next ≤ length s
  pub bytes : dump_step prev t c ≡ take (length (dump_step prev t c)) (drop p s)
  pub ends : Ends (drop next s)

abbrev pub ReadStepWrites : Type 0
ReadStepWrites =
    (n t : ℕ) (prev : Cycle) (s : List ℕ) (p : ℕ) (c : Cycle) (next : ℕ) → read_step_of n t prev s p ≡ Ok (Some (c, next))
    → StepIs n t prev s p c next

-- A header.
abbrev pub WrittenDumpHeaderReads : Type 0
WrittenDumpHeaderReads =
    (n : ℕ) (rest : List ℕ) → InRange n → read_dump_header_of (dump_header n ++ rest) ≡ Ok (n, length (dump_header n))

abbrev pub ReadDumpHeaderWrites : Type 0
ReadDumpHeaderWrites =
    (s : List ℕ) (n next : ℕ) → read_dump_header_of s ≡ Ok (n, next)
    → InRange n × (next ≡ length (dump_header n)) × (dump_header n ≡ take next s)

-- Whole dumps, of at most 1,000,000 cycles.
abbrev pub WrittenDumpReads : Type 0
WrittenDumpReads =
    (n : ℕ) (cs : List Cycle) → InRange n → Each (ValidCycle n) cs → length cs ≤ most_cycles → read_dump (dump n cs) ≡ complete n cs

abbrev pub ReadDumpWrites : Type 0
ReadDumpWrites =
    (s : List ℕ) (n : ℕ) (cs : List Cycle) → read_dump s ≡ complete n cs
    → InRange n × Each (ValidCycle n) cs × (length cs ≤ most_cycles) × (dump n cs ≡ s)

-- A writer answers 0 exactly where none of its tests applies.
pub record WritesTheValid : Type 0 where
  pub header : (n room : ℕ) → (written_answer (write_dump_header_of n room) ≡ 0) ↔ (InRange n × (length (dump_header n) ≤ room))
  pub step : (n t : ℕ) (prev c : Cycle) (room : ℕ)
      → (written_answer (write_step_of n t prev c room) ≡ 0) ↔ (InRange n × (t < most_cycles) × ValidCycle n c × (length (dump_step prev t c) ≤ room))

-- "no lent byte changes": what a refused writer leaves is the buffer as it was.
pub record BuffersKept : Type 0 where
  pub header : (n : ℕ) (buffer : List ℕ) → (written_answer (write_dump_header_of n (length buffer)) ≡ 0 → ⊥) → dump_header_written n buffer ≡ buffer
  pub step : (n t : ℕ) (prev c : Cycle) (buffer : List ℕ) → (written_answer (write_step_of n t prev c (length buffer)) ≡ 0 → ⊥)
      → step_written n t prev c buffer ≡ buffer

-- What a writer wrote into a lent buffer is read there; what was read is written, where there is room.
pub record WrittenIsRead : Type 0 where
  pub header : (n k : ℕ) (buffer : List ℕ) → write_dump_header_of n (length buffer) ≡ Ok k
      → read_dump_header_of (dump_header_written n buffer) ≡ Ok (n, k)
  pub step : (n t : ℕ) (prev c : Cycle) (k : ℕ) (pre buffer : List ℕ) → write_step_of n t prev c (length buffer) ≡ Ok k → Ends (drop k buffer)
      → read_step_of n t prev (pre ++ step_written n t prev c buffer) (length pre) ≡ Ok (Some (c, length pre + k))

pub record ReadIsWritten : Type 0 where
  pub header : (s : List ℕ) (n next : ℕ) (buffer : List ℕ) → read_dump_header_of s ≡ Ok (n, next) → next ≤ length buffer
      → (write_dump_header_of n (length buffer) ≡ Ok next) × (dump_header_written n buffer ≡ take next s ++ drop next buffer)
  pub step : (n t : ℕ) (prev : Cycle) (s : List ℕ) (p : ℕ) (c : Cycle) (k : ℕ) (buffer : List ℕ)
      → read_step_of n t prev s p ≡ Ok (Some (c, p + k)) → k ≤ length buffer
      → (write_step_of n t prev c (length buffer) ≡ Ok k) × (step_written n t prev c buffer ≡ take k (drop p s) ++ drop k buffer)
