-- The round trips through the writers' answers and the buffers that they leave: what a writer wrote is read, and what was read is written.
-- A writer that refuses everything meets the first and breaks the second. proofs/RoundTrips.antt has the proof of each promise, under the
-- same name in lower case with underscores.
use Rattle.std.specs.Prelude.{ℕ, ◌+◌, ◌≤◌, ◌≡◌, ◌↔◌, List, ◌++◌, length, take, drop, Ok, Some}
use Rattle.rules.specs.declared.Inputs.{Inputs}
use Rattle.rules.specs.declared.Cycle.{Cycle}
use Rattle.formats.specs.declared.Word.{Word}
use Rattle.formats.specs.Answers.{written_answer}
use Rattle.formats.specs.Lines.{read_stimulus_of, read_trace_of, write_stimulus_of, stimulus_written, write_trace_of, trace_written}
use Rattle.formats.specs.Headers.{header, read_header_of, write_header_of, header_written}
use Rattle.formats.specs.Promises.{InRange, ValidInputs, ValidCycle}

-- A writer answers 0 exactly where none of its tests applies: n is 2 to 16, what it writes is valid, and the buffer has room.
pub record WritesTheValid : Type 0 where
  pub header_line : (w : Word) (n room : ℕ)
      → (written_answer (write_header_of w n room) ≡ 0) ↔ (InRange n × (length (header w n) ≤ room))
  pub stimulus_line_lem : (n : ℕ) (x : Inputs) (room : ℕ)
      → (written_answer (write_stimulus_of n x room) ≡ 0) ↔ (InRange n × ValidInputs n x × (16 ≤ room))
  pub trace_line_lem : (n : ℕ) (c : Cycle) (room : ℕ)
      → (written_answer (write_trace_of n c room) ≡ 0) ↔ (InRange n × ValidCycle n c × (31 ≤ room))

-- "A written trace reads back as the same cycles": what a writer wrote into a lent buffer, the reader reads there, whatever stands
-- before the buffer, and goes on after it.
pub record WrittenIsRead : Type 0 where
  pub header_line : (w : Word) (n k : ℕ) (buffer : List ℕ) → write_header_of w n (length buffer) ≡ Ok k
      → read_header_of w (header_written w n buffer) ≡ Ok (n, k)
  pub stimulus_line_lem : (n : ℕ) (x : Inputs) (k : ℕ) (pre buffer : List ℕ) → write_stimulus_of n x (length buffer) ≡ Ok k
      → read_stimulus_of n (pre ++ stimulus_written n x buffer) (length pre) ≡ Ok (Some (x, length pre + k))
  pub trace_line_lem : (n : ℕ) (c : Cycle) (k : ℕ) (pre buffer : List ℕ) → write_trace_of n c (length buffer) ≡ Ok k
      → read_trace_of n (pre ++ trace_written n c buffer) (length pre) ≡ Ok (Some (c, length pre + k))

-- "a trace read and written again has the same bytes": what was read, its writer does not refuse where there is room, and the buffer then
-- begins with the bytes that were read.
pub record ReadIsWritten : Type 0 where
  pub header_line : (w : Word) (s : List ℕ) (n next : ℕ) (buffer : List ℕ) → read_header_of w s ≡ Ok (n, next)
      → next ≤ length buffer
      → (write_header_of w n (length buffer) ≡ Ok next) × (header_written w n buffer ≡ take next s ++ drop next buffer)
  pub stimulus_line_lem : (n : ℕ) (s : List ℕ) (p : ℕ) (x : Inputs) (next : ℕ) (buffer : List ℕ) → read_stimulus_of n s p ≡ Ok (Some (x, next))
      → 16 ≤ length buffer
      → (write_stimulus_of n x (length buffer) ≡ Ok 16) × (stimulus_written n x buffer ≡ take 16 (drop p s) ++ drop 16 buffer)
  pub trace_line_lem : (n : ℕ) (s : List ℕ) (p : ℕ) (c : Cycle) (next : ℕ) (buffer : List ℕ) → read_trace_of n s p ≡ Ok (Some (c, next))
      → 31 ≤ length buffer
      → (write_trace_of n c (length buffer) ≡ Ok 31) × (trace_written n c buffer ≡ take 31 (drop p s) ++ drop 31 buffer)
