-- Each refusal of a reader and of a writer by its number, each order of tests, and beside them the neighbours that are taken, as one table.
-- n = 3 and the line of cycle 3 of the page's run, or its first five fields, unless said.
--
--   Call    == a reader at a position of a text, or a writer into a buffer of a length
--   heard c == the number that the definitions answer
--   asked   == calls, each with the number that the page gives it
--   table   == the two agree (proofs/Refused.antt)
use Rattle.std.specs.Prelude.{ℕ, List, [], ◌∷◌}
use Prim.Native.String.{String}
use Rattle.rules.specs.declared.Inputs.{Inputs}
use Rattle.rules.specs.declared.Outputs.{Outputs}
use Rattle.formats.specs.declared.Word.{Word}
use Rattle.formats.specs.declared.Word.TheVariants.{Stim, Trace}
use Rattle.formats.specs.Answers.{stimulus_answer, trace_answer, written_answer}
use Rattle.formats.specs.Lines.{read_stimulus_of, read_trace_of, write_stimulus_of, write_trace_of}
use Rattle.formats.specs.Headers.{write_header_of}
use Rattle.formats.specs.Texts.{bytes}

pub data Call : Type 0 where
  -- n, the text, the position
  stimulus_in : ℕ → String → ℕ → Call
  trace_in : ℕ → String → ℕ → Call
  -- n, what is written, the room
  stimulus_out : ℕ → Inputs → ℕ → Call
  trace_out : ℕ → Inputs → Outputs → ℕ → Call
  header_out : Word → ℕ → ℕ → Call

unfoldable pub heard : Call → ℕ
heard (stimulus_in n text p) = stimulus_answer (read_stimulus_of n (bytes text) p)
heard (trace_in n text p) = trace_answer (read_trace_of n (bytes text) p)
heard (stimulus_out n x room) = written_answer (write_stimulus_of n x room)
heard (trace_out n x o room) = written_answer (write_trace_of n (record { inputs = x; outputs = o }) room)
heard (header_out w n room) = written_answer (write_header_of w n room)

-- a call, and the number that the page gives it
pub record Asked : Type 0 where
  pub call : Call
  pub number : ℕ

abbrev gives : ℕ → Call → Asked
gives k c = record { call = c; number = k }

-- HBUSREQ, HLOCK, HREADY, HTRANS, HBURST; HGRANT, HMASTER and BUSREQ, with the other flags 0
abbrev five : ℕ → ℕ → ℕ → ℕ → ℕ → Inputs
five hbusreq hlock hready htrans hburst =
    record { hbusreq = hbusreq; hlock = hlock; hready = hready; htrans = htrans; hburst = hburst }

abbrev six : ℕ → ℕ → ℕ → Outputs
six hgrant hmaster busreq =
    record { hgrant = hgrant; hmaster = hmaster; hmastlock = 0; decide = 0; granted = 0; busreq = busreq }

unfoldable pub asked : List Asked
asked =
    -- a stimulus line, and one at a position; nothing more is no refusal
    gives 0 (stimulus_in 3 "0006\t0000\t1\t2\t3\n" 0)
    ∷ gives 0 (stimulus_in 3 "##0006\t0000\t1\t2\t3\n" 2)
    ∷ gives 0 (stimulus_in 3 "0006\t0000\t1\t2\t3\n" 16)
    -- 1 before 3, and before the end
    ∷ gives 1 (stimulus_in 17 "0006\t0000\t1\t2\t3\n" 17)
    ∷ gives 1 (stimulus_in 1 "0006\t0000\t1\t2\t3\n" 16)
    -- 3: beyond, cut, a separator; before 4
    ∷ gives 3 (stimulus_in 3 "0006\t0000\t1\t2\t3\n" 17)
    ∷ gives 3 (stimulus_in 3 "0006\t0000\t1\t2\t3" 0)
    ∷ gives 3 (stimulus_in 3 "0006 0000\t1\t2\t3\n" 0)
    ∷ gives 3 (stimulus_in 3 "000g 0000\t1\t2\t3\n" 0)
    -- 4: a character, a tab in a field, a number above its limit; before 5
    ∷ gives 4 (stimulus_in 3 "000g\t0000\t1\t2\t3\n" 0)
    ∷ gives 4 (stimulus_in 3 "000A\t0000\t1\t2\t3\n" 0)
    ∷ gives 4 (stimulus_in 3 "000\t\t0000\t1\t2\t3\n" 0)
    ∷ gives 4 (stimulus_in 3 "0006\t0000\t2\t2\t3\n" 0)
    ∷ gives 4 (stimulus_in 3 "0006\t0000\t1\t4\t3\n" 0)
    ∷ gives 4 (stimulus_in 3 "0006\t0000\t1\t2\t8\n" 0)
    ∷ gives 4 (stimulus_in 3 "0006\t0000\t2\t1\t3\n" 0)
    -- 5: BUSY, a burst that is not built; before 6
    ∷ gives 5 (stimulus_in 3 "0006\t0000\t1\t1\t3\n" 0)
    ∷ gives 5 (stimulus_in 3 "0006\t0000\t1\t2\t2\n" 0)
    ∷ gives 5 (stimulus_in 3 "0008\t0000\t1\t1\t3\n" 0)
    -- 6
    ∷ gives 6 (stimulus_in 3 "0008\t0000\t1\t2\t3\n" 0)
    ∷ gives 6 (stimulus_in 3 "0006\t0008\t1\t2\t3\n" 0)
    -- a trace line: its last columns too, 6 before 7
    ∷ gives 0 (trace_in 3 "0006\t0000\t1\t2\t3\t0002\t1\t0\t0\t0\t1\n" 0)
    ∷ gives 0 (trace_in 3 "0006\t0000\t1\t2\t3\t0002\t1\t0\t0\t0\t1\n" 31)
    ∷ gives 1 (trace_in 17 "0006\t0000\t1\t2\t3\t0002\t1\t0\t0\t0\t1\n" 32)
    ∷ gives 3 (trace_in 3 "0006\t0000\t1\t2\t3\t0002\t1\t0\t0\t0\t1\n" 32)
    ∷ gives 3 (trace_in 3 "0006\t0000\t1\t2\t3\t0002\tg\t0\t0\t0\t1\t" 0)
    ∷ gives 4 (trace_in 3 "0006\t0000\t1\t1\t3\t0002\tg\t0\t0\t0\t1\n" 0)
    ∷ gives 4 (trace_in 3 "0006\t0000\t1\t2\t3\t0002\t1\t0\t0\t0\t2\n" 0)
    ∷ gives 5 (trace_in 3 "0006\t0000\t1\t1\t3\t0008\t1\t0\t0\t0\t1\n" 0)
    ∷ gives 6 (trace_in 3 "0006\t0000\t1\t2\t3\t0008\t3\t0\t0\t0\t1\n" 0)
    ∷ gives 7 (trace_in 3 "0006\t0000\t1\t2\t3\t0002\t3\t0\t0\t0\t1\n" 0)
    ∷ gives 7 (trace_in 3 "0006\t0000\t1\t2\t3\t0002\tf\t0\t0\t0\t1\n" 0)
    -- a writer: 1, 4, 5, 6, 7, 9; a byte less than the line is too short
    ∷ gives 0 (stimulus_out 3 (five 6 0 1 2 3) 16)
    ∷ gives 1 (stimulus_out 1 (five 65536 0 1 2 3) 0)
    ∷ gives 4 (stimulus_out 3 (five 65536 0 1 1 3) 0)
    ∷ gives 5 (stimulus_out 3 (five 8 0 1 1 3) 0)
    ∷ gives 6 (stimulus_out 3 (five 8 0 1 2 3) 0)
    ∷ gives 9 (stimulus_out 3 (five 6 0 1 2 3) 15)
    ∷ gives 0 (trace_out 3 (five 6 0 1 2 3) (six 2 1 1) 31)
    ∷ gives 1 (trace_out 17 (five 6 0 1 2 3) (six 2 1 2) 0)
    ∷ gives 4 (trace_out 3 (five 6 0 1 1 3) (six 2 1 2) 0)
    ∷ gives 5 (trace_out 3 (five 6 0 1 2 2) (six 8 1 1) 0)
    ∷ gives 6 (trace_out 3 (five 6 0 1 2 3) (six 8 3 1) 0)
    ∷ gives 7 (trace_out 3 (five 6 0 1 2 3) (six 2 3 1) 0)
    ∷ gives 7 (trace_out 3 (five 6 0 1 2 3) (six 2 16 1) 31)
    ∷ gives 9 (trace_out 3 (five 6 0 1 2 3) (six 2 1 1) 30)
    ∷ gives 0 (header_out Stim 3 9)
    ∷ gives 0 (header_out Trace 16 11)
    ∷ gives 1 (header_out Trace 17 0)
    ∷ gives 9 (header_out Stim 3 8)
    ∷ gives 9 (header_out Trace 16 10)
    ∷ []
