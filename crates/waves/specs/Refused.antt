-- Each refusal of the readers and writers of a dump by its number, each order of tests, and the neighbours that are taken, as one table.
-- n = 3, and step 4 after the cycle `second`, unless said; a good step there has the lines `#4` and `b11 $`, in which HTRANS moves from 2 to 3.
--
--   Call    == a reader of a text, or a writer into a buffer of a length
--   heard c == the number that the definitions answer
--   asked   == calls, each with the number that the request gives it
use Rattle.std.specs.Prelude.{ℕ, List, [], ◌∷◌}
use Prim.Native.String.{String}
use Rattle.rules.specs.declared.Cycle.{Cycle}
use Rattle.formats.specs.Answers.{header_answer, trace_answer, written_answer}
use Rattle.formats.specs.Texts.{bytes}
use Rattle.waves.specs.Header.{read_dump_header_of, write_dump_header_of}
use Rattle.waves.specs.Steps.{write_step_of}
use Rattle.waves.specs.Reading.{read_step_of}
use Rattle.waves.specs.Files.{no_cycle}
use Rattle.waves.specs.Texts.{first, second}

pub data Call : Type 0 where
  header_in : String → Call
  -- n, the time, the cycle before, the text, the position
  step_in : ℕ → ℕ → Cycle → String → ℕ → Call
  header_out : ℕ → ℕ → Call
  -- n, the time, the cycle before, the cycle, the room
  step_out : ℕ → ℕ → Cycle → Cycle → ℕ → Call

unfoldable pub heard : Call → ℕ
heard (header_in text) = header_answer (read_dump_header_of (bytes text))
heard (step_in n t prev text p) = trace_answer (read_step_of n t prev (bytes text) p)
heard (header_out n room) = written_answer (write_dump_header_of n room)
heard (step_out n t prev c room) = written_answer (write_step_of n t prev c room)

pub record Asked : Type 0 where
  pub call : Call
  pub number : ℕ

abbrev gives : ℕ → Call → Asked
gives k c = record { call = c; number = k }

-- step 4 after `second`, and step 0
abbrev later : String → Call
later text = step_in 3 4 second text 0

abbrev opens : String → Call
opens text = step_in 3 0 no_cycle text 0

-- `second` with four of its columns given
abbrev with : ℕ → ℕ → ℕ → ℕ → Cycle
with hbusreq htrans hgrant hmaster =
    record {
      inputs = record { hbusreq = hbusreq; hlock = 0x0000; hready = 1; htrans = htrans; hburst = 3 };
      outputs = record { hgrant = hgrant; hmaster = hmaster; hmastlock = 0; decide = 0; granted = 0; busreq = 1 };
    }

unfoldable pub asked : List Asked
asked =
    -- a step, one at a position, one before the next, one without a change; no more; whatever the cycle before, step 0 has all
    gives 0 (later "#4\nb11 $\n")
    ∷ gives 0 (step_in 3 4 second "xx#4\nb11 $\n" 2)
    ∷ gives 0 (later "#4\nb11 $\n#9\n,")
    ∷ gives 0 (later "#4\n")
    ∷ gives 0 (later "")
    ∷ gives 0 (step_in 3 4 second "#4\n" 3)
    ∷ gives 0 (opens "#0\nb0000000000000000 !\nb0000000000000000 \"\n0#\nb00 $\nb000 %\nb0000000000000001 &\nb0000 '\n0(\n1)\n0*\n0+\n")
    ∷ gives 0 (step_in 3 0 first "#0\nb0000000000000000 !\nb0000000000000000 \"\n0#\nb00 $\nb000 %\nb0000000000000001 &\nb0000 '\n0(\n1)\n0*\n0+\n" 0)
    -- 1 before everything, also before the end
    ∷ gives 1 (step_in 1 4 second "#5\n" 0)
    ∷ gives 1 (step_in 17 4 second "" 0)
    -- 13: another number, before 14 and 3; a number that is cut is another number
    ∷ gives 13 (later "#5\nb11 $\n")
    ∷ gives 13 (later "#3\n1,\n")
    ∷ gives 13 (later "#5")
    ∷ gives 13 (later "#44\n")
    ∷ gives 13 (later "#0\n")
    ∷ gives 13 (step_in 3 12 second "#1" 0)
    ∷ gives 13 (step_in 3 1000000 second "#999999\n" 0)
    ∷ gives 13 (step_in 3 1000000 second "#10000000\n" 0)
    -- 8: whatever follows it
    ∷ gives 8 (step_in 3 1000000 second "#1000000\n" 0)
    ∷ gives 8 (step_in 3 1000000 second "#1000000" 0)
    ∷ gives 8 (step_in 3 2000000 second "#2000000\n" 0)
    ∷ gives 8 (step_in 3 1000000 second "#1000000\n1,\n" 0)
    ∷ gives 8 (step_in 3 1000000 second "#1000000x" 0)
    -- 14: a code that is none of the eleven, of a scalar, a vector or a real number; in any line, before 3 and 4
    ∷ gives 14 (later "#4\n1,\n")
    ∷ gives 14 (later "#4\nx,\n")
    ∷ gives 14 (later "#4\nX,\n")
    ∷ gives 14 (later "#4\nz,\n")
    ∷ gives 14 (later "#4\nZ,\n")
    ∷ gives 14 (later "#4\n0,\n")
    ∷ gives 14 (later "#4\n1!!\n")
    ∷ gives 14 (later "#4\nb11 ,\n")
    ∷ gives 14 (later "#4\nb1 -")
    ∷ gives 14 (later "#4\nB11 ,\n")
    ∷ gives 14 (later "#4\nr1.5 v\n")
    ∷ gives 14 (later "#4\nR1.5 v\n")
    ∷ gives 14 (later "#4\nhello\nb11 $\nb1 ~\n")
    ∷ gives 14 (later "#4x\n0z\n")
    -- what follows the first space is the code, also in the place of a bit
    ∷ gives 14 (later "#4\nb 1 $\n")
    -- 3: the time's line: no digit, a leading zero, something after it, no LF; no `#`
    ∷ gives 3 (later "#\n")
    ∷ gives 3 (later "#x\n")
    ∷ gives 3 (later "#04\n")
    ∷ gives 3 (later "#00\n")
    ∷ gives 3 (later "#4 \n")
    ∷ gives 3 (later "#4\r\n")
    ∷ gives 3 (later "#4")
    ∷ gives 3 (later "#")
    ∷ gives 3 (later "b11 $\n")
    ∷ gives 3 (later "\n#4\n")
    -- beyond the input
    ∷ gives 3 (step_in 3 4 second "#4\n" 4)
    -- a repeated value, out of order, twice
    ∷ gives 3 (later "#4\nb10 $\n")
    ∷ gives 3 (later "#4\nb11 $\n0#\n")
    ∷ gives 3 (later "#4\nb11 $\nb11 $\n")
    ∷ gives 3 (later "#4\nb11 $\nb01 $\n")
    -- a wrong width or kind, a line of no shape, a missing LF
    ∷ gives 3 (later "#4\nb1 $\n")
    ∷ gives 3 (later "#4\nb011 $\n")
    ∷ gives 3 (later "#4\n1$\n")
    ∷ gives 3 (later "#4\nb0 #\n")
    ∷ gives 3 (later "#4\nB11 $\n")
    ∷ gives 3 (later "#4\nb11$\n")
    ∷ gives 3 (later "#4\nb11  $\n")
    ∷ gives 3 (later "#4\nb11 $ \n")
    ∷ gives 3 (later "#4\nb11 $\r\n")
    ∷ gives 3 (later "#4\n\n")
    ∷ gives 3 (later "#4\nhello\n")
    ∷ gives 3 (later "#4\n$end\n")
    ∷ gives 3 (later "#4\n1é\n")
    ∷ gives 3 (later "#4\nb11 $")
    ∷ gives 3 (later "#4\nb11 ")
    ∷ gives 3 (later "#4\nb1\n $\n")
    -- a wrong character with a wrong shape beside it
    ∷ gives 3 (later "#4\nbx1 $\n0#")
    -- missing in cycle 0
    ∷ gives 3 (opens "#0\n")
    ∷ gives 3 (opens "#0\nb0000000000000000 !\nb0000000000000000 \"\n0#\nb00 $\nb000 %\nb0000000000000001 &\nb0000 '\n0(\n1)\n0*\n")
    ∷ gives 3 (opens "#0\nb0000000000000000 \"\n0#\nb00 $\nb000 %\nb0000000000000001 &\nb0000 '\n0(\n1)\n0*\n0+\n")
    -- longer than any good step: what stands behind its first 105 bytes is not looked at
    ∷ gives 3 (later "#4\nb11 $\nb11 $\nb11 $\nb11 $\nb11 $\nb11 $\nb11 $\nb11 $\nb11 $\nb11 $\nb11 $\nb11 $\nb11 $\nb11 $\nb11 $\nb11 $\nb11 $\n1,\n")
    ∷ gives 14 (later "#4\nb11 $\nb11 $\nb11 $\nb11 $\nb11 $\nb11 $\nb11 $\nb11 $\nb11 $\nb11 $\nb11 $\nb11 $\nb11 $\nb11 $\nb11 $\nb11 $\n1,\n")
    -- 4: a character that is no bit, before 5
    ∷ gives 4 (later "#4\nbx1 $\n")
    ∷ gives 4 (later "#4\nb12 $\n")
    ∷ gives 4 (later "#4\nx#\n")
    ∷ gives 4 (later "#4\nb01 $\nb000z '\n")
    ∷ gives 4 (later "#4\nb000000000000x000 !\n")
    ∷ gives 4 (later "#4\nb1  $\n")
    ∷ gives 4 (later "#4\n #\n")
    -- 5, 6, 7: of the cycle that results
    ∷ gives 5 (later "#4\nb01 $\n")
    ∷ gives 5 (later "#4\nb010 %\n")
    ∷ gives 5 (later "#4\nb0000000000001000 !\nb01 $\n")
    ∷ gives 6 (later "#4\nb0000000000001000 !\n")
    ∷ gives 6 (later "#4\nb0000000000001000 &\nb0011 '\n")
    ∷ gives 7 (later "#4\nb0011 '\n")
    ∷ gives 7 (step_in 3 4 (with 6 2 2 3) "#4\n" 0)
    -- a cycle before that is not valid, and the step leaves it so; HMASTER above 15 is 4, as no line of a trace has it
    ∷ gives 4 (step_in 3 4 (with 65536 2 2 1) "#4\n" 0)
    ∷ gives 5 (step_in 3 4 (with 6 1 2 1) "#4\n" 0)
    ∷ gives 6 (step_in 3 4 (with 8 2 2 1) "#4\n" 0)
    ∷ gives 4 (step_in 3 4 (with 6 2 2 16) "#4\n" 0)
    -- a number above the width of a column stands for a wrong character: the one repeats the other
    ∷ gives 3 (step_in 3 4 (with 65536 2 2 1) "#4\nbx000000000000000 !\n" 0)
    -- a header: 12 before 1
    ∷ gives 12 (header_in "")
    ∷ gives 12 (header_in "trace\t1\t3\n")
    ∷ gives 12 (header_in "$comment masters 3 $end\n")
    ∷ gives 12 (header_in "$comment masters 3 $end\n$timescale 1 ps $end\n")
    ∷ gives 12 (header_in "$comment masters 17 $end\n")
    ∷ gives 12 (header_in "$comment masters 03 $end\n$timescale 1 ns $end\n$scope module ahb $end\n$var wire 16 ! HBUSREQ $end\n$var wire 16 \" HLOCK $end\n$var wire 1 # HREADY $end\n$var wire 2 $ HTRANS $end\n$var wire 3 % HBURST $end\n$var wire 16 & HGRANT $end\n$var wire 4 ' HMASTER $end\n$var wire 1 ( HMASTLOCK $end\n$var wire 1 ) DECIDE $end\n$var wire 1 * GRANTED $end\n$var wire 1 + BUSREQ $end\n$upscope $end\n$enddefinitions $end\n")
    ∷ gives 12 (header_in "$comment masters 3 $end\n$timescale 1 ns $end\n$scope module ahb $end\n$var wire 16 ! HBUSREQ $end\n$var wire 16 \" HLOCK $end\n$var wire 1 # HREADY $end\n$var wire 2 $ HTRANS $end\n$var wire 3 % HBURST $end\n$var wire 16 & HGRANT $end\n$var wire 4 ' HMASTER $end\n$var wire 1 ( HMASTLOCK $end\n$var wire 1 ) DECIDE $end\n$var wire 1 * GRANTED $end\n$var wire 1 + BUSREQ $end\n$upscope $end\n$enddefinitions $end")
    ∷ gives 0 (header_in "$comment masters 3 $end\n$timescale 1 ns $end\n$scope module ahb $end\n$var wire 16 ! HBUSREQ $end\n$var wire 16 \" HLOCK $end\n$var wire 1 # HREADY $end\n$var wire 2 $ HTRANS $end\n$var wire 3 % HBURST $end\n$var wire 16 & HGRANT $end\n$var wire 4 ' HMASTER $end\n$var wire 1 ( HMASTLOCK $end\n$var wire 1 ) DECIDE $end\n$var wire 1 * GRANTED $end\n$var wire 1 + BUSREQ $end\n$upscope $end\n$enddefinitions $end\n")
    ∷ gives 0 (header_in "$comment masters 16 $end\n$timescale 1 ns $end\n$scope module ahb $end\n$var wire 16 ! HBUSREQ $end\n$var wire 16 \" HLOCK $end\n$var wire 1 # HREADY $end\n$var wire 2 $ HTRANS $end\n$var wire 3 % HBURST $end\n$var wire 16 & HGRANT $end\n$var wire 4 ' HMASTER $end\n$var wire 1 ( HMASTLOCK $end\n$var wire 1 ) DECIDE $end\n$var wire 1 * GRANTED $end\n$var wire 1 + BUSREQ $end\n$upscope $end\n$enddefinitions $end\n#0\n")
    ∷ gives 1 (header_in "$comment masters 1 $end\n$timescale 1 ns $end\n$scope module ahb $end\n$var wire 16 ! HBUSREQ $end\n$var wire 16 \" HLOCK $end\n$var wire 1 # HREADY $end\n$var wire 2 $ HTRANS $end\n$var wire 3 % HBURST $end\n$var wire 16 & HGRANT $end\n$var wire 4 ' HMASTER $end\n$var wire 1 ( HMASTLOCK $end\n$var wire 1 ) DECIDE $end\n$var wire 1 * GRANTED $end\n$var wire 1 + BUSREQ $end\n$upscope $end\n$enddefinitions $end\n")
    ∷ gives 1 (header_in "$comment masters 17 $end\n$timescale 1 ns $end\n$scope module ahb $end\n$var wire 16 ! HBUSREQ $end\n$var wire 16 \" HLOCK $end\n$var wire 1 # HREADY $end\n$var wire 2 $ HTRANS $end\n$var wire 3 % HBURST $end\n$var wire 16 & HGRANT $end\n$var wire 4 ' HMASTER $end\n$var wire 1 ( HMASTLOCK $end\n$var wire 1 ) DECIDE $end\n$var wire 1 * GRANTED $end\n$var wire 1 + BUSREQ $end\n$upscope $end\n$enddefinitions $end\n")
    -- a writer: 1, 8, 4, 5, 6, 7, 9; a byte less than the step is too short
    ∷ gives 0 (step_out 3 4 second (with 6 3 2 1) 9)
    ∷ gives 1 (step_out 17 1000000 second (with 65536 3 2 1) 0)
    ∷ gives 8 (step_out 3 1000000 second (with 65536 3 2 1) 0)
    ∷ gives 8 (step_out 3 4294967295 second second 104)
    ∷ gives 4 (step_out 3 4 second (with 65536 1 2 1) 0)
    ∷ gives 5 (step_out 3 4 second (with 8 1 2 1) 0)
    ∷ gives 6 (step_out 3 4 second (with 6 3 8 3) 0)
    ∷ gives 7 (step_out 3 4 second (with 6 3 2 3) 0)
    ∷ gives 9 (step_out 3 4 second (with 6 3 2 1) 8)
    ∷ gives 0 (header_out 3 406)
    ∷ gives 1 (header_out 1 0)
    ∷ gives 9 (header_out 3 10)
    ∷ []
