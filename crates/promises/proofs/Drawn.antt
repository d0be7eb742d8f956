-- The program trace2vcd on the lines of a trace: it writes a step for each of them.
--
--   standing n t prev line == where the program stands after t cycles, the last of which is prev
--   drawn_turn, drawn_end == one line, and the end of the input
--   drawn_lines   == all the lines that are left, and then what the rest comes to
--   drawn_program == the header, the lines, and then the rest
use Prim.Native.Nat.{ℕ, zero, suc, ◌+◌, ◌≤◌, ◌<◌}
use mathlib.Core.Path.{◌≡◌, sym, ◌∙◌, ap}
use mathlib.Core.List.{List, [], ◌∷◌, ◌++◌, append_assoc}
use native.Mathlib.Nat.{add-zero}
use native.Mathlib.Omega.{arith}
use borrow.Author.Tests.{lt-leb}
use lib.ListN.{length}
use lib.Seq.{drop-append_seam}
use Rattle.rules.specs.declared.Cycle.{Cycle}
use Rattle.rules.specs.Codes.{most_cycles}
use Rattle.formats.specs.declared.Word.TheVariants.{Trace}
use Rattle.formats.specs.Results.{HeaderRead, TraceRead}
use Rattle.formats.specs.Lines.{trace_line}
use Rattle.formats.specs.Headers.{header, read_header_of}
use Rattle.formats.specs.Files.{lines_of, trace_file}
use Rattle.formats.specs.Promises.{InRange, Each, ValidCycle}
use Rattle.formats.proofs.Promises.{written_header_reads, written_trace_line_reads, no_more_at_the_end}
use Rattle.streams.specs.Streams.{goes, stops, written}
use Rattle.waves.specs.Header.{dump_header}
use Rattle.waves.specs.Steps.{dump_step}
use Rattle.waves.specs.Files.{no_cycle, steps_of, dump}
use Rattle.conversions.specs.declared.Position.{Position}
use Rattle.conversions.specs.Dumping.{drawn, dump_turn, first_line, dump_after, dump_program}
use Rattle.conversions.specs.Positions.{start_at}
use Rattle.promises.specs.Waves.{last_of}
use Rattle.promises.proofs.Lines.{one_line, file_fuel}

abbrev pub standing : ℕ → ℕ → Cycle → ℕ → Position
standing n t prev line = record { n = n; count = t; before = prev; line = line }

module _ (n : ℕ) (range : InRange n) where
  drawn_turn : (t line : ℕ) (prev c : Cycle) (rest : List ℕ) → t < most_cycles → ValidCycle n c
      → dump_turn (standing n t prev line) (trace_line c ++ rest) ≡ goes (dump_step prev t c) (standing n (t + 1) c (line + 1)) (length (trace_line c))
  unfolding dump_turn
  drawn_turn t line prev c rest room valid =
      ap (λ (r : TraceRead). drawn r (standing n t prev line)) (written_trace_line_reads n c [] rest range valid)
      ∙ rw (lt-leb most_cycles t room)

  pub drawn_end : (t line : ℕ) (prev : Cycle) → dump_turn (standing n t prev line) [] ≡ stops []
  unfolding dump_turn
  drawn_end t line prev =
      ap (λ (r : TraceRead). drawn r (standing n t prev line)) (no_more_at_the_end.trace_line_lem n [] range)

  pub drawn_lines : (cs : List Cycle) (k t line : ℕ) (prev : Cycle) (rest last : List ℕ)
      → Each (ValidCycle n) cs → t + length cs ≤ most_cycles → length cs < k
      → dump_turn (standing n (t + length cs) (last_of prev cs) (line + length cs)) rest ≡ stops last
      → written dump_turn k (standing n t prev line) (lines_of trace_line cs ++ rest) ≡ steps_of prev t cs ++ last
  unfolding lines_of steps_of
  drawn_lines cs zero t line prev rest last valid room fuel e = absurd (omega arith)
  drawn_lines [] (suc k) t line prev rest last valid room fuel e =
      let f = rw (add-zero t, add-zero line) at e in unfold written in rw f
  drawn_lines (c ∷ cs) (suc k) t line prev rest last valid room fuel e =
      let left : List ℕ = lines_of trace_line cs ++ rest in
      let count : t + suc (length cs) ≡ t + 1 + length cs = omega arith in
      let lines : line + suc (length cs) ≡ line + 1 + length cs = omega arith in
      let next : suc t ≡ t + 1 = omega arith in
      ap (written dump_turn (suc k) (standing n t prev line)) (append_assoc (trace_line c) (lines_of trace_line cs) rest)
      ∙ one_line dump_turn k (standing n t prev line) (standing n (t + 1) c (line + 1)) (trace_line c) left (dump_step prev t c)
      (drawn_turn t line prev c left (omega arith) valid.0)
      ∙ ap (λ (l : List ℕ). dump_step prev t c ++ l)
      (drawn_lines cs k (t + 1) (line + 1) c rest last valid.1 (omega arith) (omega arith) (rw (count, lines) at e)
      ∙ ap (λ (u : ℕ). steps_of c u cs ++ last) (sym next))
      ∙ sym (append_assoc (dump_step prev t c) (steps_of c (suc t) cs) last)

  pub drawn_program : (cs : List Cycle) (rest last : List ℕ) → Each (ValidCycle n) cs → length cs ≤ most_cycles
      → dump_turn (standing n (length cs) (last_of no_cycle cs) (length cs + 2)) rest ≡ stops last
      → dump_program (trace_file n cs ++ rest) ≡ dump n cs ++ last
  unfolding dump_program dump
  drawn_program cs rest last valid room e =
      let lines : List ℕ = lines_of trace_line cs ++ rest in
      let f : List ℕ = header Trace n ++ lines in
      let none : 0 + length cs ≡ length cs = omega arith in
      let second : first_line + length cs ≡ length cs + 2 = omega arith in
      ap (λ (s : List ℕ). dump_after (read_header_of Trace s) s) (append_assoc (header Trace n) (lines_of trace_line cs) rest)
      ∙ ap (λ (h : HeaderRead). dump_after h f) (written_header_reads Trace n lines range)
      ∙ ap (λ (l : List ℕ). dump_header n ++ l)
      (ap (λ (l : List ℕ). written dump_turn (suc (length f)) (start_at n first_line) l) (drop-append_seam (header Trace n) lines)
      ∙ drawn_lines cs (suc (length f)) 0 first_line no_cycle rest last valid (omega arith)
      (file_fuel trace_line (λ c. omega arith) (header Trace n) cs rest)
      (rw (none, second) e))
      ∙ sym (append_assoc (dump_header n) (steps_of no_cycle 0 cs) last)
