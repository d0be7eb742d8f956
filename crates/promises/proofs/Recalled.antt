-- The program vcd2trace on the steps of a dump: it writes a trace line for each of them.
--
--   steps_end      == a step ends before the steps that follow it
--   behind         == where a step may end, the steps end
--   steps_long     == a step has bytes, so there are no more steps than bytes
--   recalled_turn, recalled_end == one step, and the end of the input
--   recalled_steps == all the steps that are left, and then what the rest comes to
--   recalled_program == the header, the steps, and then the rest
use Prim.Native.Nat.{ℕ, zero, suc, ◌+◌, ◌≤◌, ◌<◌}
use mathlib.Core.Path.{◌≡◌, sym, ◌∙◌, ap}
use mathlib.Core.Logic.{inr}
use mathlib.Core.List.{List, [], ◌∷◌, ◌++◌, append_assoc}
use native.Mathlib.Nat.{add-zero}
use native.Mathlib.Omega.{arith}
use lib.ListN.{length, length-append}
use lib.Seq.{drop-append_seam, take-append_seam}
use Rattle.rules.specs.declared.Cycle.{Cycle}
use Rattle.rules.specs.Codes.{most_cycles}
use Rattle.formats.specs.declared.Word.TheVariants.{Trace}
use Rattle.formats.specs.Results.{HeaderRead, TraceRead}
use Rattle.formats.specs.Lines.{trace_line}
use Rattle.formats.specs.Headers.{header}
use Rattle.formats.specs.Files.{lines_of, trace_file}
use Rattle.formats.specs.Promises.{InRange, Each, ValidCycle}
use Rattle.streams.specs.Streams.{goes, stops, written}
use Rattle.waves.specs.Header.{dump_header, read_dump_header_of}
use Rattle.waves.specs.Steps.{dump_step}
use Rattle.waves.specs.Files.{no_cycle, steps_of, dump, lines_in}
use Rattle.waves.specs.Promises.{Ends}
use Rattle.waves.proofs.StepTexts.{step_head, step_long}
use Rattle.waves.proofs.Near.{lines_append, end_reads}
use Rattle.waves.proofs.Promises.{written_step_reads, written_dump_header_reads}
use Rattle.conversions.specs.Positions.{start_at}
use Rattle.conversions.specs.Undumping.{recalled, undump_turn, first_step, undump_after, undump_program}
use Rattle.promises.specs.Waves.{last_of, Behind}
use Rattle.promises.proofs.Lines.{one_line}
use Rattle.promises.proofs.Drawn.{standing}

pub steps_end : (cs : List Cycle) (t : ℕ) (prev : Cycle) (rest : List ℕ) → Ends rest → Ends (steps_of prev t cs ++ rest)
unfolding steps_of
steps_end [] t prev rest ends = ends
steps_end (c ∷ cs) t prev rest ends =
    inr (rw (append_assoc (dump_step prev t c) (steps_of c (suc t) cs) rest) (step_head prev t c (steps_of c (suc t) cs ++ rest)))

pub behind : (cs : List Cycle) (rest : List ℕ) → Ends rest → Behind cs rest
behind [] rest ends = tt
behind (c ∷ cs) rest ends = ends

pub steps_long : (cs : List Cycle) (t : ℕ) (prev : Cycle) → t + length cs ≤ most_cycles → length cs ≤ length (steps_of prev t cs)
unfolding steps_of
steps_long [] t prev room = omega arith
steps_long (c ∷ cs) t prev room =
    omega (arith, length-append (dump_step prev t c) (steps_of c (suc t) cs), step_long prev t c (omega arith), steps_long cs (suc t) c (omega arith))

module _ (n : ℕ) (range : InRange n) where
  recalled_turn : (t line : ℕ) (prev c : Cycle) (rest : List ℕ) → t < most_cycles → ValidCycle n c → Ends rest
      → undump_turn (standing n t prev line) (dump_step prev t c ++ rest)
      ≡ goes (trace_line c) (standing n (t + 1) c (line + lines_in (dump_step prev t c))) (length (dump_step prev t c))
  unfolding undump_turn
  recalled_turn t line prev c rest room valid ends =
      let size : 0 + length (dump_step prev t c) ≡ length (dump_step prev t c) = omega arith in
      ap (λ (r : TraceRead). recalled r (standing n t prev line) (dump_step prev t c ++ rest))
      (written_step_reads n t prev c [] rest range room valid ends)
      ∙ rw (size, take-append_seam (dump_step prev t c) rest)

  pub recalled_end : (t line : ℕ) (prev : Cycle) → undump_turn (standing n t prev line) [] ≡ stops []
  unfolding undump_turn
  recalled_end t line prev =
      ap (λ (r : TraceRead). recalled r (standing n t prev line) []) (end_reads n t prev [] range)

  pub recalled_steps : (cs : List Cycle) (k t line : ℕ) (prev : Cycle) (rest last : List ℕ)
      → Each (ValidCycle n) cs → t + length cs ≤ most_cycles → length cs < k → Behind cs rest
      → undump_turn (standing n (t + length cs) (last_of prev cs) (line + lines_in (steps_of prev t cs))) rest ≡ stops last
      → written undump_turn k (standing n t prev line) (steps_of prev t cs ++ rest) ≡ lines_of trace_line cs ++ last
  unfolding lines_of steps_of
  recalled_steps cs zero t line prev rest last valid room fuel ends e = absurd (omega arith)
  recalled_steps [] (suc k) t line prev rest last valid room fuel ends e =
      let none : line + lines_in [] ≡ line = nothing line in
      let f = rw (add-zero t, none) at e in unfold written in rw f
    where
      nothing : (line : ℕ) → line + lines_in [] ≡ line
      nothing line = unfold lines_in in add-zero line
  recalled_steps (c ∷ cs) (suc k) t line prev rest last valid room fuel ends e =
      let step : List ℕ = dump_step prev t c in
      let left : List ℕ = steps_of c (suc t) cs ++ rest in
      let next : suc t ≡ t + 1 = omega arith in
      let count : t + suc (length cs) ≡ t + 1 + length cs = omega arith in
      let lines : line + lines_in (step ++ steps_of c (suc t) cs) ≡ line + lines_in step + lines_in (steps_of c (suc t) cs) =
      omega (arith, lines_append step (steps_of c (suc t) cs)) in
      let f : undump_turn (standing n (t + 1 + length cs) (last_of c cs) (line + lines_in step + lines_in (steps_of c (t + 1) cs))) rest ≡ stops last =
      rw (count, lines, next) at e in
      ap (written undump_turn (suc k) (standing n t prev line)) (append_assoc step (steps_of c (suc t) cs) rest)
      ∙ one_line undump_turn k (standing n t prev line) (standing n (t + 1) c (line + lines_in step)) step left (trace_line c)
      (recalled_turn t line prev c left (omega arith) valid.0 (steps_end cs (suc t) c rest ends))
      ∙ ap (λ (l : List ℕ). trace_line c ++ l)
      (ap (λ (u : ℕ). written undump_turn k (standing n (t + 1) c (line + lines_in step)) (steps_of c u cs ++ rest)) next
      ∙ recalled_steps cs k (t + 1) (line + lines_in step) c rest last valid.1 (omega arith) (omega arith) (behind cs rest ends) f)
      ∙ sym (append_assoc (trace_line c) (lines_of trace_line cs) last)

  -- a dump's header has sixteen lines
  pub recalled_program : (cs : List Cycle) (rest last : List ℕ) → Each (ValidCycle n) cs → length cs ≤ most_cycles → Behind cs rest
      → undump_turn (standing n (length cs) (last_of no_cycle cs) (first_step + lines_in (steps_of no_cycle 0 cs))) rest ≡ stops last
      → undump_program (dump n cs ++ rest) ≡ trace_file n cs ++ last
  unfolding undump_program dump
  recalled_program cs rest last valid room ends e =
      let steps : List ℕ = steps_of no_cycle 0 cs ++ rest in
      let f : List ℕ = dump_header n ++ steps in
      let none : 0 + length cs ≡ length cs = omega arith in
      ap (λ (s : List ℕ). undump_after (read_dump_header_of s) s) (append_assoc (dump_header n) (steps_of no_cycle 0 cs) rest)
      ∙ ap (λ (h : HeaderRead). undump_after h f) (written_dump_header_reads n steps range)
      ∙ ap (λ (l : List ℕ). header Trace n ++ l)
      (ap (λ (l : List ℕ). written undump_turn (suc (length f)) (start_at n first_step) l) (drop-append_seam (dump_header n) steps)
      ∙ recalled_steps cs (suc (length f)) 0 first_step no_cycle rest last valid (omega arith)
      (omega (arith, length-append (dump_header n) steps, length-append (steps_of no_cycle 0 cs) rest, steps_long cs 0 no_cycle (omega arith)))
      ends
      (rw none e))
      ∙ sym (append_assoc (header Trace n) (lines_of trace_line cs) last)
