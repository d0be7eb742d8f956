-- The promises of specs/Waves.antt, each under its name; proofs/DumpForms.antt has the one on forms.
--
--   drawn_stops, recalled_stops == the turn at a line and at a step that is refused
--   plain_lines, header_lines == no line ends in plain bytes, and a dump's header has sixteen
use Rattle.std.specs.Prelude.{Err, None, Ok, Some}
use Prim.Native.Nat.{ℕ, suc, ◌+◌}
use mathlib.Core.Path.{◌≡◌, refl, sym, ◌∙◌, ap}
use mathlib.Core.Logic.{inl}
use mathlib.Core.List.{List, [], ◌∷◌, ◌++◌, append-nil}
use native.Mathlib.Omega.{arith}
use borrow.Author.Tests.{le-leb, ne_eqb}
use lib.ListN.{length, length-append}
use lib.Seq.{drop-append_seam}
use Rattle.rules.specs.declared.Refusal.{Refusal}
use Rattle.rules.specs.declared.Cycle.{Cycle}
use Rattle.rules.specs.Codes.{most_cycles}
use Rattle.formats.specs.Results.{TraceRead}
use Rattle.formats.specs.Digits.{lf, decimal_before, decimal}
use Rattle.formats.specs.Lines.{read_trace_of}
use Rattle.formats.specs.Files.{as_trace, trace_file}
use Rattle.formats.specs.Report.{refused_line}
use Rattle.formats.specs.Texts.{bytes}
use Rattle.formats.specs.Promises.{Each}
use Rattle.formats.proofs.Bytes.{Not}
use Rattle.formats.proofs.Decimal.{decimal_not}
use Rattle.streams.specs.Streams.{stops}
use Rattle.streams.specs.Judging.{judge_program}
use Rattle.waves.specs.Header.{opening, declared, all_declared, closing, dump_header}
use Rattle.waves.specs.Reading.{read_step_of}
use Rattle.waves.specs.Files.{no_cycle, steps_of, dump, read_dump, lines_in}
use Rattle.waves.proofs.Near.{moved, near_shift, lines_append}
use Rattle.waves.proofs.Promises.{written_dump_reads, read_dump_writes}
use Rattle.conversions.specs.Dumping.{drawn, dump_turn, dump_program}
use Rattle.conversions.specs.Undumping.{recalled, undump_turn, first_step, undump_program}
use Rattle.promises.specs.AnyInput.{no_header, cut_after, whole, Stops, traces, Has}
use Rattle.promises.specs.Waves.{last_of, HasDump, DumpsAnyTrace, TracesAnyDump, DumpReadsBack, WholeDumpsAreRead, EachUndoesTheOther, JudgedAlike}
use Rattle.promises.proofs.Readers.{trace_front}
use Rattle.promises.proofs.Drawn.{standing, drawn_end, drawn_program}
use Rattle.promises.proofs.Recalled.{behind, recalled_end, recalled_program}

drawn_stops : (n k line : ℕ) (prev : Cycle) (r : Refusal) (rest : List ℕ) → Stops (as_trace (read_trace_of n rest 0)) k r
    → dump_turn (standing n k prev line) rest ≡ stops (refused_line line r)
unfolding dump_turn
drawn_stops n k line prev r rest = go (read_trace_of n rest 0)
  where
    go : (a : TraceRead) → Stops (as_trace a) k r → drawn a (standing n k prev line) ≡ stops (refused_line line r)
    go (Ok (Some (c, next))) h = rw (le-leb most_cycles k (omega (arith, h.0)), h.1)
    go (Ok None) h = absurd h
    go (Err q) h = rw h

pub dumps_any_trace : DumpsAnyTrace
dumps_any_trace s (no_header r) h = unfold dump_program in rw h
dumps_any_trace s (cut_after n cs r) h =
    let b = h.1 in
    ap dump_program b.bytes
    ∙ drawn_program n b.masters cs h.0 (refused_line (length cs + 2) r) b.good b.room
    (drawn_stops n (length cs) (length cs + 2) (last_of no_cycle cs) r h.0 (trace_front s n (length cs) r h.0 cs b.bytes h.2))
dumps_any_trace s (whole n cs) h =
    ap dump_program h.bytes
    ∙ drawn_program n h.masters cs [] [] h.good h.room (drawn_end n h.masters (length cs) (length cs + 2) (last_of no_cycle cs))
    ∙ append-nil (dump n cs)

plain_lines : (l : List ℕ) → Each (Not lf) l → lines_in l ≡ 0
unfolding lines_in
plain_lines [] h = refl
plain_lines (b ∷ l) h = rw (ne_eqb b lf h.0) (plain_lines l h.1)

closing_lines : lines_in closing ≡ 16
unfolding lines_in closing all_declared declared bytes decimal_before
closing_lines = refl

opening_lines : lines_in opening ≡ 0
unfolding lines_in opening bytes
opening_lines = refl

header_lines : (n : ℕ) → lines_in (dump_header n) ≡ 16
unfolding dump_header
header_lines n =
    lines_append opening (decimal n ++ closing)
    ∙ omega (arith, opening_lines, lines_append (decimal n) closing, plain_lines (decimal n) (decimal_not lf n (omega arith)), closing_lines)

-- the line after all those of a dump
next_line : (n : ℕ) (cs : List Cycle) → first_step + lines_in (steps_of no_cycle 0 cs) ≡ suc (lines_in (dump n cs))
unfolding dump
next_line n cs = omega (arith, lines_append (dump_header n) (steps_of no_cycle 0 cs), header_lines n)

-- what is refused behind other bytes is refused
moved_refused : (p : ℕ) (a : TraceRead) (r : Refusal) → moved p a ≡ Err r → a ≡ Err r
moved_refused p (Ok (Some (c, next))) r e = let z : ◌≡◌ {A = ℕ} 0 1 = cc in absurd (omega arith)
moved_refused p (Ok None) r e = let z : ◌≡◌ {A = ℕ} 0 1 = cc in absurd (omega arith)
moved_refused p (Err q) r e = e

recalled_stops : (n t line : ℕ) (prev : Cycle) (r : Refusal) (pre rest : List ℕ) → read_step_of n t prev (pre ++ rest) (length pre) ≡ Err r
    → undump_turn (standing n t prev line) rest ≡ stops (refused_line line r)
unfolding undump_turn
recalled_stops n t line prev r pre rest e =
    let size = length-append pre rest in
    let there : read_step_of n t prev rest 0 ≡ Err r =
    moved_refused (length pre) (read_step_of n t prev rest 0) r
    (ap (λ (l : List ℕ). moved (length pre) (read_step_of n t prev l 0)) (sym (drop-append_seam pre rest))
    ∙ sym (near_shift n t prev (pre ++ rest) (length pre) (omega arith))
    ∙ e) in
    ap (λ (a : TraceRead). recalled a (standing n t prev line) rest) there

pub traces_any_dump : TracesAnyDump
traces_any_dump s (no_header r) h = unfold undump_program in rw h
traces_any_dump s (cut_after n cs r) h =
    let b = h.1 in
    ap undump_program b.bytes
    ∙ recalled_program n b.masters cs h.0 (refused_line (suc (lines_in (dump n cs))) r) b.good b.room b.ends
    (ap (λ (l : ℕ). undump_turn (standing n (length cs) (last_of no_cycle cs) l) h.0) (next_line n cs)
    ∙ recalled_stops n (length cs) (suc (lines_in (dump n cs))) (last_of no_cycle cs) r (dump n cs) h.0 (rw b.bytes at h.2))
traces_any_dump s (whole n cs) h =
    ap undump_program h.bytes
    ∙ recalled_program n h.masters cs [] [] h.good h.room h.ends
    (recalled_end n h.masters (length cs) (first_step + lines_in (steps_of no_cycle 0 cs)) (last_of no_cycle cs))
    ∙ append-nil (trace_file n cs)

-- a dump that was written is a whole one
written_whole : (s : List ℕ) (n : ℕ) (cs : List Cycle) → Has traces s (whole n cs) → HasDump (dump n cs) (whole n cs)
written_whole s n cs h =
    record {
      masters = h.masters;
      good = h.good;
      room = h.room;
      bytes = sym (append-nil (dump n cs));
      ends = behind cs [] (inl refl);
    }

pub dump_reads_back : DumpReadsBack
dump_reads_back s n cs h =
    ap read_dump (dumps_any_trace s (whole n cs) h) ∙ written_dump_reads n cs h.masters h.good h.room

pub whole_dumps_are_read : WholeDumpsAreRead
whole_dumps_are_read =
    record {
      read = λ s n cs h. ap read_dump (h.bytes ∙ append-nil (dump n cs)) ∙ written_dump_reads n cs h.masters h.good h.room;
      written = λ s n cs e.
          let w = read_dump_writes s n cs e in (
            record {
              masters = w.0;
              good = w.1;
              room = w.2;
              bytes = sym w.3 ∙ sym (append-nil (dump n cs));
              ends = behind cs [] (inl refl);
            },
            w.3,
          );
    }

pub each_undoes_the_other : EachUndoesTheOther
each_undoes_the_other =
    record {
      on_traces = λ s n cs h.
          ap undump_program (dumps_any_trace s (whole n cs) h)
          ∙ traces_any_dump (dump n cs) (whole n cs) (written_whole s n cs h)
          ∙ sym (h.bytes ∙ append-nil (trace_file n cs));
      on_dumps = λ s n cs h.
          ap dump_program (traces_any_dump s (whole n cs) h)
          ∙ dumps_any_trace (trace_file n cs) (whole n cs)
          (record { masters = h.masters; good = h.good; room = h.room; bytes = sym (append-nil (trace_file n cs)) })
          ∙ sym (h.bytes ∙ append-nil (dump n cs));
    }

pub judged_alike : JudgedAlike
judged_alike s n cs h = ap judge_program (each_undoes_the_other.on_traces s n cs h)
