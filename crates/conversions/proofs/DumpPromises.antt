-- What is promised of the program trace2vcd as it runs.
use Rattle.std.specs.Prelude.{Err, Ok}
use Prim.Native.Nat.{ℕ, suc}
use mathlib.Core.Path.{◌≡◌, refl, ap, ◌∙◌}
use mathlib.Core.List.{List, ◌++◌}
use native.Mathlib.Omega.{arith}
use borrow.Author.Tests.{lt-ltb, le-ltb}
use lib.Dec.{ltb}
use lib.ListN.{length, drop}
use Rattle.rules.proofs.WellFormed.{masters_ok_lem}
use Rattle.formats.specs.declared.Word.TheVariants.{Trace}
use Rattle.formats.specs.Results.{HeaderRead}
use Rattle.formats.specs.Lines.{place, read_trace_of}
use Rattle.formats.specs.Headers.{read_header_of}
use Rattle.streams.specs.Streams.{written}
use Rattle.streams.specs.Blocks.{progress_of, joined}
use Rattle.streams.proofs.Lines.{stepping, cutting, all_cut}
use Rattle.streams.proofs.Cut.{in_blocks_lem}
use Rattle.streams.proofs.Heads.{head_near, head_size_lem}
use Rattle.streams.proofs.Promises.{shorter, kept}
use Rattle.streams.proofs.Stays.{stays_formed}
use Rattle.streams.proofs.Enough.{whole_used, more_stop, on_only}
use Rattle.waves.specs.Header.{dump_header}
use Rattle.streams.specs.declared.Progress.{Progress}
use Rattle.conversions.specs.declared.Position.{Position}
use Rattle.conversions.specs.Positions.{start_at, position_formed}
use Rattle.conversions.specs.Dumping.{dump_turn, first_line, dump_program}
use Rattle.conversions.specs.Blocks.{dump_room, dump_stretch, dump_block_of, dump_block_left}
use Rattle.conversions.specs.Heads.{dump_headed, dump_head_of, dump_head_left}
use Rattle.conversions.specs.DumpPromises.{dump_run, DumpInBlocks, DumpAsRun, DumpEnds, DumpStaysFormed, DumpBlocksAreCounted, DumpMoreLinesStop, DumpRefusedBlocksKept, DumpHeadsByNumber}
use Rattle.conversions.proofs.Positions.{facts_of, test_of}
use Rattle.streams.proofs.Taken.{progress_taken, progress_on, progress_kept}
use Rattle.conversions.proofs.DumpNear.{dump_by_lines}
use Rattle.conversions.proofs.DumpLines.{dump_program_lem}
use Rattle.conversions.proofs.DumpCounted.{dump_counts, stays_level}

pub dump_in_blocks : DumpInBlocks
unfolding dump_program
dump_in_blocks s n next blocks last e f h =
    rw (e, f)
    (ap (λ (l : List ℕ). dump_header n ++ l)
    (in_blocks_lem dump_turn (stepping dump_by_lines) (cutting dump_by_lines) blocks last (all_cut 31 blocks last h) (suc (length s)) (start_at n first_line) (shorter s (joined blocks last) next f)))

pub dump_as_run : DumpAsRun
dump_as_run s blocks last rest whole = rw (head_near Trace s) (go (read_header_of Trace s) refl)
  where
    go : (h : HeaderRead) → read_header_of Trace s ≡ h → dump_program s ≡ dump_run (read_header_of Trace s) blocks last
    go (Ok (n, next)) e =
        rw e (dump_in_blocks s n next blocks last e (ap (λ k. drop k s) (head_size_lem Trace s n next e) ∙ rest) whole)
    go (Err r) e = unfold dump_program in rw e

pub dump_ends : DumpEnds
unfolding written dump_turn read_trace_of place
dump_ends p e = rw (facts_of p e).masters

pub dump_stays_formed : DumpStaysFormed
dump_stays_formed = (
  λ n few many. test_of (start_at n first_line) (record { masters = masters_ok_lem n few many; room = omega arith; lines = omega arith }),
  λ p block e. stays_formed dump_program_lem (length block) p block e,
)

pub dump_blocks_are_counted : DumpBlocksAreCounted
unfolding dump_block_of
dump_blocks_are_counted =
    record {
      cycles = λ p block room e.
          on_only (λ (a : Progress Position). a.flow) _ (progress_of (dump_stretch p block)) _ (ltb room (dump_room block)) (position_formed p) refl refl e
          (λ formed goes is.
          let q = progress_on (dump_stretch p block) goes in
          let u = whole_used dump_turn (stepping dump_by_lines) (λ p. p.count) dump_counts p (progress_of (dump_stretch p block)).kept block q.0 q.1 in
          rw is (omega (arith, u.at_least, u.at_most, u.counted), u.room (facts_of p formed).room));
      lines = λ p block room e.
          on_only (λ (a : Progress Position). a.flow) _ (progress_of (dump_stretch p block)) _ (ltb room (dump_room block)) (position_formed p) refl refl e
          (λ formed goes is.
          let q = progress_on (dump_stretch p block) goes in
          let u = whole_used dump_turn (stepping dump_by_lines) (λ p. p.count) dump_counts p (progress_of (dump_stretch p block)).kept block q.0 q.1 in
          let l = rw (← progress_kept (dump_stretch p block)) at (stays_level (length block) p block) in
          rw is (omega (arith, u.at_least, u.at_most, u.counted, l)));
    }

pub dump_more_lines_stop : DumpMoreLinesStop
dump_more_lines_stop p block h = more_stop dump_turn (stepping dump_by_lines) (λ p. p.count) dump_counts p block h

pub dump_refused_blocks_kept : DumpRefusedBlocksKept
unfolding dump_block_of dump_block_left
dump_refused_blocks_kept p block buffer h =
    kept (λ (a : Progress Position). a.flow) (λ a. a.kept) _ (progress_of (dump_stretch p block)) _ p _ buffer
    (ltb (length buffer) (dump_room block)) (position_formed p)
    refl (progress_taken (dump_stretch p block)) refl h

pub dump_heads_by_number : DumpHeadsByNumber
unfolding dump_head_of dump_head_left
dump_heads_by_number =
    record {
      short = λ s buffer h. let e = lt-ltb (length buffer) 398 h in (rw e, rw e);
      taken = λ s buffer h. rw (le-ltb (length buffer) 398 h) (progress_taken (dump_headed (read_header_of Trace s)));
    }
