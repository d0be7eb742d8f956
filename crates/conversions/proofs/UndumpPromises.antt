-- What is promised of the program vcd2trace as it runs.
use Rattle.std.specs.Prelude.{Err, Ok}
use Prim.Native.Nat.{ℕ, suc}
use mathlib.Core.Path.{◌≡◌, refl, ap, ◌∙◌}
use mathlib.Core.List.{List, ◌++◌}
use native.Mathlib.Omega.{arith}
use borrow.Author.Tests.{lt-ltb, le-ltb}
use lib.Dec.{ltb}
use lib.ListN.{length, drop}
use Rattle.rules.proofs.WellFormed.{masters_ok_lem}
use Rattle.formats.specs.declared.Word.TheVariants.{Trace}
use Rattle.formats.specs.Results.{HeaderRead}
use Rattle.formats.specs.Headers.{header}
use Rattle.streams.specs.Streams.{written}
use Rattle.streams.specs.Blocks.{progress_of, joined, in_blocks, AllCut}
use Rattle.streams.proofs.Cut.{in_blocks_lem}
use Rattle.streams.proofs.Stays.{stays_formed}
use Rattle.streams.proofs.Enough.{whole_used, more_stop, on_only}
use Rattle.streams.proofs.Promises.{shorter, kept}
use Rattle.waves.specs.Header.{read_dump_header_of}
use Rattle.waves.specs.Reading.{read_step_of}
use Rattle.streams.specs.declared.Progress.{Progress}
use Rattle.conversions.specs.declared.Position.{Position}
use Rattle.conversions.specs.Positions.{start_at, position_formed}
use Rattle.conversions.specs.Undumping.{first_step, undump_turn, undump_program}
use Rattle.conversions.specs.Blocks.{BetweenSteps, undump_room, undump_stretch, undump_block_of, undump_block_left}
use Rattle.conversions.specs.Heads.{undump_headed, undump_head_of, undump_head_left}
use Rattle.conversions.specs.UndumpPromises.{undump_run, UndumpAsRun, UndumpStaysFormed, UndumpRefusedKept, UndumpHeadsByNumber, UndumpBlocksAreCounted, MoreStepsStop, UndumpEnds}
use Rattle.conversions.proofs.Positions.{facts_of, test_of}
use Rattle.streams.proofs.Taken.{progress_taken, progress_on}
use Rattle.conversions.proofs.UndumpHeads.{undump_head_near, undump_head_size_lem}
use Rattle.conversions.proofs.UndumpLines.{undump_stepping, undump_cutting, undump_counts, undump_program_lem}

undump_in_blocks : (s : List ℕ) (n next : ℕ) (blocks : List (List ℕ)) (last : List ℕ) → read_dump_header_of s ≡ Ok (n, next)
    → drop next s ≡ joined blocks last → AllCut BetweenSteps blocks last
    → undump_program s ≡ header Trace n ++ in_blocks undump_turn (start_at n first_step) blocks last
unfolding undump_program
undump_in_blocks s n next blocks last e f cuts =
    rw (e, f)
    (ap (λ (l : List ℕ). header Trace n ++ l)
    (in_blocks_lem undump_turn undump_stepping undump_cutting blocks last cuts (suc (length s)) (start_at n first_step) (shorter s (joined blocks last) next f)))

pub undump_as_run : UndumpAsRun
undump_as_run s blocks last rest cuts = rw (undump_head_near s) (go (read_dump_header_of s) refl)
  where
    go : (h : HeaderRead) → read_dump_header_of s ≡ h → undump_program s ≡ undump_run (read_dump_header_of s) blocks last
    go (Ok (n, next)) e =
        rw e (undump_in_blocks s n next blocks last e (ap (λ k. drop k s) (undump_head_size_lem s n next e) ∙ rest) cuts)
    go (Err r) e = unfold undump_program in rw e

pub undump_stays_formed : UndumpStaysFormed
undump_stays_formed = (
  λ n few many. test_of _ (record { masters = masters_ok_lem n few many; room = omega arith; lines = omega arith }),
  λ p block e. stays_formed undump_program_lem (length block) p block e,
)

pub undump_blocks_are_counted : UndumpBlocksAreCounted
unfolding undump_block_of
undump_blocks_are_counted p block room e =
    on_only (λ (a : Progress Position). a.flow) _ (progress_of (undump_stretch p block)) _ (ltb room (undump_room block)) (position_formed p) refl refl e
    (λ formed goes is.
    let q = progress_on (undump_stretch p block) goes in
    let u = whole_used undump_turn undump_stepping (λ p. p.count) undump_counts p (progress_of (undump_stretch p block)).kept block q.0 q.1 in
    rw is
    (record {
      steps = u.lines;
      count = u.counted;
      room = u.room (facts_of p formed).room;
      at_least = u.at_least;
      at_most = u.at_most;
    }))

pub more_steps_stop : MoreStepsStop
more_steps_stop p block h = more_stop undump_turn undump_stepping (λ p. p.count) undump_counts p block h

pub undump_refused_kept : UndumpRefusedKept
unfolding undump_block_of undump_block_left
undump_refused_kept p block buffer h =
    kept (λ (a : Progress Position). a.flow) (λ a. a.kept) _ (progress_of (undump_stretch p block)) _ p _ buffer
    (ltb (length buffer) (undump_room block)) (position_formed p)
    refl (progress_taken (undump_stretch p block)) refl h

pub undump_heads_by_number : UndumpHeadsByNumber
unfolding undump_head_of undump_head_left
undump_heads_by_number =
    record {
      short = λ s buffer h. let e = lt-ltb (length buffer) 31 h in (rw e, rw e);
      taken = λ s buffer h. rw (le-ltb (length buffer) 31 h) (progress_taken (undump_headed (read_dump_header_of s)));
    }

pub undump_ends : UndumpEnds
unfolding written undump_turn read_step_of
undump_ends p e = rw (facts_of p e).masters
