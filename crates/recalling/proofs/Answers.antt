-- The answers of the calls that take a header and a block.
--
--   header_good     == a header that was read has a good n
--   head_short, head_begun, head_refused == 9, the trace's header and the start, or the line of a refusal
--   block_short, block_unformed, block_fit, block_formed == 9, 10, or the stretch
use Rattle.std.specs.Prelude.{Err, Ok}
use Prim.Native.Nat.{ℕ, ◌+◌, ◌/◌, ◌≤◌, ◌<◌}
use mathlib.Core.Path.{◌≡◌, refl, sym, ◌∙◌}
use mathlib.Core.Bool.{Bool, true, false, not}
use mathlib.Core.List.{List}
use native.Mathlib.Omega.{arith}
use borrow.Author.Tests.{not-true, not-false}
use lib.ListN.{length}
use Rattle.rules.specs.declared.Refusal.{Refusal}
use Rattle.rules.specs.State.{masters_ok}
use Rattle.formats.specs.declared.Word.TheVariants.{Trace}
use Rattle.formats.specs.Results.{HeaderRead}
use Rattle.formats.specs.Headers.{header}
use Rattle.formats.specs.Report.{refused_line}
use Rattle.streams.specs.declared.Flow.TheVariants.{GoesOn, Stopped, Short, Unformed}
use Rattle.streams.specs.Blocks.{progress_of, bytes_of}
use Rattle.streams.specs.Turns.{over, Put}
use Rattle.waves.specs.Header.{read_dump_header_of}
use Rattle.conversions.specs.declared.Position.{Position}
use Rattle.streams.specs.declared.Progress.{Progress}
use Rattle.conversions.specs.Positions.{start_at, position_formed}
use Rattle.conversions.specs.Undumping.{first_step}
use Rattle.conversions.specs.Blocks.{undump_room, undump_stretch, undump_block_of, undump_block_left}
use Rattle.conversions.specs.Heads.{undump_head_room, undump_headed, undump_head_of, undump_head_left}
use Rattle.streams.proofs.Taken.{few_lines, many_lines, short, unformed, taken}
use Rattle.conversions.proofs.UndumpHeads.{undump_head_good}

pub header_good : (s : List ℕ) (a : HeaderRead) (n next : ℕ) → a ≡ read_dump_header_of s → a ≡ Ok (n, next) → masters_ok n ≡ true
header_good s a n next e f = undump_head_good s n next (sym e ∙ f)

module _ (s buffer : List ℕ) (p : Position) where
  pub head_short : length buffer < undump_head_room → p ≡ start_at 0 first_step
      → (record { written = 0; flow = Short; kept = p } ≡ undump_head_of s (length buffer)) × (buffer ≡ undump_head_left s buffer)
  unfolding undump_head_of undump_head_left
  head_short h e = rw e (short 31 true (start_at 0 first_step) (undump_headed (read_dump_header_of s)) buffer h)

  module _ (a : HeaderRead) (room : undump_head_room ≤ length buffer) (e : a ≡ read_dump_header_of s) where
    -- what the header came to
    headed : (r : Progress Position) (out : List ℕ) → (r ≡ progress_of (undump_headed a)) × (out ≡ over (bytes_of (undump_headed a)) buffer)
        → (r ≡ undump_head_of s (length buffer)) × (out ≡ undump_head_left s buffer)
    unfolding undump_head_of undump_head_left
    headed r out h = taken 31 true (start_at 0 first_step) (undump_headed (read_dump_header_of s)) buffer room refl r out (rw e at h)

    pub head_begun : (n next k : ℕ) (out : List ℕ) → a ≡ Ok (n, next) → Put (header Trace n) buffer k out → p ≡ start_at n first_step
        → (record { written = k; flow = GoesOn; kept = p } ≡ undump_head_of s (length buffer)) × (out ≡ undump_head_left s buffer)
    head_begun n next k out f put g = headed _ out (rw (f, g, put.size), rw f put.puts)

    pub head_refused : (r : Refusal) (k : ℕ) (out : List ℕ) → a ≡ Err r → Put (refused_line 1 r) buffer k out → p ≡ start_at 0 first_step
        → (record { written = k; flow = Stopped; kept = p } ≡ undump_head_of s (length buffer)) × (out ≡ undump_head_left s buffer)
    head_refused r k out f put g = headed _ out (rw (f, g, put.size), rw f put.puts)

module _ (p : Position) (block out : List ℕ) where
  pub block_short : length out / 31 < length block / 3 + 1
      → (record { written = 0; flow = Short; kept = p } ≡ undump_block_of p block (length out)) × (out ≡ undump_block_left p block out)
  unfolding undump_block_of undump_block_left
  block_short h = short (undump_room block) (position_formed p) p (undump_stretch p block) out (few_lines 3 31 (omega arith) block out h)

  module _ (formed : Bool) (big : length block / 3 + 1 ≤ length out / 31) (e : formed ≡ position_formed p) where
    roomy : undump_room block ≤ length out
    roomy = many_lines 3 31 (omega arith) block out big

    pub block_unformed : not formed ≡ true
        → (record { written = 0; flow = Unformed; kept = p } ≡ undump_block_of p block (length out)) × (out ≡ undump_block_left p block out)
    unfolding undump_block_of undump_block_left
    block_unformed n = unformed (undump_room block) (position_formed p) p (undump_stretch p block) out roomy (sym e ∙ not-true formed n)

    pub block_fit : not formed ≡ false → (position_formed p ≡ true) × (undump_room block ≤ length out)
    block_fit n = (sym e ∙ not-false formed n, roomy)

    pub block_formed : (r : Progress Position) (left : List ℕ) → not formed ≡ false
        → (r ≡ progress_of (undump_stretch p block)) × (left ≡ over (bytes_of (undump_stretch p block)) out)
        → (r ≡ undump_block_of p block (length out)) × (left ≡ undump_block_left p block out)
    unfolding undump_block_of undump_block_left
    block_formed r left n h = taken (undump_room block) (position_formed p) p (undump_stretch p block) out roomy (block_fit n).0 r left h
