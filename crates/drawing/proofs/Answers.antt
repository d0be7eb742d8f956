-- The ends of the calls that take a header and a block.
--
--   header_good     == a header that was read has a good n
--   header_put == so the dump's header is written
--   head_short, head_begun, head_refused == the ends of the call that takes a header
--   block_short, block_unformed, block_fit, block_taken == the ends of the call that takes a block
use Rattle.std.specs.Prelude.{Err, Ok}
use Rattle.std.specs.Result.{result_unwrap_or}
use Prim.Native.Nat.{ℕ, ◌+◌, ◌/◌, ◌≤◌, ◌<◌}
use mathlib.Core.Path.{◌≡◌, refl, sym, ap, ◌∙◌}
use mathlib.Core.Bool.{Bool, true, false, not}
use mathlib.Core.List.{List}
use native.Mathlib.Omega.{arith}
use borrow.Author.Tests.{not-true, not-false}
use lib.ListN.{length}
use Rattle.rules.specs.declared.Refusal.{Refusal}
use Rattle.rules.specs.State.{masters_ok}
use Rattle.formats.specs.declared.Word.TheVariants.{Trace}
use Rattle.formats.specs.Results.{HeaderRead, Written}
use Rattle.formats.specs.Headers.{read_header_of}
use Rattle.formats.specs.Report.{refused_line}
use Rattle.formats.proofs.Limits.{range_ok}
use Rattle.formats.proofs.Headers.{header_writes}
use Rattle.streams.specs.declared.Flow.TheVariants.{GoesOn, Stopped, Short, Unformed}
use Rattle.streams.specs.Blocks.{progress_of, bytes_of}
use Rattle.streams.specs.Turns.{over, Put, size_of}
use Rattle.waves.specs.Header.{dump_header, write_dump_header_of, dump_header_written}
use Rattle.conversions.specs.declared.Position.{Position}
use Rattle.streams.specs.declared.Progress.{Progress}
use Rattle.conversions.specs.Positions.{start_at, position_formed}
use Rattle.conversions.specs.Dumping.{first_line}
use Rattle.conversions.specs.Blocks.{dump_room, dump_stretch, dump_block_of, dump_block_left}
use Rattle.conversions.specs.Heads.{dump_head_room, dump_headed, dump_head_of, dump_head_left}
use Rattle.conversions.proofs.DumpHeads.{dump_header_fits}
use Rattle.streams.proofs.Taken.{few_lines, many_lines, short, unformed, taken}

pub header_good : (s : List ℕ) (a : HeaderRead) (n next : ℕ) → a ≡ read_header_of Trace s → a ≡ Ok (n, next) → masters_ok n ≡ true
header_good s a n next e f = range_ok n (header_writes Trace s n next (sym e ∙ f)).range

sized : (w : Written) → result_unwrap_or w 0 ≡ size_of w
sized (Ok k) = refl
sized (Err r) = refl

module _ (n : ℕ) (buffer out : List ℕ) (w : Written) (h : (masters_ok n ≡ true) × (398 ≤ length buffer))
    (e : (w ≡ write_dump_header_of n (length buffer)) × (out ≡ dump_header_written n buffer)) where
  pub header_put : (k : ℕ) → k ≡ result_unwrap_or w 0 → Put (dump_header n) buffer k out
  header_put k f = rw (f ∙ sized w) (dump_header_fits n h.0 buffer out w h.1 e)

module _ (s buffer : List ℕ) (p : Position) where
  pub head_short : length buffer < dump_head_room → p ≡ start_at 0 first_line
      → (record { written = 0; flow = Short; kept = p } ≡ dump_head_of s (length buffer)) × (buffer ≡ dump_head_left s buffer)
  unfolding dump_head_of dump_head_left
  head_short h f = rw f (short dump_head_room true (start_at 0 first_line) (dump_headed (read_header_of Trace s)) buffer h)

  module _ (a : HeaderRead) (k : ℕ) (out : List ℕ) (room : dump_head_room ≤ length buffer) (e : a ≡ read_header_of Trace s) where
    pub head_begun : (n next : ℕ) → a ≡ Ok (n, next) → Put (dump_header n) buffer k out → p ≡ start_at n first_line
        → (record { written = k; flow = GoesOn; kept = p } ≡ dump_head_of s (length buffer)) × (out ≡ dump_head_left s buffer)
    unfolding dump_head_of dump_head_left
    head_begun n next f put g =
        let q : read_header_of Trace s ≡ Ok (n, next) = sym e ∙ f in
        taken dump_head_room true (start_at 0 first_line) (dump_headed (read_header_of Trace s)) buffer room refl _ out
        (rw (q, g, put.size), rw q put.puts)

    pub head_refused : (r : Refusal) → a ≡ Err r → Put (refused_line 1 r) buffer k out → p ≡ start_at 0 first_line
        → (record { written = k; flow = Stopped; kept = p } ≡ dump_head_of s (length buffer)) × (out ≡ dump_head_left s buffer)
    unfolding dump_head_of dump_head_left
    head_refused r f put g =
        let q : read_header_of Trace s ≡ Err r = sym e ∙ f in
        taken dump_head_room true (start_at 0 first_line) (dump_headed (read_header_of Trace s)) buffer room refl _ out
        (rw (q, g, put.size), rw q put.puts)

module _ (p : Position) (block out : List ℕ) where
  pub block_short : length out / 104 < length block / 31 + 1
      → (record { written = 0; flow = Short; kept = p } ≡ dump_block_of p block (length out)) × (out ≡ dump_block_left p block out)
  unfolding dump_block_of dump_block_left
  block_short h =
      short (dump_room block) (position_formed p) p (dump_stretch p block) out (few_lines 31 104 (omega arith) block out h)

  module _ (formed : Bool) (big : length block / 31 + 1 ≤ length out / 104) (e : formed ≡ position_formed p) where
    enough : dump_room block ≤ length out
    enough = many_lines 31 104 (omega arith) block out big

    pub block_unformed : not formed ≡ true
        → (record { written = 0; flow = Unformed; kept = p } ≡ dump_block_of p block (length out)) × (out ≡ dump_block_left p block out)
    unfolding dump_block_of dump_block_left
    block_unformed n = unformed (dump_room block) (position_formed p) p (dump_stretch p block) out enough (sym e ∙ not-true formed n)

    pub block_fit : not formed ≡ false → (position_formed p ≡ true) × (dump_room block ≤ length out)
    block_fit n = (sym e ∙ not-false formed n, enough)

    pub block_taken : (r : Progress Position) (left : List ℕ) → not formed ≡ false
        → (r ≡ progress_of (dump_stretch p block)) × (left ≡ over (bytes_of (dump_stretch p block)) out)
        → (r ≡ dump_block_of p block (length out)) × (left ≡ dump_block_left p block out)
    unfolding dump_block_of dump_block_left
    block_taken r left n h =
        taken (dump_room block) (position_formed p) p (dump_stretch p block) out enough (sym e ∙ not-false formed n) r left h
