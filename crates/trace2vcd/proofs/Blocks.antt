-- The calls of trace2vcd.
--
--   taken   == a block that has room, at a position that is well formed, is taken
--   headed  == what a header comes to where it has room
use Rattle.std.specs.Prelude.{Err, Ok}
use Prim.Native.Nat.{ℕ, ◌≤◌}
use mathlib.Core.Path.{◌≡◌, refl}
use mathlib.Core.Bool.{true}
use mathlib.Core.List.{List}
use borrow.Author.Tests.{le-ltb}
use Rattle.formats.specs.declared.Word.TheVariants.{Trace}
use Rattle.formats.specs.Results.{HeaderRead}
use Rattle.formats.specs.Headers.{read_header_of}
use Rattle.streams.specs.declared.Progress.{Progress}
use Rattle.streams.specs.Blocks.{progress_of}
use Rattle.conversions.specs.declared.Position.{Position}
use Rattle.conversions.specs.Positions.{position_formed}
use Rattle.conversions.specs.Blocks.{dump_room, dump_stretch, dump_block_of}
use Rattle.conversions.specs.Heads.{dump_head_room, dump_headed, dump_head_of}
use Rattle.console.specs.Programs.{Headed, headed_of}
use Rattle.trace2vcd.specs.Answers.{begun_with}

pub taken : (p : Position) (block : List ℕ) (room : ℕ) → position_formed p ≡ true → dump_room block ≤ room
    → dump_block_of p block room ≡ progress_of (dump_stretch p block)
unfolding dump_block_of
taken p block room f h = let l = le-ltb room (dump_room block) h in rw (l, f)

answered : (h : HeaderRead) → Headed begun_with h (headed_of (progress_of (dump_headed h)))
answered (Ok (n, next)) = refl
answered (Err r) = tt

pub headed : (head : List ℕ) (room : ℕ) → dump_head_room ≤ room → (a : Progress Position) → a ≡ dump_head_of head room
    → Headed begun_with (read_header_of Trace head) (headed_of a)
unfolding dump_head_of
headed head room wide a e = let l = le-ltb room dump_head_room wide in rw (e, l) (answered (read_header_of Trace head))
