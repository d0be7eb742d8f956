-- The calls of vcd2trace.
--
--   taken   == a block that has room, at a position that is well formed, is taken
--   headed  == what a header comes to where it has room
use Rattle.std.specs.Prelude.{Err, Ok}
use Prim.Native.Nat.{ℕ, ◌≤◌}
use mathlib.Core.Path.{◌≡◌, refl}
use mathlib.Core.Bool.{true}
use mathlib.Core.List.{List}
use borrow.Author.Tests.{le-ltb}
use Rattle.formats.specs.Results.{HeaderRead}
use Rattle.streams.specs.declared.Progress.{Progress}
use Rattle.streams.specs.Blocks.{progress_of}
use Rattle.waves.specs.Header.{read_dump_header_of}
use Rattle.conversions.specs.declared.Position.{Position}
use Rattle.conversions.specs.Positions.{position_formed}
use Rattle.conversions.specs.Blocks.{undump_room, undump_stretch, undump_block_of}
use Rattle.conversions.specs.Heads.{undump_head_room, undump_headed, undump_head_of}
use Rattle.console.specs.Programs.{Headed, headed_of}
use Rattle.vcd2trace.specs.Answers.{begun_with}

pub taken : (p : Position) (block : List ℕ) (room : ℕ) → position_formed p ≡ true → undump_room block ≤ room
    → undump_block_of p block room ≡ progress_of (undump_stretch p block)
unfolding undump_block_of
taken p block room f h = let l = le-ltb room (undump_room block) h in rw (l, f)

answered : (h : HeaderRead) → Headed begun_with h (headed_of (progress_of (undump_headed h)))
answered (Ok (n, next)) = refl
answered (Err r) = tt

pub headed : (head : List ℕ) (room : ℕ) → undump_head_room ≤ room → (a : Progress Position) → a ≡ undump_head_of head room
    → Headed begun_with (read_dump_header_of head) (headed_of a)
unfolding undump_head_of
headed head room wide a e = let l = le-ltb room undump_head_room wide in rw (e, l) (answered (read_dump_header_of head))
