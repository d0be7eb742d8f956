-- The calls of the arbiter program.
--
--   taken   == a block that has room, from a state that is well formed, is taken
--   headed  == what a header comes to where it has room
use Rattle.std.specs.Prelude.{Result, Err, Ok}
use Prim.Native.Nat.{ℕ, ◌≤◌}
use mathlib.Core.Path.{◌≡◌, refl}
use mathlib.Core.Bool.{true}
use mathlib.Core.List.{List}
use borrow.Author.Tests.{le-ltb}
use Rattle.rules.specs.declared.State.{State}
use Rattle.rules.specs.State.{reset_state, well_formed}
use Rattle.formats.specs.declared.Word.TheVariants.{Stim}
use Rattle.formats.specs.Results.{HeaderRead}
use Rattle.formats.specs.Headers.{read_header_of}
use Rattle.streams.specs.Blocks.{arbiter_room, progress_of, arbiter_stretch, arbiter_block_of}
use Rattle.streaming.specs.declared.ArbiterHead.{ArbiterHead}
use Rattle.streaming.specs.declared.ArbiterHead.TheVariants.{Begun, Refused, Short}
use Rattle.streaming.specs.Heads.{head_room, arbiter_headed, arbiter_head_of}
use Rattle.console.specs.Programs.{Headed}

pub taken : (s : State) (block : List ℕ) (room : ℕ) → well_formed s ≡ true → arbiter_room block ≤ room
    → arbiter_block_of s block room ≡ progress_of (arbiter_stretch s block)
unfolding arbiter_block_of
taken s block room f h = let l = le-ltb room (arbiter_room block) h in rw (l, f)

abbrev answer : ArbiterHead → Result (ℕ × State) ℕ
answer (Begun written s) = Ok (written, s)
answer (Refused written) = Err written
answer Short = Err 0

answered : (h : HeaderRead) → Headed reset_state h (answer (arbiter_headed h))
answered (Ok (n, next)) = refl
answered (Err r) = tt

pub headed : (head : List ℕ) (room : ℕ) → head_room ≤ room → (a : ArbiterHead) → a ≡ arbiter_head_of head room → Headed reset_state (read_header_of Stim head) (answer a)
unfolding arbiter_head_of
headed head room wide a e = let l = le-ltb room head_room wide in rw (e, l) (answered (read_header_of Stim head))
