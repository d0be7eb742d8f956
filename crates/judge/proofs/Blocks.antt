-- The calls of the judging program.
--
--   taken   == a block that has room, with what is well formed, is taken
--   headed  == what a header comes to where it has room
use Rattle.std.specs.Prelude.{Err, Ok}
use Prim.Native.Nat.{ℕ, ◌≤◌}
use mathlib.Core.Path.{◌≡◌, refl}
use mathlib.Core.List.{List}
use borrow.Author.Tests.{le-ltb}
use Rattle.formats.specs.declared.Word.TheVariants.{Trace}
use Rattle.formats.specs.Results.{HeaderRead}
use Rattle.formats.specs.Headers.{read_header_of}
use Rattle.streams.specs.declared.Progress.{Progress}
use Rattle.streams.specs.declared.Tally.{Tally}
use Rattle.streams.specs.Judging.{start_tally}
use Rattle.streams.specs.Breaches.{Formed}
use Rattle.streams.specs.Blocks.{judge_room, progress_of, judge_stretch, judge_block_of}
use Rattle.streams.proofs.Stays.{tally_test}
use Rattle.streaming.specs.Heads.{head_room, judge_headed, judge_head_of}
use Rattle.console.specs.Programs.{Headed, headed_of}

pub taken : (b : Tally) (block : List ℕ) (room : ℕ) → Formed b → judge_room block ≤ room → judge_block_of b block room ≡ progress_of (judge_stretch b block)
unfolding judge_block_of
taken b block room f h = let l = le-ltb room (judge_room block) h in let ok = tally_test b f in rw (l, ok)

answered : (h : HeaderRead) → Headed start_tally h (headed_of (progress_of (judge_headed h)))
answered (Ok (n, next)) = refl
answered (Err r) = tt

pub headed : (head : List ℕ) (room : ℕ) → head_room ≤ room → (a : Progress Tally) → a ≡ judge_head_of head room → Headed start_tally (read_header_of Trace head) (headed_of a)
unfolding judge_head_of
headed head room wide a e = let l = le-ltb room head_room wide in rw (e, l) (answered (read_header_of Trace head))
