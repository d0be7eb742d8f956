-- The ends of the calls that take a header, and of the one that writes the end line.
--
--   reset_ready, reset_never == a reset of a good n
--   header_good     == a header that was read has a good n
--   arbiter_too_short, arbiter_begun, arbiter_refused == the ends of the arbiter's call
--   judge_too_short, judge_begun, judge_refused == the ends of the judging program's
--   end_unformed, end_wrote == the ends of the call that writes the end line
use Rattle.std.specs.Prelude.{Err, Ok}
use Prim.Native.Nat.{ℕ, ◌≤◌, ◌<◌}
use mathlib.Core.Path.{◌≡◌, sym, ◌∙◌}
use mathlib.Core.Bool.{Bool, true, false, not}
use mathlib.Core.List.{List, []}
use native.Mathlib.Omega.{arith}
use borrow.Author.Tests.{lt-ltb, le-ltb, not-true, not-false}
use lib.ListN.{length}
use Rattle.rules.specs.declared.Refusal.{Refusal}
use Rattle.rules.specs.declared.Refusal.TheVariants as refusal
use Rattle.rules.specs.declared.State.{State}
use Rattle.rules.specs.Results.{Start}
use Rattle.rules.specs.State.{masters_ok, reset_state, reset_of}
use Rattle.rulebook.specs.State.{start_of, well_formed as judge_formed}
use Rattle.rules.proofs.Choice.{and_left, and_right}
use Rattle.formats.specs.declared.Word.{Word}
use Rattle.formats.specs.declared.Word.TheVariants.{Stim, Trace}
use Rattle.formats.specs.Results.{HeaderRead, Written}
use Rattle.formats.specs.Headers.{header, read_header_of}
use Rattle.formats.specs.Lines.{place, read_trace_of}
use Rattle.formats.specs.Report.{end_line, refused_line, write_of, written_of}
use Rattle.formats.proofs.Limits.{range_ok}
use Rattle.formats.proofs.Headers.{header_writes}
use Rattle.streams.specs.declared.Tally.{Tally}
use Rattle.streams.specs.declared.Flow.TheVariants as flow
use Rattle.streams.specs.Streams.{written}
use Rattle.streams.specs.Judging.{judge_turn, start_tally}
use Rattle.streams.specs.Blocks.{tally_formed}
use Rattle.streaming.specs.declared.ArbiterHead.{ArbiterHead}
use Rattle.streaming.specs.declared.ArbiterHead.TheVariants.{Begun, Refused, Short}
use Rattle.streams.specs.Turns.{over, Put}
use Rattle.streaming.specs.Heads.{head_room, arbiter_head_of, arbiter_head_left, judge_head_of, judge_head_left, judge_end_of, judge_end_left}

module _ (n : ℕ) (good : masters_ok n ≡ true) (a : Start) (e : a ≡ reset_of n) where
  ready_is : a ≡ Ok (reset_state n)
  unfolding reset_of
  ready_is = e ∙ rw good

  pub reset_ready : (buffer : List ℕ) (s : State) (k : ℕ) (out : List ℕ) → a ≡ Ok s → Put (header Trace n) buffer k out
      → (Begun k s ≡ Begun (length (header Trace n)) (reset_state n)) × (out ≡ over (header Trace n) buffer)
  reset_ready buffer s k out f p =
      let r = ready_is in
      let q : s ≡ reset_state n = cc in
      (rw (q, p.size), p.puts)

  pub reset_never : (r : Refusal) → a ≡ Err r → {P : Type 0} → P
  reset_never r f = let s = ready_is in let z : ◌≡◌ {A = ℕ} 0 1 = cc in absurd (omega arith)

pub header_good : (w : Word) (s : List ℕ) (a : HeaderRead) (n next : ℕ) → a ≡ read_header_of w s → a ≡ Ok (n, next) → masters_ok n ≡ true
header_good w s a n next e f = range_ok n (header_writes w s n next (sym e ∙ f)).range

module _ (s buffer : List ℕ) where
  pub arbiter_too_short : length buffer < head_room → (Short ≡ arbiter_head_of s (length buffer)) × (buffer ≡ arbiter_head_left s buffer)
  unfolding arbiter_head_of arbiter_head_left
  arbiter_too_short h = let t = lt-ltb (length buffer) 31 h in (rw t, rw t)

  module _ (a : HeaderRead) (room : head_room ≤ length buffer) (e : a ≡ read_header_of Stim s) where
    pub arbiter_begun : (n next : ℕ) (r : ArbiterHead) (out : List ℕ) → a ≡ Ok (n, next)
        → (r ≡ Begun (length (header Trace n)) (reset_state n)) × (out ≡ over (header Trace n) buffer)
        → (r ≡ arbiter_head_of s (length buffer)) × (out ≡ arbiter_head_left s buffer)
    unfolding arbiter_head_of arbiter_head_left
    arbiter_begun n next r out f h =
        let t = le-ltb (length buffer) 31 room in
        let q : read_header_of Stim s ≡ Ok (n, next) = sym e ∙ f in
        (rw (t, q) h.0, rw (t, q) h.1)

    pub arbiter_refused : (r : Refusal) (k : ℕ) (out : List ℕ) → a ≡ Err r → Put (refused_line 1 r) buffer k out
        → (Refused k ≡ arbiter_head_of s (length buffer)) × (out ≡ arbiter_head_left s buffer)
    unfolding arbiter_head_of arbiter_head_left
    arbiter_refused r k out f p =
        let t = le-ltb (length buffer) 31 room in
        let q : read_header_of Stim s ≡ Err r = sym e ∙ f in
        (rw (t, q, p.size), rw (t, q) p.puts)

-- a start, for a good n and for none
started : (n : ℕ) (b : Tally) → masters_ok n ≡ true → b ≡ record { judge = (start_of n).judge; breaches = 0 } → b ≡ start_tally n
unfolding start_of
started n b good e = e ∙ rw good

not_started : (b : Tally) → b ≡ record { judge = (start_of 0).judge; breaches = 0 } → b ≡ start_tally 0
unfolding start_of
not_started b e = e

module _ (s buffer : List ℕ) (b : Tally) where
  pub judge_too_short : length buffer < head_room → b ≡ record { judge = (start_of 0).judge; breaches = 0 }
      → (record { written = 0; flow = flow.Short; kept = b } ≡ judge_head_of s (length buffer)) × (buffer ≡ judge_head_left s buffer)
  unfolding judge_head_of judge_head_left
  judge_too_short h f = let t = lt-ltb (length buffer) 31 h in (rw (t, not_started b f), rw t)

  module _ (a : HeaderRead) (room : head_room ≤ length buffer) (e : a ≡ read_header_of Trace s) where
    pub judge_begun : (n next : ℕ) → a ≡ Ok (n, next) → b ≡ record { judge = (start_of n).judge; breaches = 0 }
        → (record { written = 0; flow = flow.GoesOn; kept = b } ≡ judge_head_of s (length buffer)) × (buffer ≡ judge_head_left s buffer)
    unfolding judge_head_of judge_head_left
    judge_begun n next f g =
        let t = le-ltb (length buffer) 31 room in
        let q : read_header_of Trace s ≡ Ok (n, next) = sym e ∙ f in
        (rw (t, q, started n b (header_good Trace s a n next e f) g), rw (t, q))

    pub judge_refused : (r : Refusal) (k : ℕ) (out : List ℕ) → a ≡ Err r → b ≡ record { judge = (start_of 0).judge; breaches = 0 }
        → Put (refused_line 1 r) buffer k out
        → (record { written = k; flow = flow.Stopped; kept = b } ≡ judge_head_of s (length buffer)) × (out ≡ judge_head_left s buffer)
    unfolding judge_head_of judge_head_left
    judge_refused r k out f g p =
        let t = le-ltb (length buffer) 31 room in
        let q : read_header_of Trace s ≡ Err r = sym e ∙ f in
        (rw (t, q, not_started b g, p.size), rw (t, q) p.puts)

-- where nothing is left, a judge of a good n ends
pub end_is : (b : Tally) → masters_ok b.judge.n ≡ true → written judge_turn 1 b [] ≡ end_line b.judge.count b.breaches
unfolding written judge_turn read_trace_of place
end_is b good = rw good

pub formed_good : (b : Tally) → tally_formed b ≡ true → masters_ok b.judge.n ≡ true
unfolding tally_formed judge_formed
formed_good b e = search (and_left, and_right) depth 12

module _ (b : Tally) (formed : Bool) (e : formed ≡ tally_formed b) (buffer : List ℕ) where
  pub end_unformed : not formed ≡ true → (Err refusal.State ≡ judge_end_of b (length buffer)) × (buffer ≡ judge_end_left b buffer)
  unfolding judge_end_of judge_end_left
  end_unformed n = let f : tally_formed b ≡ false = sym e ∙ not-true formed n in (rw f, rw f)

  pub end_wrote : (w : Written) (out : List ℕ) → not formed ≡ false
      → (w ≡ write_of (end_line b.judge.count b.breaches) (length buffer)) × (out ≡ written_of (end_line b.judge.count b.breaches) buffer)
      → (w ≡ judge_end_of b (length buffer)) × (out ≡ judge_end_left b buffer)
  unfolding judge_end_of judge_end_left
  end_wrote w out n h =
      let f : tally_formed b ≡ true = sym e ∙ not-false formed n in
      let q = end_is b (formed_good b f) in
      (rw (f, q) h.0, rw (f, q) h.1)
