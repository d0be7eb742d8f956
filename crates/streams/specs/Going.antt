-- Where a call stands in a block that it takes line by line.
--
--   whole turn s block == the block taken to its end
--   Program ..         == a line writes no more than most bytes, and what is kept stays well formed
--   Took ..            == the answer of a call that takes one line or step, and the buffer afterwards
--   Going ..           == the lines so far, the bytes they wrote, and that the rest of the block is still to be taken
use Rattle.std.specs.Prelude.{ℕ, ◌*◌, ◌≤◌, ◌≡◌, true, false, List, length, drop, Result, Err, Ok}
use Rattle.streams.specs.Streams.{Turn, Stretch, before, stretch}
use Rattle.streams.specs.Blocks.{Stepping}
use Rattle.streams.specs.Turns.{over, bytes_in, state_after, taken_by, Lined}

abbrev pub whole : {S : Type 0} → (S → List ℕ → Turn S) → S → List ℕ → Stretch S
whole turn s block = stretch turn (length block) s block

pub record Program {S : Type 0} (turn : S → List ℕ → Turn S) (width most : ℕ) (Formed : S → Type 0) : Type 0 where
  pub longest : ℕ
  pub lines : Stepping width longest turn
  pub few : (s : S) (rest : List ℕ) → Formed s → length (bytes_in (turn s rest)) ≤ most
  pub stays : (s : S) (rest : List ℕ) → Formed s → Formed (state_after s (turn s rest))

-- how many bytes were taken and written, and what is kept then; or how many bytes the last line wrote
abbrev pub Took : {K S : Type 0} → (K → S) → (K → Type 0) → Turn S → K → List ℕ → Result (K × ℕ × ℕ) ℕ → List ℕ → Type 0
Took state Ready t kept buffer (Ok (next, taken, w)) left = Lined (state kept) t buffer w true (state next) left × (taken_by t ≡ taken) × Ready next
Took state Ready t kept buffer (Err w) left = Lined (state kept) t buffer w false (state kept) left

-- s₀ is the state at the start of the block, and out₀ the buffer
pub record Going {S : Type 0} (turn : S → List ℕ → Turn S) (width most : ℕ) (Formed : S → Type 0) (s₀ : S) (block out₀ : List ℕ)
    (s : S) (at : ℕ) (out : List ℕ) (w : ℕ) : Type 0 where
  pub formed : Formed s
  pub lines : ℕ
  pub place : lines * width ≤ at
  pub inside : at ≤ length block
  pub few : w ≤ lines * most
  pub bytes : List ℕ
  pub size : length bytes ≡ w
  pub puts : out ≡ over bytes out₀
  pub left : whole turn s₀ block ≡ before bytes (whole turn s (drop at block))
