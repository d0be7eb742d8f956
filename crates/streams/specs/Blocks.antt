-- Wherever the blocks are cut: a program that goes through whole lines or steps, block by block, writes the same.
--
--   Whole w a        == the block a is a whole number of lines of w bytes
--   Stepping least most turn == a turn takes at least and at most so many bytes, which are there, and stops where nothing is left
--   Cutting turn Cut == the input may be cut between a and b where Cut a b holds
--   ByLines w turn   == a turn looks at no more than the first w bytes of its input, goes on only after them, and stops where nothing is left
--   in_blocks turn s blocks last == what is written block by block; the last one ends the input, and may be cut
--   tally_formed b   == what the judging program keeps is well formed
--   progress_of, progress_in == a stretch as a call answers it: where it was taken, and where it may be refused
--   flow_answer f    == the number that a call answers which takes one block: 0, or that of its refusal
--   arbiter_block_of, arbiter_block_left, judge_block_of, judge_block_left == the answers of the calls that take one block, and the buffer afterwards
use Rattle.std.specs.Prelude.{ℕ, ◌+◌, ◌*◌, ◌/◌, ◌≤◌, ◌<◌, ◌≡◌, Bool, ◌&&◌, cond, List, [], ◌∷◌, ◌++◌, ltb, leb, length, drop}
use Rattle.rules.specs.declared.Refusal.TheVariants as refusal
use Rattle.rules.specs.declared.State.{State}
use Rattle.rules.specs.Refusals.{number_of}
use Rattle.rules.specs.State.{well_formed}
use Rattle.rulebook.specs.Rules.{rules}
use Rattle.rulebook.specs.State.{well_formed as judge_formed}
use Rattle.streams.specs.declared.Flow.{Flow}
use Rattle.streams.specs.declared.Flow.TheVariants.{GoesOn, Stopped, Short, Unformed}
use Rattle.streams.specs.declared.Progress.{Progress}
use Rattle.streams.specs.declared.Tally.{Tally}
use Rattle.streams.specs.Streams.{Turn, goes, stops, written, Stretch, on, done, stretch, then}
use Rattle.streams.specs.Arbiter.{arbiter_turn}
use Rattle.streams.specs.Judging.{judge_turn}

pub record Whole (w : ℕ) (a : List ℕ) : Type 0 where
  pub lines : ℕ
  pub size : length a ≡ lines * w

-- a turn goes on only after so many bytes of its input, and stops where nothing is left
pub record Stepping {S : Type 0} (least most : ℕ) (turn : S → List ℕ → Turn S) : Type 0 where
  pub some : 1 ≤ least
  pub last : (s : S) → (bytes : List ℕ) × (turn s [] ≡ stops bytes)
  pub next : (s : S) (rest bytes : List ℕ) (t : S) (k : ℕ) → turn s rest ≡ goes bytes t k → (least ≤ k) × (k ≤ most) × (k ≤ length rest)

-- before a place where the input may be cut a turn does not look beyond it, and what it leaves may be cut there too
pub record Cutting {S : Type 0} (turn : S → List ℕ → Turn S) (Cut : List ℕ → List ℕ → Type 0) : Type 0 where
  pub near : (s : S) (a b : List ℕ) → Cut a b → 0 < length a → turn s (a ++ b) ≡ turn s a
  pub rest : (s : S) (a b bytes : List ℕ) (t : S) (k : ℕ) → Cut a b → turn s a ≡ goes bytes t k → Cut (drop k a) b

pub record ByLines {S : Type 0} (w : ℕ) (turn : S → List ℕ → Turn S) : Type 0 where
  pub some : 1 ≤ w
  pub last : (s : S) → (bytes : List ℕ) × (turn s [] ≡ stops bytes)
  pub next : (s : S) (rest bytes : List ℕ) (t : S) (k : ℕ) → turn s rest ≡ goes bytes t k → (k ≡ w) × (w ≤ length rest)
  pub near : (s : S) (a b : List ℕ) → w ≤ length a → turn s (a ++ b) ≡ turn s a

-- blocks one after the other
unfoldable pub joined : List (List ℕ) → List ℕ → List ℕ
joined [] last = last
joined (a ∷ blocks) last = a ++ joined blocks last

module _ {S : Type 0} (turn : S → List ℕ → Turn S) where
  -- a block that is used up hands its state to the next; after the last comes what is written where nothing is left
  unfoldable pub in_blocks : S → List (List ℕ) → List ℕ → List ℕ
  in_blocks s [] last = then (λ t. written turn 1 t []) (stretch turn (length last) s last)
  in_blocks s (a ∷ blocks) last = then (λ t. in_blocks t blocks last) (stretch turn (length a) s a)

-- each of them may be cut from what follows
abbrev pub AllCut : (List ℕ → List ℕ → Type 0) → List (List ℕ) → List ℕ → Type 0
AllCut Cut [] last = Unit {0}
AllCut Cut (a ∷ blocks) last = Cut a (joined blocks last) × AllCut Cut blocks last

-- all of them are whole
abbrev pub AllWhole : ℕ → List (List ℕ) → Type 0
AllWhole w [] = Unit {0}
AllWhole w (a ∷ blocks) = Whole w a × AllWhole w blocks

-- The calls that take one block each: 9, then 10. The lent buffer has room for what the longest lines can write: most bytes for each
-- line of w bytes that begins in the block, and for one line more.
unfoldable pub room_for : ℕ → ℕ → List ℕ → ℕ
room_for w most block = (length block / w + 1) * most

-- "State records added later get such a condition": each rule is charged at most once a cycle
unfoldable pub tally_formed : Tally → Bool
tally_formed b = judge_formed b.judge && leb b.breaches (length rules * b.judge.count)

abbrev pub bytes_of : {S : Type 0} → Stretch S → List ℕ
bytes_of (on bytes s) = bytes
bytes_of (done bytes s) = bytes

-- the buffer afterwards: what was written, and the rest untouched; all untouched where the call is refused
abbrev pub left_by : {S : Type 0} → ℕ → Bool → Stretch S → List ℕ → List ℕ
left_by room formed t buffer =
    cond (ltb (length buffer) room) buffer (cond formed (bytes_of t ++ drop (length (bytes_of t)) buffer) buffer)

-- The number of a call. A program that stops by itself has taken its block: the refusal of a line stands in what it wrote.
abbrev pub flow_answer : Flow → ℕ
flow_answer GoesOn = 0
flow_answer Stopped = 0
-- 9
flow_answer Short = number_of refusal.Short
-- 10
flow_answer Unformed = number_of refusal.State

-- a stretch as a call answers it
abbrev pub progress_of : {S : Type 0} → Stretch S → Progress S
progress_of (on bytes s) = record { written = length bytes; flow = GoesOn; kept = s }
progress_of (done bytes s) = record { written = length bytes; flow = Stopped; kept = s }

-- the answer of a call that needs some room, for what was kept, which must be well formed
abbrev pub progress_in : {S : Type 0} → ℕ → ℕ → Bool → S → Stretch S → Progress S
progress_in room needed formed s t =
    cond (ltb room needed) (record { written = 0; flow = Short; kept = s })
    (cond formed (progress_of t) (record { written = 0; flow = Unformed; kept = s }))

-- a trace line has 31 bytes, and no refusal line is longer
abbrev pub arbiter_room : List ℕ → ℕ
arbiter_room block = room_for 16 31 block

abbrev pub arbiter_stretch : State → List ℕ → Stretch State
arbiter_stretch s block = stretch arbiter_turn (length block) s block

unfoldable pub arbiter_block_of : State → List ℕ → ℕ → Progress State
arbiter_block_of s block room = progress_in room (arbiter_room block) (well_formed s) s (arbiter_stretch s block)

unfoldable pub arbiter_block_left : State → List ℕ → List ℕ → List ℕ
arbiter_block_left s block buffer = left_by (arbiter_room block) (well_formed s) (arbiter_stretch s block) buffer

-- 21 breach lines of at most ten digits, a tab, a name of three characters and LF; no other line is longer
abbrev pub judge_room : List ℕ → ℕ
judge_room block = room_for 31 315 block

abbrev pub judge_stretch : Tally → List ℕ → Stretch Tally
judge_stretch b block = stretch judge_turn (length block) b block

unfoldable pub judge_block_of : Tally → List ℕ → ℕ → Progress Tally
judge_block_of b block room = progress_in room (judge_room block) (tally_formed b) b (judge_stretch b block)

unfoldable pub judge_block_left : Tally → List ℕ → List ℕ → List ℕ
judge_block_left b block buffer = left_by (judge_room block) (tally_formed b) (judge_stretch b block) buffer
