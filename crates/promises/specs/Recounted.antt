-- The arbiter's count only counts: "At most 1,000,000 cycles a run" limits it, and it says nothing else. So a simulator may set it back and go on
-- for ever. proofs/Recounted.antt has the proof of each promise, under the same name in lower case with underscores.
--
--   with_count k s    == the state s, with the count k
--   DifferInCount s t == the states s and t differ in the count alone
--   Alike a b         == the answers a and b show or refuse the same, and leave states that differ in the count alone
use Rattle.std.specs.Prelude.{ℕ, ◌+◌, ◌≤◌, ◌<◌, ◌≡◌, List, ◌++◌, length, take, Err, Ok}
use Rattle.rules.specs.declared.State.{State}
use Rattle.rules.specs.declared.Inputs.{Inputs}
use Rattle.rules.specs.declared.Outputs.{Outputs}
use Rattle.rules.specs.Results.{Answer}
use Rattle.rules.specs.Codes.{most_cycles}
use Rattle.rules.specs.Step.{step_of}
use Rattle.words.specs.Words.{low_first}
use Rattle.hosting.specs.Bytes.{state_bytes}
use Rattle.hosting.specs.Calls.{Display, cycle_stored, StepCall}
use Rattle.promises.specs.Machines.{arbiter}
use Rattle.promises.specs.Runs.{Run, trace_of}

abbrev pub with_count : ℕ → State → State
with_count k s =
    record {
      n = s.n;
      g = s.g;
      m = s.m;
      hmastlock = s.hmastlock;
      granted = s.granted;
      phase = s.phase;
      count = k;
    }

abbrev pub DifferInCount : State → State → Type 0
DifferInCount s t = with_count 0 s ≡ with_count 0 t

abbrev pub Alike : Answer → Answer → Type 0
Alike (Ok (s, o)) (Ok (t, p)) = (o ≡ p) × DifferInCount s t
Alike (Ok (s, o)) (Err (r, t)) = ⊥
Alike (Err (q, s)) (Ok (t, p)) = ⊥
Alike (Err (q, s)) (Err (r, t)) = (q ≡ r) × DifferInCount s t

-- Two states that differ in the count alone, each below the limit, show the same for every inputs and go on alike; what one refuses the other
-- refuses by the same number.
abbrev pub CountOnlyCounts : Type 0
CountOnlyCounts =
    (s t : State) (x : Inputs) → DifferInCount s t → s.count < most_cycles → t.count < most_cycles → Alike (step_of s x) (step_of t x)

-- So a run from a state may be taken from the same state with any count that leaves room: it shows the same cycles, and ends in the same state but for the count.
abbrev pub RunsAlike : Type 0
RunsAlike =
    (s s' t : State) (xs : List Inputs) (r : Run arbiter s xs s') → DifferInCount s t → t.count + length xs ≤ most_cycles
    → (t' : State) × (q : Run arbiter t xs t') × (trace_of q ≡ trace_of r) × DifferInCount s' t'

-- The count stands in bytes 8 to 11 and nowhere else: setting them sets the count.
abbrev pub CountInItsBytes : Type 0
CountInItsBytes = (s : State) (k : ℕ) → state_bytes (with_count k s) ≡ take 8 (state_bytes s) ++ low_first 4 k

-- And so from C: a step over the bytes of a state with any count below the limit shows what the state shows, and leaves the bytes of the state that
-- follows, with one more counted.
abbrev pub LongRunsAreShown : Type 0
LongRunsAreShown =
    (d : Display) (s t : State) (x : Inputs) (o : Outputs) (k : ℕ) (rest buffer : List ℕ) → step_of s x ≡ Ok (t, o) → k < most_cycles → d.size ≤ length buffer
    → StepCall d x (state_bytes (with_count k s) ++ rest) buffer 0 (state_bytes (with_count (k + 1) t) ++ rest)
    (cycle_stored d (record { inputs = x; outputs = o }) buffer)
