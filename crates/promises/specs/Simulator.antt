-- The promises over a C simulator's calls: a reset and then any steps over the same twelve bytes are a run of the arbiter from reset, whether
-- they show the trace line or the outputs as numbers.
--
-- The calls stand here by their contracts, StepCall and ResetCall of hosting/specs/Calls.antt, which the exported functions meet.
-- proofs/Simulator.antt has the proof of each promise, under the same name in lower case with underscores.
--
--   Exact d            == what is shown has always the same size
--   Calls d state xs shown last == steps one after the other, from the bytes `state` to the bytes `last`: those that answered 0 had the inputs xs
--                         and left these bytes in their second buffers; the others were refused
--   Simulates d n lent xs shown last == the arbiter runs from reset with n masters over the inputs xs: the bytes `last` are those of the state
--                         in which it ends, and the rest of what was lent; what was shown are the cycles of its trace
use Rattle.std.specs.Prelude.{ℕ, ◌≤◌, ◌≡◌, List, [], ◌∷◌, ◌++◌, map, length, take, drop, Ok}
use Rattle.rules.specs.declared.State.{State}
use Rattle.rules.specs.declared.Inputs.{Inputs}
use Rattle.rules.specs.declared.Cycle.{Cycle}
use Rattle.rules.specs.Codes.{most_cycles}
use Rattle.rules.specs.State.{reset_of}
use Rattle.formats.specs.Promises.{InRange, Each, ValidInputs}
use Rattle.hosting.specs.Bytes.{state_size, state_bytes}
use Rattle.hosting.specs.Calls.{Display, as_line, as_numbers, StepCall, ResetCall}
use Rattle.promises.specs.Machines.{arbiter}
use Rattle.promises.specs.Runs.{Run, trace_of}

abbrev pub Exact : Display → Type 0
Exact d = (c : Cycle) → length (d.bytes c) ≡ d.size

-- both forms of the step are so
abbrev pub BothExact : Type 0
BothExact = Exact as_line × Exact as_numbers

pub data Calls (d : Display) : List ℕ → List Inputs → List (List ℕ) → List ℕ → Type 0 where
  none : {state : List ℕ} → Calls d state [] [] state
  taken : {x : Inputs} {state state' buffer' last : List ℕ} {xs : List Inputs} {shown : List (List ℕ)} (buffer : List ℕ)
      → StepCall d x state buffer 0 state' buffer' → Calls d state' xs shown last → Calls d state (x ∷ xs) (buffer' ∷ shown) last
  refused : {state state' last : List ℕ} {xs : List Inputs} {shown : List (List ℕ)} (x : Inputs) (buffer buffer' : List ℕ) (number : ℕ)
      → 1 ≤ number → StepCall d x state buffer number state' buffer' → Calls d state' xs shown last → Calls d state xs shown last

pub record Simulates (d : Display) (n : ℕ) (lent : List ℕ) (xs : List Inputs) (shown : List (List ℕ)) (last : List ℕ) : Type 0 where
  pub first : State
  pub end : State
  pub began : reset_of n ≡ Ok first
  pub run : Run arbiter first xs end
  -- "In longer buffers only the first 12 and 31 bytes are used."
  pub bytes : last ≡ state_bytes end ++ drop state_size lent
  pub shows : map (take d.size) shown ≡ map d.bytes (trace_of run)

-- "The simulator host .. lends the state as 12 bytes": what it calls is the arbiter, cycle by cycle.
abbrev pub CallsAreARun : Type 0
CallsAreARun =
    (d : Display) → Exact d → (n : ℕ) (lent state last : List ℕ) (xs : List Inputs) (shown : List (List ℕ)) → ResetCall n lent 0 state
    → Calls d state xs shown last → Simulates d n lent xs shown last

-- "Every refusal returns its number with the state .. as given; no lent byte changes": the next call goes on from the same state.
abbrev pub RefusedCallsKeep : Type 0
RefusedCallsKeep =
    (d : Display) (x : Inputs) (state buffer state' buffer' : List ℕ) (number : ℕ) → 1 ≤ number → StepCall d x state buffer number state' buffer'
    → (state' ≡ state) × (buffer' ≡ buffer)

-- And none is refused that need not be: with both buffers long enough, every list of valid inputs, no more than a run may have, is taken.
abbrev pub EveryCallIsTaken : Type 0
EveryCallIsTaken =
    (d : Display) (n : ℕ) (lent buffer : List ℕ) (xs : List Inputs) → InRange n → Each (ValidInputs n) xs → length xs ≤ most_cycles
    → state_size ≤ length lent → d.size ≤ length buffer
    → (state : List ℕ) × (shown : List (List ℕ)) × (last : List ℕ) × ResetCall n lent 0 state × Calls d state xs shown last
