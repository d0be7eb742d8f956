-- The promises of specs/Simulator.antt, each under its name.
--
--   Stepped      == what a call that answered 0 did
--   stepped      == a call that answered 0 took a step of the state whose bytes it was lent
--   run_of_calls == calls from the bytes of a well-formed state are a run from it
--   calls_of     == and every list of valid inputs has such calls
use Rattle.std.specs.Prelude.{Err, Ok, Some}
use Prim.Native.Nat.{ℕ, ◌≤◌}
use mathlib.Core.Path.{◌≡◌, refl, sym, ◌∙◌, ap, ap₂, subst}
use mathlib.Core.Bool.{Bool, true, false}
use mathlib.Core.List.{List, [], ◌∷◌, ◌++◌, map}
use native.Mathlib.Omega.{arith}
use lib.Dec.{ltb}
use lib.ListN.{length, take, drop, length-append}
use lib.Seq.{take-append_seam, drop-append_seam}
use Rattle.rules.specs.declared.State.{State}
use Rattle.rules.specs.declared.Inputs.{Inputs}
use Rattle.rules.specs.declared.Outputs.{Outputs}
use Rattle.rules.specs.declared.Cycle.{Cycle}
use Rattle.rules.specs.Results.{Answer, Start}
use Rattle.rules.specs.Refusals.{reset_answer}
use Rattle.rules.specs.State.{reset_state, reset_of, WellFormed}
use Rattle.rules.specs.Step.{step_of}
use Rattle.rules.proofs.WellFormed.{reset_is, reset_sound}
use Rattle.rules.proofs.Taken.{taken as step_taken}
use Rattle.rules.proofs.Kept.{kept}
use Rattle.formats.proofs.Report.{refusal_some}
use Rattle.hosting.specs.Results.{Outcome}
use Rattle.hosting.specs.Bytes.{state_size, state_bytes, bytes_state}
use Rattle.hosting.specs.Calls.{Display, output_bytes, of_answer, of_lent, host_step, host_number, state_stored, cycle_stored, host_state, host_shown, host_reset, host_start, StepCall, ResetCall}
use Rattle.hosting.proofs.Bytes.{state_bytes_lem, state_again}
use Rattle.hosting.proofs.Calls.{follows, plain_step, reset_known, refused_unchanged}
use Rattle.promises.specs.Machines.{arbiter}
use Rattle.promises.specs.Runs.{Run, stop, more, trace_of}
use Rattle.promises.specs.Simulator.{Exact, BothExact, Calls, none, taken, refused, CallsAreARun, RefusedCallsKeep, EveryCallIsTaken}
use Rattle.promises.proofs.Programs.{every_stimulus_runs}

-- the bytes of a state, and what was lent behind them
rest_of : (s : State) (rest : List ℕ) → WellFormed s → drop state_size (state_bytes s ++ rest) ≡ rest
rest_of s rest w = subst (λ (k : ℕ). drop k (state_bytes s ++ rest) ≡ rest) (state_bytes_lem s w).0 (drop-append_seam (state_bytes s) rest)

record Stepped (d : Display) (s : State) (x : Inputs) (rest line state' line' : List ℕ) : Type 0 where
  next : State
  shown : Outputs
  steps : step_of s x ≡ Ok (next, shown)
  sound : WellFormed next
  bytes : state' ≡ state_bytes next ++ rest
  writes : line' ≡ d.bytes (record { inputs = x; outputs = shown }) ++ drop d.size line

-- a call that was taken had buffers that are long enough
long_enough : (d : Display) (state line : List ℕ) (x : Inputs) (t : State) (c : Cycle) → host_step d state line x ≡ Ok (t, c) → of_lent (bytes_state state) x ≡ Ok (t, c)
unfolding host_step
long_enough d state line x t c e = go (ltb (length state) state_size) (ltb (length line) d.size) refl refl
  where
    go : (a b : Bool) → ltb (length state) state_size ≡ a → ltb (length line) d.size ≡ b → of_lent (bytes_state state) x ≡ Ok (t, c)
    go true b p q = let f = simp p at e in let z : ◌≡◌ {A = ℕ} 0 1 = cc in absurd (omega arith)
    go false true p q = let f = simp (p, q) at e in let z : ◌≡◌ {A = ℕ} 0 1 = cc in absurd (omega arith)
    go false false p q = simp (p, q) at e

stepped : (d : Display) (s : State) (x : Inputs) (rest state line state' line' : List ℕ) → WellFormed s → state ≡ state_bytes s ++ rest
    → StepCall d x state line 0 state' line' → Stepped d s x rest line state' line'
unfolding state_stored cycle_stored
stepped d s x rest state line state' line' w at call = go (host_step d state line x) refl
  where
    go : (o : Outcome) → host_step d state line x ≡ o → Stepped d s x rest line state' line'
    go (Err r) e = absurd (omega (arith, refusal_some r, call.0 ∙ ap host_number e))
    go (Ok (t, c)) e =
        let f = follows (bytes_state state) x t c (long_enough d state line x t c e) in
        let known : bytes_state state ≡ Some s = rw at (state_again s rest w) in
        let k = f.known in
        let same : f.from ≡ s = cc in
        let cycle : c ≡ record { inputs = x; outputs = c.outputs } = ap (λ (i : Inputs). record { inputs = i; outputs = c.outputs }) f.driven in
        let behind : drop state_size state ≡ rest = rw at (rest_of s rest w) in
        record {
          next = t;
          shown = c.outputs;
          steps = rw same at f.stepped;
          sound = f.sound;
          bytes = call.1 ∙ ap (λ (o : Outcome). host_state o state) e ∙ ap (λ (l : List ℕ). state_bytes t ++ l) behind;
          writes = call.2 ∙ ap (λ (o : Outcome). host_shown d o line) e ∙ ap (λ (c : Cycle). d.bytes c ++ drop d.size line) cycle;
        }

pub refused_calls_keep : RefusedCallsKeep
refused_calls_keep d x state line state' line' number some call =
    let k = refused_unchanged d (host_step d state line x) state line (omega (arith, call.0)) in
    (call.1 ∙ k.0, call.2 ∙ k.1)

-- the run from s over xs, and what it leaves
record RunOf (d : Display) (s : State) (rest : List ℕ) (xs : List Inputs) (lines : List (List ℕ)) (last : List ℕ) : Type 0 where
  end : State
  run : Run arbiter s xs end
  bytes : last ≡ state_bytes end ++ rest
  shows : map (take d.size) lines ≡ map d.bytes (trace_of run)

run_of_calls : (d : Display) → Exact d → {state last : List ℕ} {xs : List Inputs} {lines : List (List ℕ)} → Calls d state xs lines last
    → (s : State) (rest : List ℕ) → WellFormed s → state ≡ state_bytes s ++ rest → RunOf d s rest xs lines last
unfolding trace_of
run_of_calls d exact none s rest w at = record { end = s; run = stop; bytes = at; shows = refl }
run_of_calls d exact (taken {x = x} {state = state} {state' = state'} {buffer' = line'} line call more_calls) s rest w at =
    let p = stepped d s x rest state line state' line' w at call in
    let r = run_of_calls d exact more_calls p.next rest p.sound p.bytes in
    let c : Cycle = record { inputs = x; outputs = p.shown } in
    let first : take d.size line' ≡ d.bytes c =
    ap (take d.size) p.writes ∙ ap (λ (k : ℕ). take k (d.bytes c ++ drop d.size line)) (sym (exact c)) ∙ take-append_seam (d.bytes c) (drop d.size line) in
    record {
      end = r.end;
      run = more p.steps r.run;
      bytes = r.bytes;
      shows = ap₂ ◌∷◌ first r.shows;
    }
run_of_calls d exact (refused {state = state} {state' = state'} x line line' number some call more_calls) s rest w at =
    run_of_calls d exact more_calls s rest w ((refused_calls_keep d x state line state' line' number some call).0 ∙ at)

-- a reset that answered 0
reset_ready : (n : ℕ) (lent state : List ℕ) → ResetCall n lent 0 state → (s : State) × (reset_of n ≡ Ok s) × (state ≡ state_bytes s ++ drop state_size lent)
unfolding host_reset state_stored
reset_ready n lent state call = go (ltb (length lent) state_size) (reset_of n) refl refl
  where
    go : (b : Bool) (a : Start) → ltb (length lent) state_size ≡ b → reset_of n ≡ a → (s : State) × (reset_of n ≡ Ok s) × (state ≡ state_bytes s ++ drop state_size lent)
    go true a p q = let e = simp p at call.0 in absurd (omega arith)
    go false (Ok s) p q = (s, q, call.1 ∙ simp (p, q))
    go false (Err r) p q = let e = simp (p, q) at call.0 in absurd (omega (arith, refusal_some r))

pub calls_are_a_run : CallsAreARun
calls_are_a_run d exact n lent state last xs lines call calls =
    let b = reset_ready n lent state call in
    let i = reset_is n b.0 b.1 in
    let w : WellFormed b.0 = subst WellFormed (sym i.is) (reset_sound n i.few i.many) in
    let r = run_of_calls d exact calls b.0 (drop state_size lent) w b.2 in
    record {
      first = b.0;
      end = r.end;
      began = b.1;
      run = r.run;
      bytes = r.bytes;
      shows = r.shows;
    }

-- the bytes of a state have room
bytes_room : (s : State) (rest : List ℕ) → WellFormed s → state_size ≤ length (state_bytes s ++ rest)
bytes_room s rest w = omega (arith, length-append (state_bytes s) rest, (state_bytes_lem s w).0)

-- each step of a run is a call
pub call_of : (d : Display) (s s' : State) (x : Inputs) (o : Outputs) (rest line : List ℕ) → WellFormed s → d.size ≤ length line → step_of s x ≡ Ok (s', o)
    → StepCall d x (state_bytes s ++ rest) line 0 (state_bytes s' ++ rest) (cycle_stored d (record { inputs = x; outputs = o }) line)
unfolding state_stored
call_of d s s' x o rest line w space e =
    let state : List ℕ = state_bytes s ++ rest in
    let is : host_step d state line x ≡ Ok (s', record { inputs = x; outputs = o }) =
    plain_step d state line x (bytes_room s rest w) space s (state_again s rest w) ∙ ap (λ (a : Answer). of_answer a x) e in
    let kept_rest : state_bytes s' ++ drop state_size state ≡ state_bytes s' ++ rest = ap (λ (l : List ℕ). state_bytes s' ++ l) (rest_of s rest w) in
    (sym (ap host_number is), sym (ap (λ (a : Outcome). host_state a state) is ∙ kept_rest), sym (ap (λ (a : Outcome). host_shown d a line) is))

calls_of : (d : Display) {s t : State} {xs : List Inputs} → Run arbiter s xs t → (rest line : List ℕ) → WellFormed s → d.size ≤ length line
    → (lines : List (List ℕ)) × (last : List ℕ) × Calls d (state_bytes s ++ rest) xs lines last
calls_of d {s = s} stop rest line w space = ([], state_bytes s ++ rest, none)
calls_of d (more {s = s} {s' = s'} {o = o} {x = x} e r) rest line w space =
    let later = calls_of d r rest line (kept s x s' o (step_taken s x s' o e)) space in
    (cycle_stored d (record { inputs = x; outputs = o }) line ∷ later.0, later.1, taken line (call_of d s s' x o rest line w space e) later.2)

pub every_call_is_taken : EveryCallIsTaken
unfolding state_stored
every_call_is_taken d n lent line xs range valid few room space =
    let q = every_stimulus_runs n xs range valid few in
    let i = reset_is n q.0 q.2 in
    let s : State = reset_state n in
    let run : Run arbiter s xs q.1 = subst (λ (u : State). Run arbiter u xs q.1) i.is q.3 in
    let known = (reset_known n lent room range.few range.many).0 in
    let calls = calls_of d run (drop state_size lent) line (reset_sound n range.few range.many) space in (
      state_bytes s ++ drop state_size lent,
      calls.0,
      calls.1,
      (sym (ap reset_answer known), sym (ap (λ (a : Start). host_start a lent) known)),
      calls.2,
    )

pub both_exact : BothExact
unfolding output_bytes
both_exact = (λ c. refl, λ c. refl)
