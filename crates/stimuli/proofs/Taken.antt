-- One line of the arbiter program, taken or not.
--
--   good_inputs, same_text, whole_line == a stimulus line that was read is valid, has the text of its columns, and is whole
--   formed_masters == a well-formed state has a number of masters that is served
--   gone           == a cycle that is taken: its trace line, and the state after it
--   line_taken     == what a cycle comes to is what its line does
--   short_untaken   == what is no whole line is not taken
--   full, stops_full == a good line after the last cycle is refusal 8
use Rattle.std.specs.Prelude.{Err, Ok, Some}
use Prim.Native.Nat.{ℕ, ◌+◌, ◌-◌, ◌≤◌, ◌<◌}
use mathlib.Core.Path.{◌≡◌, refl, sym, ◌∙◌, ap}
use mathlib.Core.Bool.{Bool, true, false, ◌&&◌}
use mathlib.Core.List.{List}
use native.Mathlib.Omega.{arith}
use borrow.Author.Tests.{le-leb, leb-false}
use lib.Dec.{leb}
use lib.ListN.{length, take, drop, length-take, length-drop}
use lib.Seq.{sets, sets-eq}
use Rattle.rules.specs.declared.State.{State}
use Rattle.rules.specs.declared.Inputs.{Inputs}
use Rattle.rules.specs.declared.Outputs.{Outputs}
use Rattle.rules.specs.declared.Refusal.TheVariants.{Full}
use Rattle.rules.specs.Codes.{most_cycles}
use Rattle.rules.specs.Valid.{inputs_check}
use Rattle.rules.specs.State.{masters_ok, WellFormed}
use Rattle.rules.specs.Step.{step_of}
use Rattle.rules.proofs.WellFormed.{masters_ok_lem, test_of}
use Rattle.formats.specs.Results.{StimulusRead}
use Rattle.formats.specs.Report.{refused_line}
use Rattle.formats.specs.Lines.{stimulus_line, trace_line, read_stimulus_of}
use Rattle.formats.proofs.Promises.{read_stimulus_line_writes}
use Rattle.streams.specs.Arbiter.{stepped, arbiter_turn}
use Rattle.stimuli.specs.Stops.{NotTaken}
use Rattle.streams.specs.Turns.{Put, Lined}
use Rattle.streams.proofs.Arbitrated.{stepped_on, stepped_out, read_line}

module _ (n : ℕ) (s : List ℕ) (x : Inputs) (e : read_stimulus_of n s 0 ≡ Ok (Some (x, 16))) where
  pub good_inputs : inputs_check n x ≡ Ok tt
  good_inputs = (read_stimulus_line_writes n s 0 x 16 e).1

  pub same_text : take 16 s ≡ stimulus_line x
  same_text = sym (read_stimulus_line_writes n s 0 x 16 e).3

pub formed_masters : (s : State) → WellFormed s → masters_ok s.n ≡ true
formed_masters s f = masters_ok_lem s.n f.few f.many

full_step : (s : State) (x : Inputs) → WellFormed s → most_cycles ≤ s.count → Err (Full, s) ≡ step_of s x
unfolding step_of
full_step s x f h = simp (test_of s f, le-leb 1000000 s.count h)

module _ (s t : State) (x : Inputs) (o : Outputs) (e : step_of s x ≡ Ok (t, o)) where
  pub gone : (buffer out : List ℕ) → 31 ≤ length buffer
      → out ≡ sets buffer 0 (trace_line (record { inputs = x; outputs = o }))
      → Lined s (stepped (step_of s x) x s 16) buffer 31 true t out
  gone buffer out h w =
      let line = trace_line (record { inputs = x; outputs = o }) in
      let put : Put line buffer 31 out = record { size = refl; puts = w ∙ sets-eq line buffer 0 h } in
      stepped_on s x (Ok (t, o)) (sym e) buffer 31 out t o refl put

pub full : (s : State) (x : Inputs) → WellFormed s → most_cycles ≤ s.count → (buffer out : List ℕ) (k : ℕ) → Put (refused_line (s.count + 2) Full) buffer k out
    → Lined s (stepped (step_of s x) x s 16) buffer k false s out
full s x f h buffer out k put = stepped_out s x (Err (Full, s)) is buffer k out Full s refl put
  where
    is : Err (Full, s) ≡ step_of s x
    is = full_step s x f h

module _ (n : ℕ) (l : List ℕ) (x : Inputs) (k : ℕ) (e : read_stimulus_of n l 0 ≡ Ok (Some (x, k))) where
  pub whole_line : 16 ≤ length l
  whole_line =
      let size : 16 ≡ length (take 16 l) = ap length (read_stimulus_line_writes n l 0 x k e).3 in
      omega (arith, size, length-take 16 l)

-- what a cycle comes to is what its line does
pub line_taken : (s : State) (x : Inputs) (rest buffer out : List ℕ) (k w : ℕ) (on : Bool) (after : State) → read_stimulus_of s.n rest 0 ≡ Ok (Some (x, k))
    → Lined s (stepped (step_of s x) x s 16) buffer w on after out → Lined s (arbiter_turn s rest) buffer w on after out
line_taken s x rest buffer out k w on after e l = read_line s rest (read_stimulus_of s.n rest 0) refl buffer x k w on after out e l

-- a line that is not taken, as it was read: a good one after the last cycle
pub stops_full : (s : State) (rest buffer out : List ℕ) (a : StimulusRead) (x : Inputs) (n k : ℕ) → WellFormed s → NotTaken s rest → a ≡ read_stimulus_of s.n rest 0 → a ≡ Ok (Some (x, n))
    → Put (refused_line (s.count + 2) Full) buffer k out → Lined s (arbiter_turn s rest) buffer k false s out
stops_full s rest buffer out a x n k f stop e g put =
    let is : read_stimulus_of s.n rest 0 ≡ Ok (Some (x, n)) = sym e ∙ g in
    line_taken s x rest buffer out n k false s is (full s x f (stop.full x n is) buffer out k put)

-- where no line is taken: at no whole line, and at the end of the loop
module _ (s : State) where
  pub short_untaken : (rest : List ℕ) → length rest < 16 → NotTaken s rest
  short_untaken rest h = record { full = λ x k q. absurd (omega (arith, whole_line s.n rest x k q)) }
