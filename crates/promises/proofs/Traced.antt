-- The arbiter program on the lines of a run's inputs: it writes the lines of the run's trace.
--
--   stimulus_turn == one line
--   end_turn      == the end of the input
--   run_lines     == all the lines that are left, and then what the rest comes to
--   run_count     == the cycles are counted
use Rattle.std.specs.Prelude.{Ok}
use Prim.Native.Nat.{ℕ, zero, suc, ◌+◌, ◌<◌}
use mathlib.Core.Path.{◌≡◌, sym, ◌∙◌, ap, subst}
use mathlib.Core.List.{List, [], ◌++◌, append_assoc}
use native.Mathlib.Nat.{add-zero}
use native.Mathlib.Omega.{arith}
use lib.ListN.{length}
use Rattle.rules.specs.declared.State.{State}
use Rattle.rules.specs.declared.Inputs.{Inputs}
use Rattle.rules.specs.declared.Outputs.{Outputs}
use Rattle.rules.specs.Results.{Answer}
use Rattle.rules.specs.Step.{step_of}
use Rattle.rules.proofs.Taken.{taken, next_n, next_count}
use Rattle.formats.specs.Results.{StimulusRead}
use Rattle.formats.specs.Lines.{stimulus_line, trace_line}
use Rattle.formats.specs.Files.{lines_of}
use Rattle.formats.specs.Promises.{InRange}
use Rattle.formats.proofs.Promises.{written_stimulus_line_reads, no_more_at_the_end}
use Rattle.streams.specs.Streams.{goes, stops, written}
use Rattle.streams.specs.Arbiter.{stepped, stimulated, arbiter_turn}
use Rattle.promises.specs.Machines.{arbiter}
use Rattle.promises.specs.Runs.{Run, stop, more, trace_of}
use Rattle.promises.proofs.Lines.{one_line}

-- the inputs are read back, and taken
stimulus_turn : (s : State) (x : Inputs) (s' : State) (o : Outputs) (rest : List ℕ) → InRange s.n → step_of s x ≡ Ok (s', o)
    → arbiter_turn s (stimulus_line x ++ rest) ≡ goes (trace_line (record { inputs = x; outputs = o })) s' (length (stimulus_line x))
unfolding arbiter_turn
stimulus_turn s x s' o rest range e =
    ap (λ (r : StimulusRead). stimulated r s) (written_stimulus_line_reads s.n x [] rest range (taken s x s' o e).good)
    ∙ ap (λ (a : Answer). stepped a x s 16) e

pub end_turn : (s : State) → InRange s.n → arbiter_turn s [] ≡ stops []
unfolding arbiter_turn
end_turn s range = ap (λ (r : StimulusRead). stimulated r s) (no_more_at_the_end.stimulus_line_lem s.n [] range)

pub run_lines : {s t : State} {xs : List Inputs} (r : Run arbiter s xs t) (k : ℕ) (rest last : List ℕ) → InRange s.n → length xs < k
    → arbiter_turn t rest ≡ stops last
    → written arbiter_turn k s (lines_of stimulus_line xs ++ rest) ≡ lines_of trace_line (trace_of r) ++ last
unfolding lines_of trace_of
run_lines r zero rest last range fuel e = absurd (omega arith)
run_lines stop (suc k) rest last range fuel e = unfold written in rw e
run_lines (more {s = s} {s' = s'} {o = o} {x = x} {xs = xs} f r) (suc k) rest last range fuel e =
    let line : List ℕ = trace_line (record { inputs = x; outputs = o }) in
    let left : List ℕ = lines_of stimulus_line xs ++ rest in
    ap (written arbiter_turn (suc k) s) (append_assoc (stimulus_line x) (lines_of stimulus_line xs) rest)
    ∙ one_line arbiter_turn k s s' (stimulus_line x) left line (stimulus_turn s x s' o left range f)
    ∙ ap (λ (l : List ℕ). line ++ l)
    (run_lines r k rest last (subst InRange (sym (next_n s x s' o (taken s x s' o f))) range) (omega arith) e)
    ∙ sym (append_assoc line (lines_of trace_line (trace_of r)) last)

pub run_count : {s t : State} {xs : List Inputs} → Run arbiter s xs t → t.count ≡ s.count + length xs
run_count {s = s} stop = sym (add-zero s.count)
run_count (more {s = s} {s' = s'} {o = o} {x = x} f r) = omega (arith, run_count r, next_count s x s' o (taken s x s' o f))
