-- One line of the arbiter program.
--
--   shown_good          == the trace line of a step that is taken is valid
--   stepped_on, stepped_out == the two ends of a step
--   read_line, read_none, read_refused == the three ends of a line
--   arbiter_program_lem == it goes by lines, none of which writes more bytes than a trace line, and the state stays well formed
use Rattle.std.specs.Prelude.{Err, None, Ok, Some}
use Prim.Native.Nat.{ℕ, ◌+◌, ◌≤◌}
use mathlib.Core.Path.{◌≡◌, refl, sym, ap, ◌∙◌}
use mathlib.Core.Bool.{Bool, true, false}
use mathlib.Core.List.{List, []}
use native.Mathlib.Omega.{arith}
use lib.ListN.{length}
use Rattle.rules.specs.declared.Refusal.{Refusal}
use Rattle.rules.specs.declared.State.{State}
use Rattle.rules.specs.declared.Inputs.{Inputs}
use Rattle.rules.specs.declared.Outputs.{Outputs}
use Rattle.rules.specs.Results.{Answer}
use Rattle.rules.specs.Codes.{most_cycles}
use Rattle.rules.specs.Valid.{cycle_check}
use Rattle.rules.specs.State.{WellFormed}
use Rattle.rules.specs.Step.{step_of}
use Rattle.rules.proofs.WellFormed.{masters_ok_lem}
use Rattle.rules.proofs.Taken.{taken, decide}
use Rattle.rules.proofs.Kept.{kept}
use Rattle.rules.proofs.Shown.{valid_shown}
use Rattle.formats.specs.Results.{StimulusRead}
use Rattle.formats.specs.Lines.{for_masters, trace_line, read_stimulus_of}
use Rattle.formats.specs.Report.{refused_line}
use Rattle.streams.specs.Arbiter.{stepped, stimulated, arbiter_turn}
use Rattle.streams.specs.Turns.{bytes_in, state_after, Put, Lined}
use Rattle.streams.proofs.Lines.{stepping}
use Rattle.streams.proofs.Near.{arbiter_by_lines}
use Rattle.streams.proofs.Sizes.{refused_size, went, ended}
use Rattle.streams.specs.Going.{Program}

pub shown_good : (s : State) (x : Inputs) (a : Answer) (t : State) (o : Outputs) → a ≡ step_of s x → a ≡ Ok (t, o)
    → for_masters s.n (cycle_check s.n (record { inputs = x; outputs = o })) ≡ Ok tt
shown_good s x a t o e f =
    let k = taken s x t o (sym e ∙ f) in
    rw (masters_ok_lem s.n k.sound.few k.sound.many, k.shows)
    (valid_shown s x (decide s x) k.sound k.good)

module _ (s : State) (x : Inputs) (a : Answer) (e : a ≡ step_of s x) (buffer : List ℕ) (k : ℕ) (out : List ℕ) where
  pub stepped_on : (t : State) (o : Outputs) → a ≡ Ok (t, o) → Put (trace_line (record { inputs = x; outputs = o })) buffer k out
      → Lined s (stepped (step_of s x) x s 16) buffer k true t out
  stepped_on t o f p =
      went s (stepped (step_of s x) x s 16) (trace_line (record { inputs = x; outputs = o })) buffer k out p t 16
      (ap (λ b. stepped b x s 16) (sym e ∙ f))

  pub stepped_out : (r : Refusal) (t : State) → a ≡ Err (r, t) → Put (refused_line (s.count + 2) r) buffer k out
      → Lined s (stepped (step_of s x) x s 16) buffer k false s out
  stepped_out r t f p =
      ended s (stepped (step_of s x) x s 16) (refused_line (s.count + 2) r) buffer k out p
      (ap (λ b. stepped b x s 16) (sym e ∙ f))

-- what a line comes to does not say where the next begins
any_next : (s : State) (x : Inputs) (a : Answer) (m n : ℕ) (buffer : List ℕ) (k : ℕ) (going : Bool) (after : State) (out : List ℕ)
    → Lined s (stepped a x s m) buffer k going after out → Lined s (stepped a x s n) buffer k going after out
any_next s x (Ok (t, o)) m n buffer k going after out l = record { size = l.size; flow = l.flow; state = l.state; puts = l.puts }
any_next s x (Err (r, t)) m n buffer k going after out l = l

module _ (s : State) (rest : List ℕ) (a : StimulusRead) (e : a ≡ read_stimulus_of s.n rest 0) (buffer : List ℕ) where
  found : (b : StimulusRead) → a ≡ b → arbiter_turn s rest ≡ stimulated b s
  unfolding arbiter_turn
  found b f = ap (λ r. stimulated r s) (sym e ∙ f)

  pub read_line : (x : Inputs) (next k : ℕ) (going : Bool) (after : State) (out : List ℕ) → a ≡ Ok (Some (x, next))
      → Lined s (stepped (step_of s x) x s 16) buffer k going after out → Lined s (arbiter_turn s rest) buffer k going after out
  read_line x next k going after out f l =
      rw (found (Ok (Some (x, next))) f) (any_next s x (step_of s x) 16 next buffer k going after out l)

  pub read_none : a ≡ Ok None → Lined s (arbiter_turn s rest) buffer 0 false s buffer
  read_none f =
      ended s (arbiter_turn s rest) [] buffer 0 buffer (record { size = refl; puts = refl }) (found (Ok None) f)

  pub read_refused : (r : Refusal) (k : ℕ) (out : List ℕ) → a ≡ Err r → Put (refused_line (s.count + 2) r) buffer k out
      → Lined s (arbiter_turn s rest) buffer k false s out
  read_refused r k out f p = ended s (arbiter_turn s rest) (refused_line (s.count + 2) r) buffer k out p (found (Err r) f)

few_stepped : (s : State) (x : Inputs) (next : ℕ) → s.count ≤ most_cycles → (a : Answer) → length (bytes_in (stepped a x s next)) ≤ 31
few_stepped s x next h (Ok (t, o)) = omega arith
few_stepped s x next h (Err (r, t)) = refused_size (s.count + 2) r (omega arith)

few_read : (s : State) → s.count ≤ most_cycles → (r : StimulusRead) → length (bytes_in (stimulated r s)) ≤ 31
few_read s h (Ok (Some (x, next))) = few_stepped s x next h (step_of s x)
few_read s h (Ok None) = omega arith
few_read s h (Err r) = refused_size (s.count + 2) r (omega arith)

few_bytes : (s : State) (rest : List ℕ) → WellFormed s → length (bytes_in (arbiter_turn s rest)) ≤ 31
unfolding arbiter_turn
few_bytes s rest f = few_read s f.room (read_stimulus_of s.n rest 0)

stays_stepped : (s : State) (x : Inputs) (next : ℕ) → WellFormed s → (a : Answer) → step_of s x ≡ a → WellFormed (state_after s (stepped a x s next))
stays_stepped s x next f (Ok (t, o)) e = kept s x t o (taken s x t o e)
stays_stepped s x next f (Err (r, t)) e = f

stays_read : (s : State) → WellFormed s → (r : StimulusRead) → WellFormed (state_after s (stimulated r s))
stays_read s f (Ok (Some (x, next))) = stays_stepped s x next f (step_of s x) refl
stays_read s f (Ok None) = f
stays_read s f (Err r) = f

stays : (s : State) (rest : List ℕ) → WellFormed s → WellFormed (state_after s (arbiter_turn s rest))
unfolding arbiter_turn
stays s rest f = stays_read s f (read_stimulus_of s.n rest 0)

pub arbiter_program_lem : Program arbiter_turn 16 31 WellFormed
arbiter_program_lem = record { longest = 16; lines = stepping arbiter_by_lines; few = few_bytes; stays = stays }
