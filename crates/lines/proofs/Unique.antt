-- The contracts leave no choice: two results that meet the contract of a call are equal, and so are the bytes of the buffer at exit.
-- `Post` is the contract as the prover reads it: lifetimes, arguments, result, and the arguments at exit.
use Prim.Native.Nat.{ℕ}
use mathlib.Core.Path.{◌≡◌, sym, ◌∙◌}
use mathlib.Core.List.{List}
use contract.Lifetimes.{Lfts}
use denote.Ref.{Bor}
use denote.MutBor.{MutBor}
use Rattle.rules.specs.declared.Inputs.{Inputs}
use Rattle.rules.specs.declared.Cycle.{Cycle}
use Rattle.formats.specs.Results.{StimulusRead, TraceRead, Written}
use Rattle.lines.proofs.read_stimulus.Reads as read_stimulus
use Rattle.lines.proofs.read_trace.Reads as read_trace
use Rattle.lines.proofs.write_stimulus.Reads as write_stimulus
use Rattle.lines.proofs.write_trace.Reads as write_trace

abbrev Bytes : Type 0
Bytes = Bor (List ℕ)

abbrev Buffer : Type 0
Buffer = MutBor (List ℕ)

module _ (κs : Lfts 1) (n : ℕ) where
  pub read_stimulus_unique : (s : Bytes) (at : ℕ) (r r' : StimulusRead)
      → read_stimulus.Post κs (n, (s, (at, tt))) r (n, (s, (at, tt)))
      → read_stimulus.Post κs (n, (s, (at, tt))) r' (n, (s, (at, tt)))
      → r ≡ r'
  read_stimulus_unique s at r r' p q = p ∙ sym q

  pub read_trace_unique : (s : Bytes) (at : ℕ) (r r' : TraceRead)
      → read_trace.Post κs (n, (s, (at, tt))) r (n, (s, (at, tt)))
      → read_trace.Post κs (n, (s, (at, tt))) r' (n, (s, (at, tt)))
      → r ≡ r'
  read_trace_unique s at r r' p q = p ∙ sym q

  module _ (buf out out' : Buffer) (r r' : Written) where
    pub write_stimulus_unique : (x : Inputs)
        → write_stimulus.Post κs (n, (x, (buf, tt))) r (n, (x, (out, tt)))
        → write_stimulus.Post κs (n, (x, (buf, tt))) r' (n, (x, (out', tt)))
        → (r ≡ r') × (out.now ≡ out'.now)
    write_stimulus_unique x p q = (p.0 ∙ sym q.0, p.1 ∙ sym q.1)

    pub write_trace_unique : (c : Cycle)
        → write_trace.Post κs (n, (c, (buf, tt))) r (n, (c, (out, tt)))
        → write_trace.Post κs (n, (c, (buf, tt))) r' (n, (c, (out', tt)))
        → (r ≡ r') × (out.now ≡ out'.now)
    write_trace_unique c p q = (p.0 ∙ sym q.0, p.1 ∙ sym q.1)
