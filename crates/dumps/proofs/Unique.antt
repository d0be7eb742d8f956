-- The contracts leave no choice: two results that meet the contract of a call are equal, and so are the bytes of the buffer at exit.
-- `Post` is the contract as the prover reads it: lifetimes, arguments, result, and the arguments at exit.
use Prim.Native.Nat.{ℕ}
use mathlib.Core.Path.{◌≡◌, sym, ◌∙◌}
use mathlib.Core.List.{List}
use contract.Lifetimes.{Lfts}
use denote.MutBor.{MutBor}
use Rattle.rules.specs.declared.Cycle.{Cycle}
use Rattle.formats.specs.Results.{Written}
use Rattle.dumps.proofs.write_dump_header.Reads as write_header
use Rattle.dumps.proofs.put_step.Reads as put_step
use Rattle.dumps.proofs.write_step.Reads as write_step

abbrev Bytes : Type 0
Bytes = MutBor (List ℕ)

module _ (κs : Lfts 1) (buf out out' : Bytes) where
  pub write_dump_header_unique : (n : ℕ) (r r' : Written)
      → write_header.Post κs (n, (buf, tt)) r (n, (out, tt))
      → write_header.Post κs (n, (buf, tt)) r' (n, (out', tt))
      → (r ≡ r') × (out.now ≡ out'.now)
  write_dump_header_unique n r r' p q = (p.0 ∙ sym q.0, p.1 ∙ sym q.1)

  module _ (t : ℕ) (prev c : Cycle) where
    pub put_step_unique : (r r' : ℕ)
        → put_step.Post κs (prev, (t, (c, (buf, tt)))) r (prev, (t, (c, (out, tt))))
        → put_step.Post κs (prev, (t, (c, (buf, tt)))) r' (prev, (t, (c, (out', tt))))
        → (r ≡ r') × (out.now ≡ out'.now)
    put_step_unique r r' p q = (p.0 ∙ sym q.0, p.1 ∙ sym q.1)

    pub write_step_unique : (n : ℕ) (r r' : Written)
        → write_step.Post κs (n, (t, (prev, (c, (buf, tt))))) r (n, (t, (prev, (c, (out, tt)))))
        → write_step.Post κs (n, (t, (prev, (c, (buf, tt))))) r' (n, (t, (prev, (c, (out', tt)))))
        → (r ≡ r') × (out.now ≡ out'.now)
    write_step_unique n r r' p q = (p.0 ∙ sym q.0, p.1 ∙ sym q.1)
