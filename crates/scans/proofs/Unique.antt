-- The contracts leave no choice: two results that meet the contract of a call are equal.
-- `Post` is the contract as the prover reads it: lifetimes, arguments, result, and the arguments at exit.
use Prim.Native.Nat.{ℕ}
use mathlib.Core.Path.{◌≡◌, sym, ◌∙◌}
use mathlib.Core.List.{List}
use contract.Lifetimes.{Lfts}
use denote.Ref.{Bor}
use Rattle.rules.specs.declared.Cycle.{Cycle}
use Rattle.formats.specs.Results.{HeaderRead, TraceRead}
use Rattle.scans.proofs.header.read_dump_header.Reads as read_header
use Rattle.scans.proofs.read_step.Reads as read_step

module _ (κs : Lfts 1) (s : Bor (List ℕ)) where
  pub read_dump_header_unique : (r r' : HeaderRead)
      → read_header.Post κs (s, tt) r (s, tt)
      → read_header.Post κs (s, tt) r' (s, tt)
      → r ≡ r'
  read_dump_header_unique r r' p q = p ∙ sym q

  pub read_step_unique : (n t : ℕ) (prev : Cycle) (at : ℕ) (r r' : TraceRead)
      → read_step.Post κs (n, (t, (prev, (s, (at, tt))))) r (n, (t, (prev, (s, (at, tt)))))
      → read_step.Post κs (n, (t, (prev, (s, (at, tt))))) r' (n, (t, (prev, (s, (at, tt)))))
      → r ≡ r'
  read_step_unique n t prev at r r' p q = p ∙ sym q
