-- The contracts leave no choice: two results that meet the contract of a call are equal, and so are the bytes of the buffer at exit.
-- `Post` is the contract as the prover reads it: lifetimes, arguments, result, and the arguments at exit.
use Prim.Native.Nat.{ℕ}
use mathlib.Core.Path.{◌≡◌, sym, ◌∙◌}
use mathlib.Core.List.{List}
use contract.Lifetimes.{Lfts}
use denote.Ref.{Bor}
use denote.MutBor.{MutBor}
use Rattle.conversions.specs.declared.Position.{Position}
use Rattle.streams.specs.declared.Progress.{Progress}
use Rattle.recalling.proofs.undump_head.Reads as undump_head
use Rattle.recalling.proofs.undump_block.Reads as undump_block

abbrev Bytes : Type 0
Bytes = Bor (List ℕ)

abbrev Buffer : Type 0
Buffer = MutBor (List ℕ)

module _ (κs : Lfts 2) (input : Bytes) (buf out out' : Buffer) (r r' : Progress Position) where
  pub undump_head_unique : undump_head.Post κs (input, (buf, tt)) r (input, (out, tt))
      → undump_head.Post κs (input, (buf, tt)) r' (input, (out', tt))
      → (r ≡ r') × (out.now ≡ out'.now)
  undump_head_unique p q = (p.0 ∙ sym q.0, p.1 ∙ sym q.1)

  pub undump_block_unique : (p : Position) → undump_block.Post κs (p, (input, (buf, tt))) r (p, (input, (out, tt)))
      → undump_block.Post κs (p, (input, (buf, tt))) r' (p, (input, (out', tt)))
      → (r ≡ r') × (out.now ≡ out'.now)
  undump_block_unique p x y = (x.0 ∙ sym y.0, x.1 ∙ sym y.1)
