-- The contracts leave no choice: two results that meet the contract of a call are equal, and so are the bytes of the buffer at exit.
-- `Post` is the contract as the prover reads it: lifetimes, arguments, result, and the arguments at exit.
use Prim.Native.Nat.{ℕ}
use mathlib.Core.Path.{◌≡◌, sym, ◌∙◌}
use mathlib.Core.List.{List}
use contract.Lifetimes.{Lfts}
use denote.Ref.{Bor}
use denote.MutBor.{MutBor}
use Rattle.conversions.specs.declared.Position.{Position}
use Rattle.streams.specs.declared.Progress.{Progress}
use Rattle.drawing.proofs.dump_head.Reads as dump_head
use Rattle.drawing.proofs.dump_block.Reads as dump_block

abbrev Bytes : Type 0
Bytes = Bor (List ℕ)

abbrev Buffer : Type 0
Buffer = MutBor (List ℕ)

module _ (κs : Lfts 2) (input : Bytes) (buf out out' : Buffer) (r r' : Progress Position) where
  pub dump_head_unique : dump_head.Post κs (input, (buf, tt)) r (input, (out, tt))
      → dump_head.Post κs (input, (buf, tt)) r' (input, (out', tt))
      → (r ≡ r') × (out.now ≡ out'.now)
  dump_head_unique p q = (p.0 ∙ sym q.0, p.1 ∙ sym q.1)

  pub dump_block_unique : (p : Position) → dump_block.Post κs (p, (input, (buf, tt))) r (p, (input, (out, tt)))
      → dump_block.Post κs (p, (input, (buf, tt))) r' (p, (input, (out', tt)))
      → (r ≡ r') × (out.now ≡ out'.now)
  dump_block_unique p x y = (x.0 ∙ sym y.0, x.1 ∙ sym y.1)
