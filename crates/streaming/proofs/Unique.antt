-- The contracts leave no choice: two results that meet the contract of a call are equal, and so are the bytes of the buffer at exit.
-- `Post` is the contract as the prover reads it: lifetimes, arguments, result, and the arguments at exit.
use Prim.Native.Nat.{ℕ}
use mathlib.Core.Path.{◌≡◌, sym, ◌∙◌}
use mathlib.Core.List.{List}
use contract.Lifetimes.{Lfts}
use denote.Ref.{Bor}
use denote.MutBor.{MutBor}
use Rattle.rules.specs.declared.State.{State}
use Rattle.formats.specs.Results.{Written}
use Rattle.streams.specs.declared.Progress.{Progress}
use Rattle.streams.specs.declared.Tally.{Tally}
use Rattle.streaming.specs.declared.ArbiterHead.{ArbiterHead}
use Rattle.streaming.proofs.arbiter_head.Reads as arbiter_head
use Rattle.streaming.proofs.arbiter_block.Reads as arbiter_block
use Rattle.streaming.proofs.judge_head.Reads as judge_head
use Rattle.streaming.proofs.judge_block.Reads as judge_block
use Rattle.streaming.proofs.judge_end.Reads as judge_end

abbrev Bytes : Type 0
Bytes = Bor (List ℕ)

abbrev Buffer : Type 0
Buffer = MutBor (List ℕ)

module _ (buf out out' : Buffer) where
  module _ (κs : Lfts 2) (input : Bytes) where
    pub arbiter_head_unique : (r r' : ArbiterHead)
        → arbiter_head.Post κs (input, (buf, tt)) r (input, (out, tt))
        → arbiter_head.Post κs (input, (buf, tt)) r' (input, (out', tt))
        → (r ≡ r') × (out.now ≡ out'.now)
    arbiter_head_unique r r' p q = (p.0 ∙ sym q.0, p.1 ∙ sym q.1)

    pub arbiter_block_unique : (s : State) (r r' : Progress State)
        → arbiter_block.Post κs (s, (input, (buf, tt))) r (s, (input, (out, tt)))
        → arbiter_block.Post κs (s, (input, (buf, tt))) r' (s, (input, (out', tt)))
        → (r ≡ r') × (out.now ≡ out'.now)
    arbiter_block_unique s r r' p q = (p.0 ∙ sym q.0, p.1 ∙ sym q.1)

    pub judge_head_unique : (r r' : Progress Tally)
        → judge_head.Post κs (input, (buf, tt)) r (input, (out, tt))
        → judge_head.Post κs (input, (buf, tt)) r' (input, (out', tt))
        → (r ≡ r') × (out.now ≡ out'.now)
    judge_head_unique r r' p q = (p.0 ∙ sym q.0, p.1 ∙ sym q.1)

    pub judge_block_unique : (b : Tally) (r r' : Progress Tally)
        → judge_block.Post κs (b, (input, (buf, tt))) r (b, (input, (out, tt)))
        → judge_block.Post κs (b, (input, (buf, tt))) r' (b, (input, (out', tt)))
        → (r ≡ r') × (out.now ≡ out'.now)
    judge_block_unique b r r' p q = (p.0 ∙ sym q.0, p.1 ∙ sym q.1)

  pub judge_end_unique : (κs : Lfts 1) (b : Tally) (r r' : Written)
      → judge_end.Post κs (b, (buf, tt)) r (b, (out, tt))
      → judge_end.Post κs (b, (buf, tt)) r' (b, (out', tt))
      → (r ≡ r') × (out.now ≡ out'.now)
  judge_end_unique κs b r r' p q = (p.0 ∙ sym q.0, p.1 ∙ sym q.1)
