-- The contracts leave no choice: two results that meet the contract of a call are equal, and so are the bytes of the buffer at exit.
-- `Post` is the contract as the prover reads it: lifetimes, arguments, result, and the arguments at exit.
use Prim.Native.Nat.{ℕ}
use mathlib.Core.Path.{◌≡◌, sym, ◌∙◌}
use mathlib.Core.List.{List}
use contract.Lifetimes.{Lfts}
use denote.Ref.{Bor}
use denote.MutBor.{MutBor}
use Rattle.rules.specs.declared.Refusal.{Refusal}
use Rattle.rulebook.specs.declared.Rule.{Rule}
use Rattle.formats.specs.declared.Word.{Word}
use Rattle.formats.specs.Results.{HeaderRead, Written}
use Rattle.headers.proofs.read_header.Reads as read_header
use Rattle.headers.proofs.write_header.Reads as write_header
use Rattle.headers.proofs.write_breach.Reads as write_breach
use Rattle.headers.proofs.write_end.Reads as write_end
use Rattle.headers.proofs.write_refused.Reads as write_refused

abbrev Bytes : Type 0
Bytes = Bor (List ℕ)

abbrev Buffer : Type 0
Buffer = MutBor (List ℕ)

module _ (κs : Lfts 1) where
  pub read_header_unique : (w : Word) (s : Bytes) (r r' : HeaderRead)
      → read_header.Post κs (w, (s, tt)) r (w, (s, tt))
      → read_header.Post κs (w, (s, tt)) r' (w, (s, tt))
      → r ≡ r'
  read_header_unique w s r r' p q = p ∙ sym q

  module _ (buf out out' : Buffer) (r r' : Written) where
    pub write_header_unique : (w : Word) (n : ℕ)
        → write_header.Post κs (w, (n, (buf, tt))) r (w, (n, (out, tt)))
        → write_header.Post κs (w, (n, (buf, tt))) r' (w, (n, (out', tt)))
        → (r ≡ r') × (out.now ≡ out'.now)
    write_header_unique w n p q = (p.0 ∙ sym q.0, p.1 ∙ sym q.1)

    pub write_breach_unique : (t : ℕ) (rule : Rule)
        → write_breach.Post κs (t, (rule, (buf, tt))) r (t, (rule, (out, tt)))
        → write_breach.Post κs (t, (rule, (buf, tt))) r' (t, (rule, (out', tt)))
        → (r ≡ r') × (out.now ≡ out'.now)
    write_breach_unique t rule p q = (p.0 ∙ sym q.0, p.1 ∙ sym q.1)

    pub write_end_unique : (k b : ℕ)
        → write_end.Post κs (k, (b, (buf, tt))) r (k, (b, (out, tt)))
        → write_end.Post κs (k, (b, (buf, tt))) r' (k, (b, (out', tt)))
        → (r ≡ r') × (out.now ≡ out'.now)
    write_end_unique k b p q = (p.0 ∙ sym q.0, p.1 ∙ sym q.1)

    pub write_refused_unique : (l : ℕ) (f : Refusal)
        → write_refused.Post κs (l, (f, (buf, tt))) r (l, (f, (out, tt)))
        → write_refused.Post κs (l, (f, (buf, tt))) r' (l, (f, (out', tt)))
        → (r ≡ r') × (out.now ≡ out'.now)
    write_refused_unique l f p q = (p.0 ∙ sym q.0, p.1 ∙ sym q.1)
