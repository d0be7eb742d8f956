-- What the programs are proved from, once for all.
--
--   Headed begin h r == what the call for a header with the reading h answers: the bytes written and how the program begins, or those of a refusal
--   headed_of p      == that answer, of a call that answers as for a block
--   CutAt Cut s r    == r bytes of the block s are taken, and the rest is kept
--   Taken ..         == of n bytes the first are taken, where they may be cut from the rest: what is kept then, or how the program ends
--   Laws ..          == what a program must keep to
use Rattle.std.specs.Prelude.{ℕ, ◌-◌, ◌≤◌, ◌≡◌, ◌+◌, cond, List, length, take, drop, Result, Err, Ok}
use Rattle.rules.specs.Codes.{most_cycles}
use Rattle.formats.specs.Results.{HeaderRead}
use Rattle.streams.specs.declared.Progress.{Progress}
use Rattle.streams.specs.Streams.{Turn, Stretch, goes, stretch}
use Rattle.streams.specs.Blocks.{Stepping}
use Rattle.streams.specs.Stays.{kept}
use Rattle.console.specs.declared.Ending.{Ending}
use Rattle.console.specs.Going.{goes_on_after}
use Rattle.console.specs.Ends.{Met}

abbrev pub Headed : {S : Type 0} → (ℕ → S) → HeaderRead → Result (ℕ × S) ℕ → Type 0
Headed begin (Ok (n, next)) (Ok (written, s)) = s ≡ begin n
Headed begin (Ok (n, next)) (Err written) = ⊥
Headed begin (Err r) (Ok (written, s)) = ⊥
Headed begin (Err r) (Err written) = Unit

abbrev pub headed_of : {S : Type 0} → Progress S → Result (ℕ × S) ℕ
headed_of p = cond (goes_on_after p.flow) (Ok (p.written, p.kept)) (Err p.written)

pub record CutAt (Cut : List ℕ → List ℕ → Type 0) (s : List ℕ) (r : ℕ) : Type 0 where
  pub inside : r ≤ length s
  pub parted : Cut (take r s) (drop r s)

-- r bytes of n were taken, and the others stand at the front of the buffer
abbrev pub Left : {S : Type 0} → Stretch S → ℕ → ℕ → List ℕ → List ℕ → Result (S × ℕ) Ending → Type 0
Left x n r old new (Ok (t, k)) = Met x (Ok t) × (k ≡ n - r) × (take k new ≡ drop r (take n old))
Left x n r old new (Err e) = Met x (Err e)

pub record Taken {S : Type 0} (turn : S → List ℕ → Turn S) (Cut : List ℕ → List ℕ → Type 0) (s : S) (n : ℕ) (old new : List ℕ) (e : Result (S × ℕ) Ending) : Type 0 where
  pub r : ℕ
  pub inside : r ≤ n
  pub parted : Cut (take r old) (drop r (take n old))
  pub left : Left (stretch turn (length (take r old)) s (take r old)) n r old new e

pub record Laws {S : Type 0} (turn : S → List ℕ → Turn S) (formed : S → Type 0) (count : S → ℕ) (header : List ℕ → HeaderRead) (begin : ℕ → S) (Cut : List ℕ → List ℕ → Type 0)
    (rest least : ℕ) : Type 0 where
  pub some : 1 ≤ least
  -- what is kept is well formed, from the header on
  pub begins : (head : List ℕ) (n next : ℕ) → header head ≡ Ok (n, next) → formed (begin n)
  pub stays : (s : S) (block : List ℕ) → formed s → formed (kept (stretch turn (length block) s block))
  -- what is taken is counted, and there are no more than 1,000,000
  pub shortest : ℕ
  pub longest : ℕ
  pub steps : Stepping shortest longest turn
  pub counts : (s : S) (rest bytes : List ℕ) (t : S) (k : ℕ) → turn s rest ≡ goes bytes t k → (count t ≡ count s + 1) × (count t ≤ most_cycles)
  pub bounded : (s : S) → formed s → count s ≤ most_cycles
  -- what is kept of a cut line or step
  pub rests : (a b : List ℕ) → Cut a b → length b ≤ rest
