-- A program from its header to its end: how it goes from read to read, and what it ends with.
--
--   Closes .. Cut s old e == in the state s, with the bytes old kept, the program ends as e says
--   Turned .. old new r   == one read, with the bytes old kept: the program went on, and as many bytes of the buffer new are kept as r says, or it ends
--   Ran .. s e            == from the state s on the program went on any number of times, and then ended
--   Begins .. h e         == after the header h the program ends as e says
use Rattle.std.specs.Prelude.{ℕ, ◌≤◌, ◌≡◌, false, List, [], ◌++◌, length, take, Result, Err, Ok}
use Rattle.rules.specs.declared.Refusal.{Refusal}
use Rattle.formats.specs.Results.{HeaderRead}
use Rattle.streams.specs.Streams.{Turn, stretch}
use Rattle.console.specs.declared.Ending.{Ending}
use Rattle.console.specs.declared.Ending.TheVariants.{Refused, Unread, Unwritten}
use Rattle.console.specs.Going.{Onward, Onwards}
use Rattle.console.specs.Ends.{EndsAfter, Came}

module _ {S : Type 0} (breaches : S → ℕ) (turn : S → List ℕ → Turn S) where
  -- its input could not be read; or it ended, and what was kept were the last bytes; or of what was kept and read the whole lines came to an end
  pub data Closes (Cut : List ℕ → List ℕ → Type 0) (s : S) (old : List ℕ) (e : Ending) : Type 0 where
    unread : e ≡ Unread → Closes Cut s old e
    ended : EndsAfter breaches (stretch turn (length old) s old) e → Closes Cut s old e
    stopped : (read lines rest : List ℕ) → 1 ≤ length read → old ++ read ≡ lines ++ rest → Cut lines rest
        → Came breaches (stretch turn (length lines) s lines) false e → Closes Cut s old e

  pub data Turned (Cut : List ℕ → List ℕ → Type 0) (s : S) (old new : List ℕ) : Result (S × ℕ) Ending → Type 0 where
    further : {t : S} {k : ℕ} → Onward turn Cut s old t (take k new) → Turned Cut s old new (Ok (t, k))
    closes : {e : Ending} → Closes Cut s old e → Turned Cut s old new (Err e)

  pub record Ran (Cut : List ℕ → List ℕ → Type 0) (s : S) (e : Ending) : Type 0 where
    pub at : S
    pub kept : List ℕ
    pub way : Onwards turn Cut s [] at kept
    pub end : Closes Cut at kept e

  -- the header's own output may fail too
  pub data Begins (Cut : List ℕ → List ℕ → Type 0) (start : ℕ → S) (e : Ending) : HeaderRead → Type 0 where
    begun : {n next : ℕ} → Ran Cut (start n) e → Begins Cut start e (Ok (n, next))
    refused : {r : Refusal} → e ≡ Refused → Begins Cut start e (Err r)
    unwritten : {h : HeaderRead} → e ≡ Unwritten → Begins Cut start e h
