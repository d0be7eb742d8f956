-- What the rules say of a trace. A history is what was recorded up to some cycle, the newest first: in t ∷ (p ∷ h) the newest
-- cycle is t, p is the previous one, and h came before.
--
--   comparing f h     == f of p and t, a rule that compares them; not at cycle 0
--   always f h        == f of t, a rule that also holds at cycle 0
--   at_first f h      == f of t where t is cycle 0
--   in_a_row f h      == how many of the newest cycles have f, in a row
--   completes k r     == a row of length r has just reached k, or once more k: the run restarts at 0 with each charge
--   access h          == the cycles of the access that runs, so far: those since the last handover
--   Opened, opening a == an access at its opening: the opening itself, and the cycles later than it
--   so_far trace t    == the history up to and with cycle t of a trace that is recorded oldest cycle first; none beyond its end
--   newest_first h l  == the history of the whole trace l that follows the history h
use Rattle.std.specs.Prelude.{ℕ, zero, suc, ◌+◌, ◌%◌, Bool, true, false, ◌&&◌, cond, List, [], ◌∷◌, eqb, ltb}
use Rattle.rules.specs.declared.Cycle.{Cycle}
use Rattle.rulebook.specs.Columns.{is_ready, is_nonseq, handover}

-- "p is the previous cycle, t this one; a rule that compares them is charged at t, and not at cycle 0."
abbrev pub comparing : (Cycle → Cycle → Bool) → List Cycle → Bool
comparing f [] = false
comparing f (t ∷ []) = false
comparing f (t ∷ (p ∷ h)) = f p t

abbrev pub always : (Cycle → Bool) → List Cycle → Bool
always f [] = false
always f (t ∷ h) = f t

abbrev pub at_first : (Cycle → Bool) → List Cycle → Bool
at_first f [] = false
at_first f (t ∷ []) = f t
at_first f (t ∷ (p ∷ h)) = false

-- "1,024 cycles in a row .. Charged at the last; the run restarts at 0."
unfoldable pub in_a_row : (Cycle → Bool) → List Cycle → ℕ
in_a_row f [] = 0
in_a_row f (c ∷ h) = cond (f c) (1 + in_a_row f h) 0

unfoldable pub completes : ℕ → ℕ → Bool
completes k r = ltb 0 r && eqb (r % k) 0

-- "an access runs from the cycle after one handover (or from cycle 0) up to and including the next": a handover ends it, so after one
-- nothing has come yet of the next; the cycles before a handover t are those of its access, and t is its last
unfoldable pub access : List Cycle → List Cycle
access [] = []
access (c ∷ h) = cond (handover c) [] (c ∷ access h)

-- "the opening of an access is its first ready cycle with NONSEQ."
unfoldable pub opens : Cycle → Bool
opens c = is_ready c && is_nonseq c

pub data Opened : Type 0 where
  not_yet : Opened
  opened_at : Cycle → List Cycle → Opened

-- one more cycle c of the access
abbrev pub further : Cycle → Opened → Opened
further c not_yet = cond (opens c) (opened_at c []) not_yet
further c (opened_at o later) = opened_at o (c ∷ later)

unfoldable pub opening : List Cycle → Opened
opening [] = not_yet
opening (c ∷ a) = further c (opening a)

-- all cycles of a list have f; how many of them are ready
unfoldable pub all : (Cycle → Bool) → List Cycle → Bool
all f [] = true
all f (c ∷ l) = f c && all f l

unfoldable pub readies : List Cycle → ℕ
readies [] = 0
readies (c ∷ l) = cond (is_ready c) 1 0 + readies l

-- of the trace c ∷ l that follows the history h
unfoldable pub so_far_after : List Cycle → List Cycle → ℕ → List Cycle
so_far_after h [] t = []
so_far_after h (c ∷ l) zero = c ∷ h
so_far_after h (c ∷ l) (suc t) = so_far_after (c ∷ h) l t

abbrev pub so_far : List Cycle → ℕ → List Cycle
so_far trace t = so_far_after [] trace t

unfoldable pub newest_first : List Cycle → List Cycle → List Cycle
newest_first h [] = h
newest_first h (c ∷ l) = newest_first (c ∷ h) l
