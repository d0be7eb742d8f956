-- What the rules say of short traces: each case is a trace, and beside it what is broken at its cycles. CasesA has the cases of A1 to A9,
-- CasesWatch those of G2 and G3, CasesG those of the other guarantees: for each rule a trace that breaks it once and no other rule, and for each
-- clause of its sentence a neighbour that does not break it. Of the long rows of A1 one cycle is looked at. G12's neighbour has HTRANS NONSEQ in cycle 0,
-- which is A9.
--
--   says n w trace  == of this trace of n masters, w has the rules that are broken at each cycle
--   says_at n t rs trace == the rules rs are broken at its cycle t
--   start           == cycle 0 as a reset shows it
--   breaks n rs l   == the trace of start and then l breaks the rules rs at its last cycle, and nothing before
--   keeps n l       == it breaks nothing
--   first rs c      == the trace of the cycle c alone breaks the rules rs
--   found c, said c == what the rules say of a case, and what is said beside it
--   table           == found and said agree in every case (proofs/Cases.antt)
use Rattle.std.specs.Prelude.{ℕ, List, [], ◌∷◌, length}
use Rattle.rules.specs.declared.Cycle.{Cycle}
use Rattle.rulebook.specs.declared.Rule.{Rule}
use Rattle.rulebook.specs.Rules.{broken_rules}
use Rattle.rulebook.specs.Promises.{broken_report}
use Rattle.rulebook.specs.Examples.{line, last}

pub data Case : Type 0 where
  says : ℕ → List (List Rule) → List Cycle → Case
  says_at : ℕ → ℕ → List Rule → List Cycle → Case

abbrev pub start : Cycle
start = line 0x0000 0x0000 0 0 0 0x0001 0x0 0 1 0 0

abbrev pub breaks : ℕ → List Rule → List Cycle → Case
breaks n rs l = says n (last (length l) rs) (start ∷ l)

abbrev pub keeps : ℕ → List Cycle → Case
keeps n l = breaks n [] l

abbrev pub first : List Rule → Cycle → Case
first rs c = says 2 (rs ∷ []) (c ∷ [])

abbrev pub found : Case → List (List Rule)
found (says n w trace) = broken_report n trace
found (says_at n t rs trace) = broken_rules n trace t ∷ []

abbrev pub said : Case → List (List Rule)
said (says n w trace) = w
said (says_at n t rs trace) = rs ∷ []
