-- The bytes of some judges, and some calls over such bytes, as two tables to be read beside the layout of Bytes.antt.
--
--   judges, written   == judges, and the 42 bytes of each; between them two places that could be swapped differ
--   Asked             == a call, and beside it the number that it answers and the buffers that it leaves
--   heard a, wanted a == what the definitions answer, and what is said beside the call
use Rattle.std.specs.Prelude.{ℕ, Bool, true, false, List, [], ◌∷◌, ◌++◌, replicate}
use Rattle.rules.specs.declared.Cycle.{Cycle}
use Rattle.rulebook.specs.declared.Watch.{Watch}
use Rattle.rulebook.specs.declared.Watch.TheVariants.{Nothing, OnG2, OnG3}
use Rattle.rulebook.specs.declared.Judge.{Judge}
use Rattle.rulebook.specs.Step.{number_of}
use Rattle.docketing.specs.Calls.{recorded, judge_step, judge_number, judge_after, broken_after, judge_start, start_after}

abbrev judge : ℕ → Bool → Watch → ℕ → ℕ → ℕ → Cycle → List ℕ → Judge
judge n opened watch locked waited count previous lost =
    record { n = n; count = count; previous = previous; locked = locked; waited = waited; opened = opened; watch = watch; lost = lost }

abbrev none : List ℕ
none = replicate 16 0

-- 1,023 is 0x03ff, and 1,000,000 is 0x0f4240
abbrev pub judges : List Judge
judges =
    judge 3 false Nothing 0 0 0 (recorded 0 0 0 0 0 0 0 0 0 0 0) none
    ∷ judge 16 true (OnG3 3) 1023 16 1000000 (recorded 0x1234 0x5678 1 2 3 0x9abc 5 0 1 0 1)
    (1 ∷ 2 ∷ 3 ∷ 4 ∷ 5 ∷ 6 ∷ 7 ∷ 8 ∷ 9 ∷ 10 ∷ 11 ∷ 12 ∷ 13 ∷ 14 ∷ 15 ∷ 0 ∷ [])
    ∷ judge 9 true OnG2 0x0102 7 0x010203 (recorded 0x0102 0x0103 0 3 1 0x0104 8 1 0 0 1) (0 ∷ 8 ∷ replicate 14 0)
    ∷ judge 2 false Nothing 1 2 3 (recorded 1 2 0 0 1 3 1 1 1 1 0) (1 ∷ 0 ∷ replicate 14 0)
    ∷ []

abbrev pub written : List (List ℕ)
written =
    (3 ∷ replicate 41 0)
    ∷ (16 ∷ 1 ∷ 2 ∷ 3 ∷ 0xff ∷ 0x03 ∷ 16 ∷ 0 ∷ 0x40 ∷ 0x42 ∷ 0x0f ∷ 0
    ∷ 0x34 ∷ 0x12 ∷ 0x78 ∷ 0x56 ∷ 1 ∷ 2 ∷ 3 ∷ 0xbc ∷ 0x9a ∷ 5 ∷ 0 ∷ 1 ∷ 0 ∷ 1
    ∷ 1 ∷ 2 ∷ 3 ∷ 4 ∷ 5 ∷ 6 ∷ 7 ∷ 8 ∷ 9 ∷ 10 ∷ 11 ∷ 12 ∷ 13 ∷ 14 ∷ 15 ∷ 0 ∷ [])
    ∷ (9 ∷ 1 ∷ 1 ∷ 0 ∷ 2 ∷ 1 ∷ 7 ∷ 0 ∷ 3 ∷ 2 ∷ 1 ∷ 0
    ∷ 2 ∷ 1 ∷ 3 ∷ 1 ∷ 0 ∷ 3 ∷ 1 ∷ 4 ∷ 1 ∷ 8 ∷ 1 ∷ 0 ∷ 0 ∷ 1
    ∷ 0 ∷ 8 ∷ replicate 14 0)
    ∷ (2 ∷ 0 ∷ 0 ∷ 0 ∷ 1 ∷ 0 ∷ 2 ∷ 0 ∷ 3 ∷ 0 ∷ 0 ∷ 0
    ∷ 1 ∷ 0 ∷ 2 ∷ 0 ∷ 0 ∷ 0 ∷ 1 ∷ 3 ∷ 0 ∷ 1 ∷ 1 ∷ 1 ∷ 1 ∷ 0
    ∷ 1 ∷ 0 ∷ replicate 14 0)
    ∷ []

pub data Asked : Type 0 where
  -- a step that is refused by this number, and changes no byte; or one that is taken, with the bytes that it leaves in the two buffers
  refuses : ℕ → List ℕ → List ℕ → Cycle → Asked
  takes : List ℕ → List ℕ → Cycle → List ℕ → List ℕ → Asked
  -- the same of a start for n masters
  declines : ℕ → ℕ → List ℕ → Asked
  begins : ℕ → List ℕ → List ℕ → Asked

-- the number, and the two buffers
pub data Heard : Type 0 where
  left : ℕ → List ℕ → List ℕ → Heard

unfoldable pub heard : Asked → Heard
heard (refuses k judge broken c) =
    let r = judge_step judge broken c in left (judge_number r) (judge_after r judge) (broken_after r broken)
heard (takes judge broken c judge' broken') =
    let r = judge_step judge broken c in left (judge_number r) (judge_after r judge) (broken_after r broken)
heard (declines k n judge) = left (number_of (judge_start n judge).verdict) (start_after (judge_start n judge) judge) []
heard (begins n judge judge') = left (number_of (judge_start n judge).verdict) (start_after (judge_start n judge) judge) []

unfoldable pub wanted : Asked → Heard
wanted (refuses k judge broken c) = left k judge broken
wanted (takes judge broken c judge' broken') = left 0 judge' broken'
wanted (declines k n judge) = left k judge []
wanted (begins n judge judge') = left 0 judge' []

-- bytes 0 to 11 of three masters, and bytes 12 to 25 of cycle 0 as a reset shows it
abbrev head : ℕ → ℕ → ℕ → ℕ → ℕ → ℕ → List ℕ
head opened watch k waited spare count = 3 ∷ opened ∷ watch ∷ k ∷ 0 ∷ 0 ∷ waited ∷ spare ∷ count ∷ 0 ∷ 0 ∷ 0 ∷ []

abbrev shown : List ℕ
shown = 0 ∷ 0 ∷ 0 ∷ 0 ∷ 0 ∷ 0 ∷ 0 ∷ 1 ∷ 0 ∷ 0 ∷ 0 ∷ 1 ∷ 0 ∷ 0 ∷ []

abbrev with : List ℕ → List ℕ
with h = h ++ (shown ++ none)

-- a judge after cycle 0, at its last cycle, and one with n 1
abbrev well : List ℕ
well = with (head 0 0 0 1 0 1)

abbrev full : List ℕ
full = with (3 ∷ 0 ∷ 0 ∷ 0 ∷ 0 ∷ 0 ∷ 1 ∷ 0 ∷ 0x40 ∷ 0x42 ∷ 0x0f ∷ 0 ∷ [])

abbrev alone : List ℕ
alone = with (1 ∷ 0 ∷ 0 ∷ 0 ∷ 0 ∷ 0 ∷ 1 ∷ 0 ∷ 0x40 ∷ 0x42 ∷ 0x0f ∷ 0 ∷ [])

abbrev four : List ℕ
four = 7 ∷ 7 ∷ 7 ∷ 7 ∷ []

-- cycles that are refused by 4 and everything after it, by 5 .., by 6 and 7, by 7
abbrev all : Cycle
all = recorded 0 0 0 1 0 8 3 2 0 0 0

abbrev unbuilt : Cycle
unbuilt = recorded 0 0 0 1 0 8 3 0 0 0 0

abbrev absent : Cycle
absent = recorded 0 0 0 0 0 8 3 0 0 0 0

abbrev stray : Cycle
stray = recorded 0 0 0 0 0 1 3 0 0 0 0

-- cycle 0 as a reset shows it; the same but for HGRANT, or for BUSREQ
abbrev zeroth : Cycle
zeroth = recorded 0 0 0 0 0 1 0 0 1 0 0

abbrev ungranted : Cycle
ungranted = recorded 0 0 0 0 0 0 0 0 1 0 0

abbrev claimed : Cycle
claimed = recorded 0 0 0 0 0 1 0 0 1 0 1

-- In the order 9, 10, 8, 4, 5, 6, 7: each row meets its own test and those after it
abbrev refusals : List Asked
refusals =
    refuses 9 (replicate 41 1) four all
    ∷ refuses 9 (replicate 42 1) (7 ∷ 7 ∷ 7 ∷ []) all
    ∷ refuses 9 [] [] all
    -- no judge has such bytes: opened 2, watch 3, k on G2, the spare byte
    ∷ refuses 10 (with (head 2 0 0 1 0 1)) four all
    ∷ refuses 10 (with (head 1 3 0 1 0 1)) four all
    ∷ refuses 10 (with (head 1 1 1 1 0 1)) four all
    ∷ refuses 10 (with (head 0 0 0 1 1 1)) four all
    -- none that is well formed: n is 1; a watch in an access that has not opened; no ready cycle left, and four, on G3; count 0
    ∷ refuses 10 alone four all
    ∷ refuses 10 (with (head 0 1 0 1 0 1)) four zeroth
    ∷ refuses 10 (with (head 1 2 0 1 0 1)) four zeroth
    ∷ refuses 10 (with (head 1 2 4 1 0 1)) four zeroth
    ∷ refuses 10 (with (head 0 0 0 1 0 0)) four zeroth
    ∷ refuses 8 full four all
    ∷ refuses 4 well four all
    ∷ refuses 5 well four unbuilt
    ∷ refuses 6 well four absent
    ∷ refuses 7 well four stray
    ∷ []

-- what is taken: the first cycle, clean; G12 (bit 20) broken at it; A2 (bit 1) and G1 (bit 9) broken at a later one. What lies behind stays.
abbrev cycles : List Asked
cycles =
    takes (3 ∷ replicate 41 0) four zeroth well (0 ∷ 0 ∷ 0 ∷ 0 ∷ [])
    ∷ takes (3 ∷ replicate 41 0) four ungranted
    (head 0 0 0 1 0 1 ++ (0 ∷ 0 ∷ 0 ∷ 0 ∷ 0 ∷ 0 ∷ 0 ∷ 0 ∷ 0 ∷ 0 ∷ 0 ∷ 1 ∷ 0 ∷ 0 ∷ []) ++ none) (0 ∷ 0 ∷ 0x10 ∷ 0 ∷ [])
    ∷ takes (with (head 0 0 0 16 0 9) ++ (5 ∷ 6 ∷ [])) (7 ∷ 7 ∷ 7 ∷ 7 ∷ 8 ∷ []) claimed
    (head 0 0 0 0 0 10 ++ (0 ∷ 0 ∷ 0 ∷ 0 ∷ 0 ∷ 0 ∷ 0 ∷ 1 ∷ 0 ∷ 0 ∷ 0 ∷ 1 ∷ 0 ∷ 1 ∷ []) ++ none ++ (5 ∷ 6 ∷ [])) (2 ∷ 2 ∷ 0 ∷ 0 ∷ 8 ∷ [])
    ∷ []

-- 9, 1
abbrev starts : List Asked
starts =
    declines 9 17 (replicate 41 5)
    ∷ declines 1 1 (replicate 42 5)
    ∷ declines 1 17 (replicate 42 5)
    ∷ begins 2 (replicate 42 5) (2 ∷ replicate 41 0)
    ∷ begins 16 (replicate 44 5) (16 ∷ (replicate 41 0 ++ (5 ∷ 5 ∷ [])))
    ∷ []

unfoldable pub asked : List Asked
asked = refusals ++ cycles ++ starts
