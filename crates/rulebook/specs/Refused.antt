-- Each refusal of the judge's start and step by its number, and beside it the neighbours that are taken, as one table: what is `heard` of
-- each entry of `asked` is what is `wanted` of it.
-- n = 3, count 1, the previous cycle and this one as a reset shows it, row lengths and lost counts 0, not opened, no watch, unless said.
--
--   Asked             == a step or a start, and the number that the page gives it
--   judging n k p ..  == a judge: n, the count, the previous cycle, both row lengths, whether the access has opened, the watch, the lost counts
--   unused n          == the judge of n masters before the first cycle
--   well, after c     == the judge unless said; the same after the cycle c
--   watching opened w == the same with this watch
--   lost_by i k, losing n i k == lost counts of which master i has k; a judge of n masters with them
--   previously c      == a judge with count 0 whose previous cycle is c
--   bad, full         == a judge that is not well formed, and one at the end of a run
--   heard a           == what the definitions answer: the number, the judge that comes with it, and how many rules are charged
--   wanted a          == what the page says: the number, the judge as it came, and no rule
--   table             == they agree (proofs/Refused.antt)
use Rattle.std.specs.Prelude.{ℕ, ◌-◌, Bool, true, false, List, [], ◌∷◌, ◌++◌, length, replicate}
use Rattle.rules.specs.declared.Cycle.{Cycle}
use Rattle.rulebook.specs.declared.Watch.{Watch}
use Rattle.rulebook.specs.declared.Watch.TheVariants.{Nothing, OnG2, OnG3}
use Rattle.rulebook.specs.declared.Judge.{Judge}
use Rattle.rulebook.specs.State.{start_of}
use Rattle.rulebook.specs.Step.{number_of, judge_of, charged_rules}
use Rattle.rulebook.specs.Examples.{line}
use Rattle.rulebook.specs.Cases.{start}

pub data Asked : Type 0 where
  -- a start for n masters is refused by this number; or taken
  declines : ℕ → ℕ → Asked
  begins : ℕ → Asked
  -- a step is refused by this number; or taken
  refuses : ℕ → Judge → Cycle → Asked
  takes : Judge → Cycle → Asked

-- the number, and with it the judge and how many rules are charged, where the table says it
pub data Heard : Type 0 where
  back : ℕ → Judge → ℕ → Heard
  number : ℕ → Heard

abbrev judging : ℕ → ℕ → Cycle → ℕ → ℕ → Bool → Watch → List ℕ → Judge
judging n count previous locked waited opened watch lost =
    record { n = n; count = count; previous = previous; locked = locked; waited = waited; opened = opened; watch = watch; lost = lost }

abbrev unused : ℕ → Judge
unused n = judging n 0 (line 0 0 0 0 0 0 0 0 0 0 0) 0 0 false Nothing (replicate 16 0)

unfoldable pub heard : Asked → Heard
heard (declines k n) = back (number_of (start_of n).verdict) (start_of n).judge 0
heard (begins n) = back (number_of (start_of n).verdict) (start_of n).judge 0
heard (refuses k j c) = back (number_of (judge_of j c).verdict) (judge_of j c).judge (length (charged_rules (judge_of j c)))
heard (takes j c) = number (number_of (judge_of j c).verdict)

-- the judge beside a start that is refused has no masters
unfoldable pub wanted : Asked → Heard
wanted (declines k n) = back k (unused 0) 0
wanted (begins n) = back 0 (unused n) 0
wanted (refuses k j c) = back k j 0
wanted (takes j c) = number 0

abbrev after : Cycle → Judge
after c = judging 3 1 c 0 0 false Nothing (replicate 16 0)

abbrev well : Judge
well = after start

abbrev watching : Bool → Watch → Judge
watching opened w = judging 3 1 start 0 0 opened w (replicate 16 0)

-- the lost count of master i is k
abbrev lost_by : ℕ → ℕ → List ℕ
lost_by i k = replicate i 0 ++ (k ∷ replicate (15 - i) 0)

abbrev losing : ℕ → ℕ → ℕ → Judge
losing n i k = judging n 1 start 0 0 false Nothing (lost_by i k)

abbrev previously : Cycle → Judge
previously c = judging 3 0 c 0 0 false Nothing (replicate 16 0)

abbrev bad : Judge
bad = judging 3 1 start 1024 0 false Nothing (replicate 16 0)

abbrev full : Judge
full = judging 3 1000000 start 0 0 false Nothing (replicate 16 0)

-- 10: the judge is not well formed
abbrev asked10 : List Asked
asked10 =
    -- n in range
    refuses 10 (unused 1) start
    ∷ takes (unused 2) start
    ∷ takes (unused 16) start
    ∷ refuses 10 (unused 17) start
    -- the count in range; and 8: it is 1,000,000 already
    ∷ takes (judging 3 999999 start 0 0 false Nothing (replicate 16 0)) start
    ∷ refuses 8 (judging 3 1000000 start 0 0 false Nothing (replicate 16 0)) start
    ∷ refuses 10 (judging 3 1000001 start 0 0 false Nothing (replicate 16 0)) start
    -- the previous cycle valid for n: 4, 5, 6, 7 apply to it
    ∷ refuses 10 (after (line 0 0 2 0 0 0 0 0 0 0 0)) start
    ∷ refuses 10 (after (line 0 0 0 1 0 0 0 0 0 0 0)) start
    ∷ refuses 10 (after (line 0x8 0 0 0 0 0 0 0 0 0 0)) start
    ∷ refuses 10 (after (line 0 0 0 0 0 0 3 0 0 0 0)) start
    ∷ takes (after (line 0x7 0x7 1 3 3 0x7 2 1 1 1 1)) start
    -- run lengths below 1,024 and 17
    ∷ takes (judging 3 1 start 1023 16 false Nothing (replicate 16 0)) start
    ∷ refuses 10 (judging 3 1 start 1024 0 false Nothing (replicate 16 0)) start
    ∷ refuses 10 (judging 3 1 start 0 17 false Nothing (replicate 16 0)) start
    -- lost counts below n, 0 for absent masters
    ∷ takes (losing 3 0 2) start
    ∷ refuses 10 (losing 3 0 3) start
    ∷ takes (losing 3 2 2) start
    ∷ refuses 10 (losing 3 2 3) start
    ∷ refuses 10 (losing 3 3 1) start
    ∷ refuses 10 (losing 3 15 1) start
    ∷ takes (losing 16 15 15) start
    ∷ refuses 10 (losing 16 15 16) start
    -- a watch stands only in an opened access
    ∷ takes (watching true Nothing) start
    ∷ refuses 10 (watching false OnG2) start
    ∷ takes (watching true OnG2) start
    ∷ refuses 10 (watching false (OnG3 1)) start
    -- with 1 to 3 ready cycles left
    ∷ refuses 10 (watching true (OnG3 0)) start
    ∷ takes (watching true (OnG3 1)) start
    ∷ takes (watching true (OnG3 3)) start
    ∷ refuses 10 (watching true (OnG3 4)) start
    -- with count 0 all but n is zero or none: the previous cycle, column by column,
    ∷ refuses 10 (previously (line 1 0 0 0 0 0 0 0 0 0 0)) start
    ∷ refuses 10 (previously (line 0 1 0 0 0 0 0 0 0 0 0)) start
    ∷ refuses 10 (previously (line 0 0 1 0 0 0 0 0 0 0 0)) start
    ∷ refuses 10 (previously (line 0 0 0 2 0 0 0 0 0 0 0)) start
    ∷ refuses 10 (previously (line 0 0 0 0 1 0 0 0 0 0 0)) start
    ∷ refuses 10 (previously (line 0 0 0 0 0 1 0 0 0 0 0)) start
    ∷ refuses 10 (previously (line 0 0 0 0 0 0 1 0 0 0 0)) start
    ∷ refuses 10 (previously (line 0 0 0 0 0 0 0 1 0 0 0)) start
    ∷ refuses 10 (previously (line 0 0 0 0 0 0 0 0 1 0 0)) start
    ∷ refuses 10 (previously (line 0 0 0 0 0 0 0 0 0 1 0)) start
    ∷ refuses 10 (previously (line 0 0 0 0 0 0 0 0 0 0 1)) start
    -- the run lengths, whether the access has opened, and the lost counts
    ∷ refuses 10 (judging 3 0 (line 0 0 0 0 0 0 0 0 0 0 0) 1 0 false Nothing (replicate 16 0)) start
    ∷ refuses 10 (judging 3 0 (line 0 0 0 0 0 0 0 0 0 0 0) 0 1 false Nothing (replicate 16 0)) start
    ∷ refuses 10 (judging 3 0 (line 0 0 0 0 0 0 0 0 0 0 0) 0 0 true Nothing (replicate 16 0)) start
    ∷ refuses 10 (judging 3 0 (line 0 0 0 0 0 0 0 0 0 0 0) 0 0 true OnG2 (replicate 16 0)) start
    ∷ refuses 10 (judging 3 0 (line 0 0 0 0 0 0 0 0 0 0 0) 0 0 false Nothing (lost_by 0 1)) start
    ∷ refuses 10 (judging 16 0 (line 0 0 0 0 0 0 0 0 0 0 0) 0 0 false Nothing (lost_by 15 1)) start
    ∷ []

-- 4, 5, 6, 7: the cycle is not valid for n
abbrev asked_cycles : List Asked
asked_cycles =
    -- 4: a mask above 65,535
    takes (losing 16 0 0) (line 0xffff 0xffff 0 0 0 0xffff 0xf 0 0 0 0)
    ∷ refuses 4 (losing 16 0 0) (line 0x10000 0 0 0 0 0 0 0 0 0 0)
    ∷ refuses 4 (losing 16 0 0) (line 0 0x10000 0 0 0 0 0 0 0 0 0)
    ∷ refuses 4 (losing 16 0 0) (line 0 0 0 0 0 0x10000 0 0 0 0 0)
    -- HTRANS above 3, HBURST above 7
    ∷ takes well (line 0 0 0 2 1 0 0 0 0 0 0)
    ∷ takes well (line 0 0 0 3 3 0 0 0 0 0 0)
    ∷ refuses 4 well (line 0 0 0 4 0 0 0 0 0 0 0)
    ∷ refuses 4 well (line 0 0 0 0 8 0 0 0 0 0 0)
    -- a flag above 1
    ∷ takes well (line 0 0 1 0 0 0 0 1 1 1 1)
    ∷ refuses 4 well (line 0 0 2 0 0 0 0 0 0 0 0)
    ∷ refuses 4 well (line 0 0 0 0 0 0 0 2 0 0 0)
    ∷ refuses 4 well (line 0 0 0 0 0 0 0 0 2 0 0)
    ∷ refuses 4 well (line 0 0 0 0 0 0 0 0 0 2 0)
    ∷ refuses 4 well (line 0 0 0 0 0 0 0 0 0 0 2)
    -- 5: HTRANS 1, or HBURST 2, 4, 5, 6, 7
    ∷ refuses 5 well (line 0 0 0 1 0 0 0 0 0 0 0)
    ∷ refuses 5 well (line 0 0 0 0 2 0 0 0 0 0 0)
    ∷ refuses 5 well (line 0 0 0 0 4 0 0 0 0 0 0)
    ∷ refuses 5 well (line 0 0 0 0 5 0 0 0 0 0 0)
    ∷ refuses 5 well (line 0 0 0 0 6 0 0 0 0 0 0)
    ∷ refuses 5 well (line 0 0 0 0 7 0 0 0 0 0 0)
    -- 6: HBUSREQ, HLOCK or HGRANT names a master not below n
    ∷ takes well (line 0x7 0x7 0 0 0 0x7 0 0 0 0 0)
    ∷ refuses 6 well (line 0x8 0 0 0 0 0 0 0 0 0 0)
    ∷ refuses 6 well (line 0 0x8 0 0 0 0 0 0 0 0 0)
    ∷ refuses 6 well (line 0 0 0 0 0 0x8 0 0 0 0 0)
    -- 7: HMASTER not below n
    ∷ takes well (line 0 0 0 0 0 0 2 0 0 0 0)
    ∷ refuses 7 well (line 0 0 0 0 0 0 3 0 0 0 0)
    ∷ refuses 7 (losing 16 0 0) (line 0 0 0 0 0 0 16 0 0 0 0)
    ∷ []

-- "The first test that applies, in the order given here, answers": 10, 8, 4, 5, 6, 7, each pair
abbrev asked_pairs : List Asked
asked_pairs =
    refuses 10 (judging 3 1000000 start 1024 0 false Nothing (replicate 16 0)) start
    ∷ refuses 10 bad (line 0 0 0 0 0 0 0 2 0 0 0)
    ∷ refuses 10 bad (line 0 0 0 1 0 0 0 0 0 0 0)
    ∷ refuses 10 bad (line 0 0 0 0 0 0x8 0 0 0 0 0)
    ∷ refuses 10 bad (line 0 0 0 0 0 0 3 0 0 0 0)
    ∷ refuses 8 full (line 0 0 0 0 0 0 0 2 0 0 0)
    ∷ refuses 8 full (line 0 0 0 1 0 0 0 0 0 0 0)
    ∷ refuses 8 full (line 0 0 0 0 0 0x8 0 0 0 0 0)
    ∷ refuses 8 full (line 0 0 0 0 0 0 3 0 0 0 0)
    ∷ refuses 4 well (line 0 0 0 1 0 0 0 2 0 0 0)
    ∷ refuses 4 well (line 0 0 0 0 0 0x8 0 2 0 0 0)
    ∷ refuses 4 well (line 0 0 0 0 0 0 3 2 0 0 0)
    ∷ refuses 5 well (line 0 0 0 1 0 0x8 0 0 0 0 0)
    ∷ refuses 5 well (line 0 0 0 1 0 0 3 0 0 0 0)
    ∷ refuses 6 well (line 0 0 0 0 0 0x8 3 0 0 0 0)
    ∷ []

-- the start: 1
abbrev asked_starts : List Asked
asked_starts = declines 1 0 ∷ declines 1 1 ∷ begins 2 ∷ begins 16 ∷ declines 1 17 ∷ []

unfoldable pub asked : List Asked
asked = asked_starts ++ asked10 ++ asked_cycles ++ asked_pairs
