-- The whole run that the page prints, and short runs in which a locked burst is cut or is not, as one table: each entry of
-- `looks` is the entry of `wanted` beside it.
--
--   line ..            == a trace line, its eleven columns as the page writes them
--   printed g          == the page's printed run of three masters, with HGRANT g in cycle 8 (0004 is printed)
--   up_to_opening b d  == the start of a run of two masters: master 1 locks, is granted, and opens a burst of code b in cycle 3
--   cut, released, second, third == such runs with the handover that ends the access
--   clean k, last k rs == no breach in k cycles; and then the rules rs are broken in the last
--   looks, wanted      == what the rules say of the runs, and what the page says
--   table              == the two agree (proofs/Examples.antt)
use Rattle.std.specs.Prelude.{ℕ, List, [], ◌∷◌, ◌++◌}
use Rattle.rules.specs.declared.Cycle.{Cycle}
use Rattle.rulebook.specs.declared.Rule.{Rule}
use Rattle.rulebook.specs.declared.Rule.TheVariants.{G2, G3, G6, G9}
use Rattle.rulebook.specs.Promises.{each, broken_report, broken_count}

-- HBUSREQ, HLOCK, HREADY, HTRANS, HBURST, HGRANT, HMASTER, HMASTLOCK, DECIDE, GRANTED, BUSREQ
abbrev pub line : ℕ → ℕ → ℕ → ℕ → ℕ → ℕ → ℕ → ℕ → ℕ → ℕ → ℕ → Cycle
line hbusreq hlock hready htrans hburst hgrant hmaster hmastlock decide granted busreq =
    record {
      inputs = record { hbusreq = hbusreq; hlock = hlock; hready = hready; htrans = htrans; hburst = hburst };
      outputs =
          record { hgrant = hgrant; hmaster = hmaster; hmastlock = hmastlock; decide = decide; granted = granted; busreq = busreq };
    }

abbrev printed : ℕ → List Cycle
printed g =
    line 0x0000 0x0000 0 0 0 0x0001 0x0 0 1 0 0
    ∷ line 0x0006 0x0000 1 0 0 0x0001 0x0 0 1 0 0
    ∷ line 0x0006 0x0000 1 0 0 0x0002 0x0 0 0 1 0
    ∷ line 0x0006 0x0000 1 2 3 0x0002 0x1 0 0 0 1
    ∷ line 0x0006 0x0000 1 3 3 0x0002 0x1 0 0 0 1
    ∷ line 0x0006 0x0000 0 3 3 0x0002 0x1 0 0 0 1
    ∷ line 0x0006 0x0000 1 3 3 0x0002 0x1 0 0 0 1
    ∷ line 0x0006 0x0000 1 3 3 0x0002 0x1 0 1 0 1
    ∷ line 0x0004 0x0000 1 0 0 g 0x1 0 0 1 0
    ∷ line 0x0004 0x0000 1 2 0 0x0004 0x2 0 1 0 1
    ∷ []

-- cycle 2 is the handover, cycle 3 the opening, with GRANTED low, HMASTLOCK high and DECIDE d
abbrev up_to_opening : ℕ → ℕ → List Cycle
up_to_opening b d =
    line 0x0000 0x0000 0 0 0 0x0001 0x0 0 1 0 0
    ∷ line 0x0002 0x0002 1 0 0 0x0001 0x0 0 1 0 0
    ∷ line 0x0002 0x0002 1 0 0 0x0002 0x0 0 0 1 0
    ∷ line 0x0002 0x0002 1 2 b 0x0002 0x1 1 d 0 1
    ∷ []

-- the next cycle is a handover, while the owner still requests
abbrev cut : ℕ → List Cycle
cut b = up_to_opening b 1 ++ (line 0x0002 0x0002 1 3 b 0x0002 0x1 1 0 1 1 ∷ [])

-- the same, but the owner's request is low in it
abbrev released : ℕ → List Cycle
released b = up_to_opening b 1 ++ (line 0x0000 0x0000 1 0 b 0x0002 0x1 1 0 1 0 ∷ [])

-- a cycle that is not ready comes first; the handover is the second later ready cycle, the third
abbrev second : ℕ → List Cycle
second b =
    up_to_opening b 0
    ++ (line 0x0002 0x0002 0 3 b 0x0002 0x1 1 0 0 1
    ∷ line 0x0002 0x0002 1 3 b 0x0002 0x1 1 1 0 1
    ∷ line 0x0002 0x0002 1 3 b 0x0002 0x1 1 0 1 1
    ∷ [])

abbrev third : ℕ → List Cycle
third b =
    up_to_opening b 0
    ++ (line 0x0002 0x0002 0 3 b 0x0002 0x1 1 0 0 1
    ∷ line 0x0002 0x0002 1 3 b 0x0002 0x1 1 0 0 1
    ∷ line 0x0002 0x0002 1 3 b 0x0002 0x1 1 1 0 1
    ∷ line 0x0002 0x0002 1 3 b 0x0002 0x1 1 0 1 1
    ∷ [])

-- no breach in k cycles, and then what is broken in the last
abbrev pub clean : ℕ → List (List Rule)
clean k = each k (λ t. [])

abbrev pub last : ℕ → List Rule → List (List Rule)
last k broken = clean k ++ (broken ∷ [])

-- what the rules say of a trace of n masters: the broken rules of each cycle, and how many they are
pub data Look : Type 0 where
  breaks : List (List Rule) → ℕ → Look

abbrev looked : ℕ → List Cycle → Look
looked n trace = breaks (broken_report n trace) (broken_count n trace)

unfoldable pub looks : List Look
looks =
    looked 3 (printed 0x0004)
    ∷ looked 3 (printed 0x0002)
    ∷ looked 3 []
    -- G2 is for INCR
    ∷ looked 2 (cut 1)
    ∷ looked 2 (released 1)
    -- G3 is for INCR4
    ∷ looked 2 (cut 3)
    ∷ looked 2 (second 3)
    ∷ looked 2 (third 3)
    -- and neither is for SINGLE
    ∷ looked 2 (cut 0)
    ∷ []

unfoldable pub wanted : List Look
wanted =
    -- `end 10 0`
    breaks (clean 10) 0
    -- `9 G6`, `9 G9`, `end 10 2`
    ∷ breaks (last 9 (G6 ∷ G9 ∷ [])) 2
    -- "A header alone gives `end 0 0`."
    ∷ breaks [] 0
    -- "a handover before the first later cycle with owner's request low"
    ∷ breaks (last 4 (G2 ∷ [])) 1
    ∷ breaks (clean 5) 0
    -- "a handover before the third later ready cycle"
    ∷ breaks (last 4 (G3 ∷ [])) 1
    ∷ breaks (last 6 (G3 ∷ [])) 1
    ∷ breaks (clean 8) 0
    ∷ breaks (clean 5) 0
    ∷ []
