-- Cases of G2 and G3, which watch an opening: the first ready cycle with NONSEQ of an access.
-- Where HMASTLOCK is to be high, cycle 1 is a handover to a master with HLOCK.
--
--   cases_of_watch == the cases
use Rattle.std.specs.Prelude.{List, [], ◌∷◌, ◌++◌}
use Rattle.rulebook.specs.declared.Rule.TheVariants.{G2, G3}
use Rattle.rulebook.specs.Examples.{line}
use Rattle.rulebook.specs.Cases.{Case, breaks, keeps}

-- G2 (INCR): an opening with GRANTED low and HMASTLOCK high, and a handover before the first later cycle with owner's request low.
abbrev cases_g2 : List Case
cases_g2 =
    breaks 2 (G2 ∷ [])
    (line 0x0001 0x0001 1 0 0 0x0001 0x0 0 0 1 1
    ∷ line 0x0001 0x0001 1 2 1 0x0001 0x0 1 0 0 1
    ∷ line 0x0001 0x0001 1 3 1 0x0001 0x0 1 0 1 1
    ∷ [])
    -- the request is low at the opening itself
    ∷ breaks 2 (G2 ∷ [])
    (line 0x0001 0x0001 1 0 0 0x0001 0x0 0 0 1 1
    ∷ line 0x0002 0x0000 1 2 1 0x0001 0x0 1 0 0 0
    ∷ line 0x0001 0x0000 1 3 1 0x0001 0x0 1 0 1 1
    ∷ [])
    -- an access has its own opening
    ∷ breaks 2 (G2 ∷ [])
    (line 0x0000 0x0000 1 0 0 0x0001 0x0 0 1 0 0
    ∷ line 0x0001 0x0001 1 2 0 0x0001 0x0 0 0 0 1
    ∷ line 0x0001 0x0001 1 3 0 0x0001 0x0 0 0 1 1
    ∷ line 0x0001 0x0001 1 2 1 0x0001 0x0 1 0 0 1
    ∷ line 0x0001 0x0001 1 3 1 0x0001 0x0 1 0 1 1
    ∷ [])
    -- and one only: a later SINGLE is none
    ∷ breaks 2 (G2 ∷ [])
    (line 0x0001 0x0001 1 0 0 0x0001 0x0 0 0 1 1
    ∷ line 0x0001 0x0001 1 2 1 0x0001 0x0 1 0 0 1
    ∷ line 0x0001 0x0001 1 2 0 0x0001 0x0 1 0 0 1
    ∷ line 0x0001 0x0001 1 3 0 0x0001 0x0 1 0 1 1
    ∷ [])
    -- nor is a later INCR
    ∷ keeps 2
    (line 0x0001 0x0001 1 0 0 0x0001 0x0 0 0 1 1
    ∷ line 0x0001 0x0001 1 2 0 0x0001 0x0 1 0 0 1
    ∷ line 0x0001 0x0001 1 2 1 0x0001 0x0 1 0 0 1
    ∷ line 0x0001 0x0001 1 3 1 0x0001 0x0 1 0 1 1
    ∷ [])
    -- the request is low in the handover
    ∷ keeps 2
    (line 0x0001 0x0001 1 0 0 0x0001 0x0 0 0 1 1
    ∷ line 0x0001 0x0001 1 2 1 0x0001 0x0 1 0 0 1
    ∷ line 0x0000 0x0000 1 0 1 0x0001 0x0 1 0 1 0
    ∷ [])
    -- it was low before, in a cycle that is not ready
    ∷ keeps 2
    (line 0x0001 0x0001 1 0 0 0x0001 0x0 0 0 1 1
    ∷ line 0x0001 0x0001 1 2 1 0x0001 0x0 1 0 0 1
    ∷ line 0x0000 0x0000 0 0 1 0x0001 0x0 1 0 0 0
    ∷ line 0x0001 0x0001 1 0 1 0x0001 0x0 1 0 1 1
    ∷ [])
    -- no handover: GRANTED low; not ready
    ∷ keeps 2
    (line 0x0001 0x0001 1 0 0 0x0001 0x0 0 0 1 1
    ∷ line 0x0001 0x0001 1 2 1 0x0001 0x0 1 0 0 1
    ∷ line 0x0001 0x0001 1 3 1 0x0001 0x0 1 0 0 1
    ∷ line 0x0001 0x0001 0 3 1 0x0001 0x0 1 0 1 1
    ∷ [])
    -- HMASTLOCK low
    ∷ keeps 2
    (line 0x0001 0x0000 1 0 0 0x0001 0x0 0 0 1 1
    ∷ line 0x0001 0x0000 1 2 1 0x0001 0x0 0 0 0 1
    ∷ line 0x0001 0x0000 1 3 1 0x0001 0x0 0 0 1 1
    ∷ [])
    -- SINGLE
    ∷ keeps 2
    (line 0x0001 0x0001 1 0 0 0x0001 0x0 0 0 1 1
    ∷ line 0x0001 0x0001 1 2 0 0x0001 0x0 1 0 0 1
    ∷ line 0x0001 0x0001 1 3 0 0x0001 0x0 1 0 1 1
    ∷ [])
    -- no opening: NONSEQ was not ready
    ∷ keeps 2
    (line 0x0001 0x0001 1 0 0 0x0001 0x0 0 0 1 1
    ∷ line 0x0001 0x0001 0 2 1 0x0001 0x0 1 0 0 1
    ∷ line 0x0001 0x0001 1 2 1 0x0001 0x0 1 0 1 1
    ∷ [])
    -- no opening: no NONSEQ
    ∷ keeps 2
    (line 0x0001 0x0001 1 0 0 0x0001 0x0 0 0 1 1
    ∷ line 0x0000 0x0000 1 0 1 0x0001 0x0 1 0 0 0
    ∷ line 0x0001 0x0001 1 0 1 0x0001 0x0 1 0 1 1
    ∷ [])
    ∷ []

-- G3 (INCR4): an opening with GRANTED low and HMASTLOCK high, and a handover before the third later ready cycle.
abbrev cases_g3 : List Case
cases_g3 =
    -- the first later ready cycle
    breaks 2 (G3 ∷ [])
    (line 0x0001 0x0001 1 0 0 0x0001 0x0 0 0 1 1
    ∷ line 0x0001 0x0001 1 2 3 0x0001 0x0 1 0 0 1
    ∷ line 0x0001 0x0001 1 3 3 0x0001 0x0 1 0 1 1
    ∷ [])
    -- the second, after one that is not ready
    ∷ breaks 2 (G3 ∷ [])
    (line 0x0001 0x0001 1 0 0 0x0001 0x0 0 0 1 1
    ∷ line 0x0001 0x0001 1 2 3 0x0001 0x0 1 0 0 1
    ∷ line 0x0001 0x0001 0 3 3 0x0001 0x0 1 0 0 1
    ∷ line 0x0001 0x0001 1 3 3 0x0001 0x0 1 0 0 1
    ∷ line 0x0001 0x0001 1 3 3 0x0001 0x0 1 0 1 1
    ∷ [])
    -- a request that is low does not release
    ∷ breaks 2 (G3 ∷ [])
    (line 0x0001 0x0001 1 0 0 0x0001 0x0 0 0 1 1
    ∷ line 0x0001 0x0001 1 2 3 0x0001 0x0 1 0 0 1
    ∷ line 0x0002 0x0000 1 3 3 0x0001 0x0 1 0 1 0
    ∷ [])
    -- the third
    ∷ keeps 2
    (line 0x0001 0x0001 1 0 0 0x0001 0x0 0 0 1 1
    ∷ line 0x0001 0x0001 1 2 3 0x0001 0x0 1 0 0 1
    ∷ line 0x0001 0x0001 1 3 3 0x0001 0x0 1 0 0 1
    ∷ line 0x0001 0x0001 1 3 3 0x0001 0x0 1 0 0 1
    ∷ line 0x0001 0x0001 1 3 3 0x0001 0x0 1 0 1 1
    ∷ [])
    -- no handover: not ready
    ∷ keeps 2
    (line 0x0001 0x0001 1 0 0 0x0001 0x0 0 0 1 1
    ∷ line 0x0001 0x0001 1 2 3 0x0001 0x0 1 0 0 1
    ∷ line 0x0001 0x0001 0 3 3 0x0001 0x0 1 0 1 1
    ∷ [])
    -- HMASTLOCK low
    ∷ keeps 2
    (line 0x0001 0x0000 1 0 0 0x0001 0x0 0 0 1 1
    ∷ line 0x0001 0x0000 1 2 3 0x0001 0x0 0 0 0 1
    ∷ line 0x0001 0x0000 1 3 3 0x0001 0x0 0 0 1 1
    ∷ [])
    ∷ []

unfoldable pub cases_of_watch : List Case
cases_of_watch = cases_g2 ++ cases_g3
