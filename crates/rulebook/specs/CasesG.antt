-- Cases of G1 and of G4 to G12, each beside its sentence. p is the cycle before the last, t the last.
--
--   cases_of_g == the cases
use Rattle.std.specs.Prelude.{List, [], ◌∷◌, ◌++◌}
use Rattle.rulebook.specs.declared.Rule.TheVariants.{A9, G1, G4, G5, G6, G7, G8, G9, G10, G11, G12}
use Rattle.rulebook.specs.Examples.{line}
use Rattle.rulebook.specs.Cases.{Case, start, says, breaks, keeps, first}

-- G1: BUSREQ differs from owner's request.
abbrev cases_g1 : List Case
cases_g1 =
    -- BUSREQ without a request, at cycle 0
    first (G1 ∷ []) (line 0x0000 0x0000 0 0 0 0x0001 0x0 0 1 0 1)
    -- a request without BUSREQ
    ∷ breaks 2 (G1 ∷ []) (line 0x0001 0x0000 0 0 0 0x0001 0x0 0 1 0 0 ∷ [])
    -- the request is another master's
    ∷ breaks 2 (G1 ∷ [])
    (line 0x0002 0x0000 1 0 0 0x0001 0x0 0 1 0 0
    ∷ line 0x0002 0x0000 1 0 0 0x0002 0x0 0 0 1 0
    ∷ line 0x0001 0x0000 1 0 0 0x0002 0x1 0 0 0 1
    ∷ [])
    -- both
    ∷ keeps 2 (line 0x0001 0x0000 0 0 0 0x0001 0x0 0 1 0 1 ∷ [])
    -- another master's request
    ∷ keeps 2 (line 0x0002 0x0000 0 0 0 0x0001 0x0 0 1 0 0 ∷ [])
    ∷ []

-- G4: DECIDE and some HBUSREQ at p, GRANTED low at t.
abbrev cases_g4 : List Case
cases_g4 =
    breaks 2 (G4 ∷ [])
    (line 0x0001 0x0000 0 0 0 0x0001 0x0 0 1 0 1
    ∷ line 0x0001 0x0000 0 0 0 0x0001 0x0 0 0 0 1
    ∷ [])
    -- any master's request
    ∷ breaks 2 (G4 ∷ [])
    (line 0x0002 0x0000 0 0 0 0x0001 0x0 0 1 0 0
    ∷ line 0x0002 0x0000 0 0 0 0x0002 0x0 0 0 0 0
    ∷ [])
    -- GRANTED at t
    ∷ keeps 2
    (line 0x0001 0x0000 0 0 0 0x0001 0x0 0 1 0 1
    ∷ line 0x0001 0x0000 0 0 0 0x0001 0x0 0 0 1 1
    ∷ [])
    -- DECIDE low at p
    ∷ keeps 2
    (line 0x0001 0x0000 0 0 0 0x0001 0x0 0 0 0 1
    ∷ line 0x0001 0x0000 0 0 0 0x0001 0x0 0 0 0 1
    ∷ [])
    -- no HBUSREQ at p
    ∷ keeps 2 (line 0x0000 0x0000 0 0 0 0x0001 0x0 0 1 0 0 ∷ [])
    ∷ []

-- G5: GRANTED at p, and GRANTED at t equals HREADY at p.
abbrev cases_g5 : List Case
cases_g5 =
    -- not ready, and GRANTED falls
    breaks 2 (G5 ∷ [])
    (line 0x0000 0x0000 0 0 0 0x0001 0x0 0 1 1 0
    ∷ line 0x0000 0x0000 0 0 0 0x0001 0x0 0 1 0 0
    ∷ [])
    -- ready, and GRANTED stays
    ∷ breaks 2 (G5 ∷ [])
    (line 0x0000 0x0000 1 0 0 0x0001 0x0 0 1 1 0
    ∷ line 0x0000 0x0000 1 0 0 0x0001 0x0 0 1 1 0
    ∷ [])
    -- not ready, and it stays; ready, and it falls
    ∷ keeps 2
    (line 0x0000 0x0000 0 0 0 0x0001 0x0 0 1 1 0
    ∷ line 0x0000 0x0000 1 0 0 0x0001 0x0 0 1 1 0
    ∷ line 0x0000 0x0000 1 0 0 0x0001 0x0 0 1 0 0
    ∷ [])
    -- GRANTED low at p: it may rise or stay
    ∷ keeps 2
    (line 0x0000 0x0000 0 0 0 0x0001 0x0 0 1 0 0
    ∷ line 0x0000 0x0000 1 0 0 0x0001 0x0 0 1 0 0
    ∷ line 0x0000 0x0000 1 0 0 0x0001 0x0 0 1 1 0
    ∷ [])
    ∷ []

-- G6: ready at p, and HGRANT at p is not the single bit of HMASTER at t.
abbrev cases_g6 : List Case
cases_g6 =
    breaks 2 (G6 ∷ [])
    (line 0x0000 0x0000 1 0 0 0x0001 0x0 0 1 1 0
    ∷ line 0x0000 0x0000 0 0 0 0x0001 0x1 0 1 0 0
    ∷ [])
    -- HGRANT has two bits
    ∷ breaks 2 (G6 ∷ [])
    (line 0x0002 0x0000 1 0 0 0x0001 0x0 0 1 0 0
    ∷ line 0x0002 0x0000 1 0 0 0x0003 0x0 0 0 1 0
    ∷ line 0x0002 0x0000 1 0 0 0x0003 0x0 0 0 0 0
    ∷ [])
    -- HGRANT has none
    ∷ breaks 2 (G6 ∷ [])
    (line 0x0002 0x0000 1 0 0 0x0001 0x0 0 1 0 0
    ∷ line 0x0002 0x0000 1 0 0 0x0000 0x0 0 0 1 0
    ∷ line 0x0002 0x0000 1 0 0 0x0000 0x0 0 0 0 0
    ∷ [])
    -- not ready at p
    ∷ keeps 2
    (line 0x0002 0x0000 1 0 0 0x0001 0x0 0 1 0 0
    ∷ line 0x0002 0x0000 0 0 0 0x0002 0x0 0 0 1 0
    ∷ line 0x0002 0x0000 1 0 0 0x0002 0x0 0 0 1 0
    ∷ [])
    -- GRANTED is not asked for
    ∷ says 2 ([] ∷ [] ∷ (G4 ∷ []) ∷ (G6 ∷ []) ∷ [])
    (start ∷ line 0x0002 0x0000 1 0 0 0x0001 0x0 0 1 0 0
    ∷ line 0x0002 0x0000 1 0 0 0x0002 0x0 0 0 0 0
    ∷ line 0x0002 0x0000 1 0 0 0x0002 0x0 0 0 0 0
    ∷ [])
    ∷ []

-- G7: handover at p, some master with HLOCK and HGRANT at p, HMASTLOCK low at t.
abbrev cases_g7 : List Case
cases_g7 =
    breaks 2 (G7 ∷ [])
    (line 0x0001 0x0001 1 0 0 0x0001 0x0 0 0 1 1
    ∷ line 0x0001 0x0001 1 2 0 0x0001 0x0 0 0 0 1
    ∷ [])
    -- of the highest master
    ∷ breaks 16 (G7 ∷ [])
    (line 0x8000 0x8000 1 0 0 0x0001 0x0 0 1 0 0
    ∷ line 0x8000 0x8000 1 0 0 0x8000 0x0 0 0 1 0
    ∷ line 0x8000 0x8000 1 2 0 0x8000 0xf 0 0 0 1
    ∷ [])
    -- HGRANT and HLOCK are those of p
    ∷ breaks 2 (G7 ∷ [])
    (line 0x0002 0x0002 1 0 0 0x0001 0x0 0 1 0 0
    ∷ line 0x0000 0x0002 1 0 0 0x0002 0x0 0 1 1 0
    ∷ line 0x0000 0x0000 1 0 0 0x0001 0x1 0 0 0 0
    ∷ [])
    -- HMASTLOCK at t
    ∷ keeps 2
    (line 0x0001 0x0001 1 0 0 0x0001 0x0 0 0 1 1
    ∷ line 0x0001 0x0001 1 2 0 0x0001 0x0 1 0 0 1
    ∷ [])
    -- not ready at p
    ∷ keeps 2
    (line 0x0001 0x0001 0 0 0 0x0001 0x0 0 0 1 1
    ∷ line 0x0001 0x0001 1 0 0 0x0001 0x0 0 0 1 1
    ∷ [])
    -- GRANTED low at p
    ∷ keeps 2
    (line 0x0001 0x0001 1 0 0 0x0001 0x0 0 0 0 1
    ∷ line 0x0001 0x0001 1 2 0 0x0001 0x0 0 0 0 1
    ∷ [])
    -- HLOCK is another master's
    ∷ keeps 2
    (line 0x0003 0x0002 1 0 0 0x0001 0x0 0 0 1 1
    ∷ line 0x0001 0x0000 1 2 0 0x0001 0x0 0 0 0 1
    ∷ [])
    -- no HLOCK at p
    ∷ keeps 2
    (line 0x0001 0x0000 1 0 0 0x0001 0x0 0 0 1 1
    ∷ line 0x0001 0x0001 1 2 0 0x0001 0x0 0 0 0 1
    ∷ [])
    ∷ []

-- G8: no handover at p, and HMASTER or HMASTLOCK differs.
abbrev cases_g8 : List Case
cases_g8 =
    -- HMASTER
    breaks 2 (G8 ∷ []) (line 0x0000 0x0000 0 0 0 0x0001 0x1 0 1 0 0 ∷ [])
    -- HMASTLOCK rises, after a cycle that is ready
    ∷ breaks 2 (G8 ∷ [])
    (line 0x0000 0x0000 1 0 0 0x0001 0x0 0 1 0 0
    ∷ line 0x0000 0x0000 1 0 0 0x0001 0x0 1 1 0 0
    ∷ [])
    -- HMASTLOCK falls
    ∷ breaks 2 (G8 ∷ [])
    (line 0x0001 0x0001 1 0 0 0x0001 0x0 0 0 1 1
    ∷ line 0x0001 0x0001 1 2 0 0x0001 0x0 1 0 0 1
    ∷ line 0x0001 0x0001 1 3 0 0x0001 0x0 0 0 0 1
    ∷ [])
    -- GRANTED, not ready
    ∷ breaks 2 (G8 ∷ [])
    (line 0x0000 0x0000 0 0 0 0x0001 0x0 0 1 1 0
    ∷ line 0x0000 0x0000 0 0 0 0x0001 0x1 0 1 1 0
    ∷ [])
    -- handover: both move
    ∷ keeps 2
    (line 0x0002 0x0002 1 0 0 0x0001 0x0 0 1 0 0
    ∷ line 0x0002 0x0002 1 0 0 0x0002 0x0 0 0 1 0
    ∷ line 0x0002 0x0002 1 2 0 0x0002 0x1 1 0 0 1
    ∷ [])
    ∷ []

-- G9: DECIDE low at p, HGRANT differs.
abbrev cases_g9 : List Case
cases_g9 =
    breaks 2 (G9 ∷ [])
    (line 0x0002 0x0000 0 0 0 0x0001 0x0 0 0 0 0
    ∷ line 0x0002 0x0000 0 0 0 0x0002 0x0 0 0 1 0
    ∷ [])
    -- DECIDE at p
    ∷ keeps 2
    (line 0x0002 0x0000 0 0 0 0x0001 0x0 0 1 0 0
    ∷ line 0x0002 0x0000 0 0 0 0x0002 0x0 0 0 1 0
    ∷ [])
    -- HGRANT stays
    ∷ keeps 2
    (line 0x0002 0x0000 0 0 0 0x0001 0x0 0 0 0 0
    ∷ line 0x0002 0x0000 0 0 0 0x0001 0x0 0 0 1 0
    ∷ [])
    ∷ []

-- G10: some master other than 0 with neither HGRANT nor HBUSREQ at p has HGRANT at t; or DECIDE and no HBUSREQ at p, and HGRANT of 0 low at t.
abbrev cases_g10 : List Case
cases_g10 =
    -- first half
    breaks 2 (G10 ∷ [])
    (line 0x0001 0x0000 0 0 0 0x0001 0x0 0 1 0 1
    ∷ line 0x0001 0x0000 0 0 0 0x0002 0x0 0 0 1 1
    ∷ [])
    -- of the highest master
    ∷ breaks 16 (G10 ∷ [])
    (line 0x0001 0x0000 0 0 0 0x0001 0x0 0 1 0 1
    ∷ line 0x0001 0x0000 0 0 0 0x8000 0x0 0 0 1 1
    ∷ [])
    -- it does not ask for DECIDE
    ∷ breaks 2 (G9 ∷ G10 ∷ [])
    (line 0x0001 0x0000 0 0 0 0x0001 0x0 0 0 0 1
    ∷ line 0x0001 0x0000 0 0 0 0x0003 0x0 0 0 0 1
    ∷ [])
    -- second half
    ∷ breaks 2 (G10 ∷ []) (line 0x0000 0x0000 0 0 0 0x0000 0x0 0 0 0 0 ∷ [])
    -- HBUSREQ at p; then HGRANT at p, DECIDE low with no HBUSREQ
    ∷ keeps 2
    (line 0x0002 0x0000 0 0 0 0x0001 0x0 0 1 0 0
    ∷ line 0x0000 0x0000 0 0 0 0x0002 0x0 0 0 1 0
    ∷ line 0x0000 0x0000 0 0 0 0x0002 0x0 0 1 1 0
    ∷ [])
    -- master 0 needs no request
    ∷ keeps 2
    (line 0x0002 0x0000 0 0 0 0x0001 0x0 0 1 0 0
    ∷ line 0x0002 0x0000 0 0 0 0x0002 0x0 0 1 1 0
    ∷ line 0x0002 0x0000 0 0 0 0x0001 0x0 0 0 1 0
    ∷ [])
    ∷ []

-- G11: when p has DECIDE, a master's count of lost decisions goes to 0 if its HBUSREQ at p is low or its HGRANT at t is high, else one more.
-- Reaching n is charged and returns it to 0.
abbrev cases_g11 : List Case
cases_g11 =
    breaks 2 (G11 ∷ [])
    (line 0x0002 0x0000 0 0 0 0x0001 0x0 0 1 0 0
    ∷ line 0x0002 0x0000 0 0 0 0x0001 0x0 0 1 1 0
    ∷ line 0x0002 0x0000 0 0 0 0x0001 0x0 0 0 1 0
    ∷ [])
    -- n is 3
    ∷ keeps 3
    (line 0x0002 0x0000 0 0 0 0x0001 0x0 0 1 0 0
    ∷ line 0x0002 0x0000 0 0 0 0x0001 0x0 0 1 1 0
    ∷ line 0x0002 0x0000 0 0 0 0x0001 0x0 0 0 1 0
    ∷ [])
    -- two masters at once
    ∷ breaks 3 (G11 ∷ [])
    (line 0x0006 0x0000 0 0 0 0x0001 0x0 0 1 0 0
    ∷ line 0x0006 0x0000 0 0 0 0x0001 0x0 0 1 1 0
    ∷ line 0x0006 0x0000 0 0 0 0x0001 0x0 0 1 1 0
    ∷ line 0x0006 0x0000 0 0 0 0x0001 0x0 0 0 1 0
    ∷ [])
    -- HBUSREQ low at a decision
    ∷ keeps 2
    (line 0x0002 0x0000 0 0 0 0x0001 0x0 0 1 0 0
    ∷ line 0x0000 0x0000 0 0 0 0x0001 0x0 0 1 1 0
    ∷ line 0x0002 0x0000 0 0 0 0x0001 0x0 0 1 1 0
    ∷ line 0x0002 0x0000 0 0 0 0x0001 0x0 0 0 1 0
    ∷ [])
    -- HGRANT high after a decision
    ∷ keeps 2
    (line 0x0002 0x0000 0 0 0 0x0001 0x0 0 1 0 0
    ∷ line 0x0002 0x0000 0 0 0 0x0001 0x0 0 1 1 0
    ∷ line 0x0002 0x0000 0 0 0 0x0002 0x0 0 1 1 0
    ∷ line 0x0002 0x0000 0 0 0 0x0001 0x0 0 0 1 0
    ∷ [])
    -- a cycle without DECIDE changes no count
    ∷ breaks 2 (G11 ∷ [])
    (line 0x0002 0x0000 0 0 0 0x0001 0x0 0 1 0 0
    ∷ line 0x0000 0x0000 0 0 0 0x0001 0x0 0 0 1 0
    ∷ line 0x0002 0x0000 0 0 0 0x0001 0x0 0 1 1 0
    ∷ line 0x0002 0x0000 0 0 0 0x0001 0x0 0 0 1 0
    ∷ [])
    -- charged once, and from 0 again
    ∷ says 2 ([] ∷ [] ∷ [] ∷ (G11 ∷ []) ∷ [] ∷ (G11 ∷ []) ∷ [] ∷ [])
    (start ∷ line 0x0002 0x0000 0 0 0 0x0001 0x0 0 1 0 0
    ∷ line 0x0002 0x0000 0 0 0 0x0001 0x0 0 1 1 0
    ∷ line 0x0002 0x0000 0 0 0 0x0001 0x0 0 1 1 0
    ∷ line 0x0002 0x0000 0 0 0 0x0001 0x0 0 1 1 0
    ∷ line 0x0002 0x0000 0 0 0 0x0001 0x0 0 0 1 0
    ∷ line 0x0002 0x0000 0 0 0 0x0001 0x0 0 0 1 0
    ∷ [])
    ∷ []

-- G12: cycle 0 lacks HGRANT 0001, HMASTER 0, HMASTLOCK 0, GRANTED 0; or has DECIDE 0 with IDLE.
abbrev cases_g12 : List Case
cases_g12 =
    -- HGRANT has no bit
    first (G12 ∷ []) (line 0x0000 0x0000 0 0 0 0x0000 0x0 0 1 0 0)
    -- HGRANT has two
    ∷ first (G12 ∷ []) (line 0x0000 0x0000 0 0 0 0x0003 0x0 0 1 0 0)
    -- HMASTER
    ∷ first (G12 ∷ []) (line 0x0000 0x0000 0 0 0 0x0001 0x1 0 1 0 0)
    -- HMASTLOCK
    ∷ first (G12 ∷ []) (line 0x0000 0x0000 0 0 0 0x0001 0x0 1 1 0 0)
    -- GRANTED
    ∷ first (G12 ∷ []) (line 0x0000 0x0000 0 0 0 0x0001 0x0 0 1 1 0)
    -- DECIDE low with IDLE
    ∷ first (G12 ∷ []) (line 0x0000 0x0000 0 0 0 0x0001 0x0 0 0 0 0)
    -- DECIDE low with NONSEQ
    ∷ first (A9 ∷ []) (line 0x0002 0x0000 0 2 0 0x0001 0x0 0 0 0 0)
    ∷ []

unfoldable pub cases_of_g : List Case
cases_of_g = cases_g1 ++ cases_g4 ++ cases_g5 ++ cases_g6 ++ cases_g7 ++ cases_g8 ++ cases_g9 ++ cases_g10 ++ cases_g11 ++ cases_g12
