-- Cases of A1 to A9, each beside its sentence. p is the cycle before the last, t the last. Rows of A1 and A2 of any length have specs/Rows.antt.
--
--   row_from c l == a trace whose cycle 1 is a handover to a master with HLOCK, whose cycle 2 is c, and l follows
--   counts       == a cycle that counts for A1
--   cases_of_a   == the cases
use Rattle.std.specs.Prelude.{List, [], ◌∷◌, ◌++◌, replicate}
use Rattle.rules.specs.declared.Cycle.{Cycle}
use Rattle.rulebook.specs.declared.Rule.TheVariants.{A1, A2, A3, A4, A5, A6, A7, A8, A9}
use Rattle.rulebook.specs.Examples.{line}
use Rattle.rulebook.specs.Cases.{Case, says_at, start, breaks, keeps, first}

abbrev row_from : Cycle → List Cycle → List Cycle
row_from c l = start ∷ (line 0x0001 0x0001 1 0 0 0x0001 0x0 0 0 1 1 ∷ (c ∷ l))

abbrev counts : Cycle
counts = line 0x0001 0x0001 1 3 1 0x0001 0x0 1 0 0 1

-- A1 (finite reading): 1,024 cycles in a row with HMASTLOCK, HBURST INCR and owner's request high. Charged at the last; the run restarts at 0.
abbrev cases_a1 : List Case
cases_a1 =
    -- the row starts at cycle 2: its 1,023rd, 1,024th, 1,025th and 2,048th cycle
    says_at 2 1024 [] (row_from (line 0x0001 0x0001 1 2 1 0x0001 0x0 1 0 0 1) (replicate 1022 counts))
    ∷ says_at 2 1025 (A1 ∷ []) (row_from (line 0x0001 0x0001 1 2 1 0x0001 0x0 1 0 0 1) (replicate 1023 counts))
    ∷ says_at 2 1026 [] (row_from (line 0x0001 0x0001 1 2 1 0x0001 0x0 1 0 0 1) (replicate 1024 counts))
    ∷ says_at 2 2049 (A1 ∷ []) (row_from (line 0x0001 0x0001 1 2 1 0x0001 0x0 1 0 0 1) (replicate 2047 counts))
    -- HREADY, HTRANS, DECIDE, GRANTED and BUSREQ do not matter
    ∷ says_at 2 1025 (A1 ∷ []) (row_from (line 0x0001 0x0001 0 0 1 0x0001 0x0 1 1 1 0) (replicate 1023 counts))
    -- cycle 2 does not count: HMASTLOCK; HBURST; owner's request
    ∷ says_at 2 1025 [] (row_from (line 0x0001 0x0001 1 2 1 0x0001 0x0 0 0 0 1) (replicate 1023 counts))
    ∷ says_at 2 1025 [] (row_from (line 0x0001 0x0001 1 2 0 0x0001 0x0 1 0 0 1) (replicate 1023 counts))
    ∷ says_at 2 1025 [] (row_from (line 0x0001 0x0001 1 2 3 0x0001 0x0 1 0 0 1) (replicate 1023 counts))
    ∷ says_at 2 1025 [] (row_from (line 0x0002 0x0001 1 2 1 0x0001 0x0 1 0 0 1) (replicate 1023 counts))
    ∷ []

-- A2 (finite reading): 17 cycles in a row with HREADY low.
abbrev cases_a2 : List Case
cases_a2 =
    breaks 2 (A2 ∷ []) (replicate 16 start)
    ∷ keeps 2 (replicate 15 start)
    -- a ready cycle ends the row
    ∷ keeps 2 (replicate 15 start ++ (line 0x0000 0x0000 1 0 0 0x0001 0x0 0 1 0 0 ∷ replicate 16 start))
    ∷ []

-- A3: some master had HBUSREQ and HLOCK low at p, and at t has HLOCK high, HBUSREQ low.
abbrev cases_a3 : List Case
cases_a3 =
    -- of master 0
    breaks 2 (A3 ∷ []) (line 0x0000 0x0001 0 0 0 0x0001 0x0 0 1 0 0 ∷ [])
    -- of the highest master
    ∷ breaks 16 (A3 ∷ []) (line 0x0000 0x8000 0 0 0 0x0001 0x0 0 1 0 0 ∷ [])
    -- HBUSREQ at t
    ∷ keeps 2 (line 0x0001 0x0001 0 0 0 0x0001 0x0 0 1 0 1 ∷ [])
    -- HBUSREQ at p
    ∷ keeps 2
    (line 0x0001 0x0000 0 0 0 0x0001 0x0 0 0 0 1
    ∷ line 0x0000 0x0001 0 0 0 0x0001 0x0 0 0 0 0
    ∷ [])
    -- HLOCK at p
    ∷ keeps 2
    (line 0x0001 0x0001 0 0 0 0x0001 0x0 0 0 0 1
    ∷ line 0x0000 0x0001 0 0 0 0x0001 0x0 0 0 0 0
    ∷ line 0x0000 0x0001 0 0 0 0x0001 0x0 0 0 0 0
    ∷ [])
    ∷ []

-- A4: HREADY low at p, and HTRANS or HBURST differs.
abbrev cases_a4 : List Case
cases_a4 =
    -- HBURST
    breaks 2 (A4 ∷ []) (line 0x0000 0x0000 0 0 1 0x0001 0x0 0 1 0 0 ∷ [])
    -- HTRANS
    ∷ breaks 2 (A4 ∷ []) (line 0x0001 0x0000 0 2 0 0x0001 0x0 0 1 0 1 ∷ [])
    -- neither is 0: NONSEQ, then SEQ
    ∷ breaks 2 (A4 ∷ [])
    (line 0x0000 0x0000 1 0 0 0x0001 0x0 0 1 0 0
    ∷ line 0x0001 0x0000 0 2 1 0x0001 0x0 0 0 0 1
    ∷ line 0x0001 0x0000 0 3 1 0x0001 0x0 0 0 0 1
    ∷ [])
    -- INCR, then INCR4
    ∷ breaks 2 (A4 ∷ [])
    (line 0x0000 0x0000 1 0 0 0x0001 0x0 0 1 0 0
    ∷ line 0x0001 0x0000 0 2 1 0x0001 0x0 0 0 0 1
    ∷ line 0x0001 0x0000 0 2 3 0x0001 0x0 0 0 0 1
    ∷ [])
    -- both as they were; and ready at p
    ∷ keeps 2
    (line 0x0000 0x0000 1 0 0 0x0001 0x0 0 1 0 0
    ∷ line 0x0001 0x0000 0 2 3 0x0001 0x0 0 0 0 1
    ∷ line 0x0001 0x0000 1 2 3 0x0001 0x0 0 0 0 1
    ∷ line 0x0001 0x0000 1 3 0 0x0001 0x0 0 0 0 1
    ∷ [])
    ∷ []

-- A5: IDLE at p, SEQ at t.
abbrev cases_a5 : List Case
cases_a5 =
    breaks 2 (A5 ∷ [])
    (line 0x0000 0x0000 1 0 0 0x0001 0x0 0 1 0 0
    ∷ line 0x0001 0x0000 1 3 0 0x0001 0x0 0 0 0 1
    ∷ [])
    -- IDLE, NONSEQ, SEQ, SEQ, IDLE, IDLE
    ∷ keeps 2
    (line 0x0000 0x0000 1 0 0 0x0001 0x0 0 1 0 0
    ∷ line 0x0001 0x0000 1 2 0 0x0001 0x0 0 0 0 1
    ∷ line 0x0001 0x0000 1 3 0 0x0001 0x0 0 0 0 1
    ∷ line 0x0001 0x0000 1 3 0 0x0001 0x0 0 0 0 1
    ∷ line 0x0001 0x0000 1 0 0 0x0001 0x0 0 0 0 1
    ∷ line 0x0001 0x0000 1 0 0 0x0001 0x0 0 0 0 1
    ∷ [])
    ∷ []

-- A6: NONSEQ, INCR4, ready, GRANTED low at p, and not SEQ at t.
abbrev cases_a6 : List Case
cases_a6 =
    -- IDLE at t
    breaks 2 (A6 ∷ [])
    (line 0x0000 0x0000 1 0 0 0x0001 0x0 0 1 0 0
    ∷ line 0x0001 0x0000 1 2 3 0x0001 0x0 0 0 0 1
    ∷ line 0x0001 0x0000 1 0 0 0x0001 0x0 0 0 0 1
    ∷ [])
    -- NONSEQ at t
    ∷ breaks 2 (A6 ∷ [])
    (line 0x0000 0x0000 1 0 0 0x0001 0x0 0 1 0 0
    ∷ line 0x0001 0x0000 1 2 3 0x0001 0x0 0 0 0 1
    ∷ line 0x0001 0x0000 1 2 3 0x0001 0x0 0 0 0 1
    ∷ [])
    -- SEQ at t; and IDLE after SEQ, IDLE after IDLE
    ∷ keeps 2
    (line 0x0000 0x0000 1 0 0 0x0001 0x0 0 1 0 0
    ∷ line 0x0001 0x0000 1 2 3 0x0001 0x0 0 0 0 1
    ∷ line 0x0001 0x0000 1 3 3 0x0001 0x0 0 0 0 1
    ∷ line 0x0001 0x0000 1 0 3 0x0001 0x0 0 0 0 1
    ∷ line 0x0001 0x0000 1 0 3 0x0001 0x0 0 0 0 1
    ∷ [])
    -- SINGLE and INCR
    ∷ keeps 2
    (line 0x0000 0x0000 1 0 0 0x0001 0x0 0 1 0 0
    ∷ line 0x0001 0x0000 1 2 0 0x0001 0x0 0 0 0 1
    ∷ line 0x0001 0x0000 1 2 1 0x0001 0x0 0 0 0 1
    ∷ line 0x0001 0x0000 1 0 0 0x0001 0x0 0 0 0 1
    ∷ [])
    -- not ready
    ∷ keeps 2
    (line 0x0000 0x0000 1 0 0 0x0001 0x0 0 1 0 0
    ∷ line 0x0001 0x0000 0 2 3 0x0001 0x0 0 0 0 1
    ∷ line 0x0001 0x0000 0 2 3 0x0001 0x0 0 0 0 1
    ∷ [])
    -- GRANTED at p
    ∷ keeps 2
    (line 0x0000 0x0000 1 0 0 0x0001 0x0 0 1 0 0
    ∷ line 0x0001 0x0000 1 2 3 0x0001 0x0 0 0 1 1
    ∷ line 0x0001 0x0000 1 2 0 0x0001 0x0 0 0 0 1
    ∷ [])
    ∷ []

-- A7: handover at p, owner's request high at t, not NONSEQ at t.
abbrev cases_a7 : List Case
cases_a7 =
    -- IDLE at t
    breaks 2 (A7 ∷ [])
    (line 0x0000 0x0000 1 0 0 0x0001 0x0 0 1 1 0
    ∷ line 0x0001 0x0000 1 0 0 0x0001 0x0 0 1 0 1
    ∷ [])
    -- SEQ at t
    ∷ breaks 2 (A7 ∷ [])
    (line 0x0000 0x0000 1 0 0 0x0001 0x0 0 1 0 0
    ∷ line 0x0001 0x0000 1 2 0 0x0001 0x0 0 0 1 1
    ∷ line 0x0001 0x0000 1 3 0 0x0001 0x0 0 0 0 1
    ∷ [])
    -- the owner is HMASTER at t
    ∷ breaks 2 (A7 ∷ [])
    (line 0x0002 0x0000 1 0 0 0x0001 0x0 0 1 0 0
    ∷ line 0x0002 0x0000 1 0 0 0x0002 0x0 0 0 1 0
    ∷ line 0x0002 0x0000 1 0 0 0x0002 0x1 0 0 0 1
    ∷ [])
    -- another master requests
    ∷ keeps 2
    (line 0x0002 0x0000 1 0 0 0x0001 0x0 0 1 0 0
    ∷ line 0x0002 0x0000 1 0 0 0x0002 0x0 0 0 1 0
    ∷ line 0x0001 0x0000 1 0 0 0x0002 0x1 0 0 0 0
    ∷ [])
    -- NONSEQ at t
    ∷ keeps 2
    (line 0x0002 0x0000 1 0 0 0x0001 0x0 0 1 0 0
    ∷ line 0x0002 0x0000 1 0 0 0x0002 0x0 0 0 1 0
    ∷ line 0x0002 0x0000 1 2 0 0x0002 0x1 0 0 0 1
    ∷ [])
    -- GRANTED, not ready at p
    ∷ keeps 2
    (line 0x0000 0x0000 0 0 0 0x0001 0x0 0 1 1 0
    ∷ line 0x0001 0x0000 1 0 0 0x0001 0x0 0 1 1 1
    ∷ [])
    -- ready, GRANTED low at p
    ∷ keeps 2
    (line 0x0000 0x0000 1 0 0 0x0001 0x0 0 1 0 0
    ∷ line 0x0001 0x0000 1 0 0 0x0001 0x0 0 0 0 1
    ∷ [])
    ∷ []

-- A8: no HBUSREQ high at t, HTRANS not IDLE.
abbrev cases_a8 : List Case
cases_a8 =
    -- NONSEQ
    breaks 2 (A8 ∷ [])
    (line 0x0000 0x0000 1 0 0 0x0001 0x0 0 1 0 0
    ∷ line 0x0000 0x0000 1 2 0 0x0001 0x0 0 1 0 0
    ∷ [])
    -- SEQ
    ∷ breaks 2 (A8 ∷ [])
    (line 0x0000 0x0000 1 0 0 0x0001 0x0 0 1 0 0
    ∷ line 0x0001 0x0000 1 2 0 0x0001 0x0 0 0 0 1
    ∷ line 0x0000 0x0000 1 3 0 0x0001 0x0 0 0 0 0
    ∷ [])
    -- some master requests
    ∷ keeps 2
    (line 0x0000 0x0000 1 0 0 0x0001 0x0 0 1 0 0
    ∷ line 0x0002 0x0000 1 2 0 0x0001 0x0 0 0 0 0
    ∷ [])
    -- IDLE
    ∷ keeps 2 (line 0x0000 0x0000 1 0 0 0x0001 0x0 0 1 0 0 ∷ [])
    ∷ []

-- A9: cycle 0 has any input other than zero.
abbrev cases_a9 : List Case
cases_a9 =
    -- HBUSREQ
    first (A9 ∷ []) (line 0x0002 0x0000 0 0 0 0x0001 0x0 0 1 0 0)
    -- HLOCK
    ∷ first (A9 ∷ []) (line 0x0000 0x0001 0 0 0 0x0001 0x0 0 1 0 0)
    -- HREADY
    ∷ first (A9 ∷ []) (line 0x0000 0x0000 1 0 0 0x0001 0x0 0 1 0 0)
    -- HTRANS, and A8 at cycle 0
    ∷ first (A8 ∷ A9 ∷ []) (line 0x0000 0x0000 0 2 0 0x0001 0x0 0 1 0 0)
    -- HBURST
    ∷ first (A9 ∷ []) (line 0x0000 0x0000 0 0 1 0x0001 0x0 0 1 0 0)
    -- inputs in a later cycle
    ∷ keeps 2 (line 0x0003 0x0003 1 0 0 0x0001 0x0 0 1 0 1 ∷ [])
    ∷ []

unfoldable pub cases_of_a : List Case
cases_of_a = cases_a1 ++ cases_a2 ++ cases_a3 ++ cases_a4 ++ cases_a5 ++ cases_a6 ++ cases_a7 ++ cases_a8 ++ cases_a9
