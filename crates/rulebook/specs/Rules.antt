-- The rules A1 to A9 and G1 to G12, in the page's order and words. No word of the judge's own state is used here.
--
--   is_watched c      == an opening from which G2 or G3 watches
--   lost_in_a_row i h == the decisions that master i has lost in a row (G11)
--   broken n r h      == the rule r is broken at the newest cycle of the history h
--   broken_at n r trace t == it is broken at cycle t of the trace
--   rules             == the rules in the order of the report
--   those f l         == of a list of rules, those that have f, in their order
--   broken_rules n trace t == the rules that are broken at cycle t, in the order of the report
use Rattle.std.specs.Prelude.{ℕ, ◌+◌, ◌-◌, Bool, false, not, ◌&&◌, ◌||◌, cond, List, [], ◌∷◌, eqb, ltb}
use Rattle.std.specs.Bool.{beq}
use Rattle.rules.specs.declared.Cycle.{Cycle}
use Rattle.rules.specs.declared.Inputs.{Inputs}
use Rattle.rules.specs.Masks.{single}
use Rattle.rulebook.specs.declared.Rule.{Rule}
use Rattle.rulebook.specs.declared.Rule.TheVariants.{A1, A2, A3, A4, A5, A6, A7, A8, A9, G1, G2, G3, G4, G5, G6, G7, G8, G9, G10, G11, G12}
use Rattle.rulebook.specs.Columns.{is_ready, is_idle, is_nonseq, is_seq, is_incr, is_fixed, beats, mastlocked, decided, granted, requested, request, lock, grant, owners_request, handover, some_master}
use Rattle.rulebook.specs.Traces.{comparing, always, at_first, in_a_row, completes, access, Opened, not_yet, opened_at, opening, all, readies, so_far}

abbrev pub differ : ℕ → ℕ → Bool
differ a b = not (eqb a b)

-- A1 (finite reading): 1,024 cycles in a row with HMASTLOCK, HBURST INCR and owner's request high.
unfoldable pub locked_incr : Cycle → Bool
locked_incr c = mastlocked c && is_incr c && owners_request c

-- A2 (finite reading): 17 cycles in a row with HREADY low; likewise.
abbrev pub waits : Cycle → Bool
waits c = not (is_ready c)

-- A3: some master had HBUSREQ and HLOCK low at p, and at t has HLOCK high, HBUSREQ low.
abbrev pub a3 : Cycle → Cycle → Bool
a3 p t = some_master (λ i. not (request i p) && not (lock i p) && lock i t && not (request i t))

-- A4: HREADY low at p, and HTRANS or HBURST differs.
abbrev pub a4 : Cycle → Cycle → Bool
a4 p t =
    not (is_ready p)
    && (differ p.inputs.htrans t.inputs.htrans || differ p.inputs.hburst t.inputs.hburst)

-- A5: IDLE at p, SEQ at t.
abbrev pub a5 : Cycle → Cycle → Bool
a5 p t = is_idle p && is_seq t

-- A6: NONSEQ, INCR4, ready, GRANTED low at p, and not SEQ at t.
abbrev pub a6 : Cycle → Cycle → Bool
a6 p t = is_nonseq p && is_fixed p && is_ready p && not (granted p) && not (is_seq t)

-- A7: handover at p, owner's request high at t, not NONSEQ at t.
abbrev pub a7 : Cycle → Cycle → Bool
a7 p t = handover p && owners_request t && not (is_nonseq t)

-- A8: no HBUSREQ high at t, HTRANS not IDLE.
abbrev pub a8 : Cycle → Bool
a8 t = not (requested t) && not (is_idle t)

-- A9: cycle 0 has any input other than zero.
abbrev pub no_input : Inputs → Bool
no_input x =
    eqb x.hbusreq 0 && eqb x.hlock 0 && eqb x.hready 0 && eqb x.htrans 0 && eqb x.hburst 0

abbrev pub a9 : Cycle → Bool
a9 t = not (no_input t.inputs)

-- G1: BUSREQ differs from owner's request.
abbrev pub g1 : Cycle → Bool
g1 t = not (beq (eqb t.outputs.busreq 1) (owners_request t))

-- G2, G3: they watch an opening with GRANTED low and HMASTLOCK high.
unfoldable pub is_watched : Cycle → Bool
is_watched o = not (granted o) && mastlocked o

-- G2 (INCR): a handover before the first later cycle with owner's request low: it is high in every later cycle, the handover among them.
abbrev pub cuts_incr : Cycle → Opened → Bool
cuts_incr t not_yet = false
cuts_incr t (opened_at o later) = is_watched o && is_incr o && all owners_request (t ∷ later)

-- G3 (INCR4): a handover before the third later ready cycle, which is the last beat: with the handover there are fewer.
abbrev pub cuts_fixed : Cycle → Opened → Bool
cuts_fixed t not_yet = false
cuts_fixed t (opened_at o later) = is_watched o && is_fixed o && ltb (readies (t ∷ later)) (beats o - 1)

-- "Charged at the handover, which ends the watch."
unfoldable pub g2 : List Cycle → Bool
g2 [] = false
g2 (t ∷ h) = handover t && cuts_incr t (opening (access h))

unfoldable pub g3 : List Cycle → Bool
g3 [] = false
g3 (t ∷ h) = handover t && cuts_fixed t (opening (access h))

-- G4: DECIDE and some HBUSREQ at p, GRANTED low at t.
abbrev pub g4 : Cycle → Cycle → Bool
g4 p t = decided p && requested p && not (granted t)

-- G5: GRANTED at p, and GRANTED at t equals HREADY at p.
abbrev pub g5 : Cycle → Cycle → Bool
g5 p t = granted p && beq (granted t) (is_ready p)

-- G6: ready at p, and HGRANT at p is not the single bit of HMASTER at t.
abbrev pub g6 : Cycle → Cycle → Bool
g6 p t = is_ready p && differ p.outputs.hgrant (single t.outputs.hmaster)

-- G7: handover at p, some master with HLOCK and HGRANT at p, HMASTLOCK low at t.
abbrev pub g7 : Cycle → Cycle → Bool
g7 p t = handover p && some_master (λ i. lock i p && grant i p) && not (mastlocked t)

-- G8: no handover at p, and HMASTER or HMASTLOCK differs.
abbrev pub g8 : Cycle → Cycle → Bool
g8 p t =
    not (handover p)
    && (differ p.outputs.hmaster t.outputs.hmaster || differ p.outputs.hmastlock t.outputs.hmastlock)

-- G9: DECIDE low at p, HGRANT differs.
abbrev pub g9 : Cycle → Cycle → Bool
g9 p t = not (decided p) && differ p.outputs.hgrant t.outputs.hgrant

-- G10: some master other than 0 with neither HGRANT nor HBUSREQ at p has HGRANT at t;
-- or DECIDE and no HBUSREQ at p, and HGRANT of 0 low at t.
abbrev pub g10 : Cycle → Cycle → Bool
g10 p t =
    some_master (λ i. not (eqb i 0) && not (grant i p) && not (request i p) && grant i t)
    || decided p && not (requested p) && not (grant 0 t)

-- G11: "When p has DECIDE: to 0 if its HBUSREQ at p is low or its HGRANT at t is high, else one more."
abbrev pub loses : ℕ → Cycle → Cycle → Bool
loses i p t = request i p && not (grant i t)

-- how many of its latest decisions master i lost, in a row
unfoldable pub lost_in_a_row : ℕ → List Cycle → ℕ
lost_in_a_row i [] = 0
lost_in_a_row i (t ∷ []) = 0
lost_in_a_row i (t ∷ (p ∷ h)) =
    cond (decided p) (cond (loses i p t) (1 + lost_in_a_row i (p ∷ h)) 0) (lost_in_a_row i (p ∷ h))

-- the lost decisions at which G11 is charged: n
abbrev pub limit : ℕ → ℕ
limit n = n

-- "Reaching n is charged and returns it to 0", once a cycle, however many masters reach it.
unfoldable pub g11 : ℕ → List Cycle → Bool
g11 n h = comparing (λ p t. decided p) h && some_master (λ i. completes (limit n) (lost_in_a_row i h))

-- G12: cycle 0 lacks HGRANT 0001, HMASTER 0, HMASTLOCK 0, GRANTED 0; or has DECIDE 0 with IDLE.
abbrev pub g12 : Cycle → Bool
g12 t =
    not (eqb t.outputs.hgrant 1 && eqb t.outputs.hmaster 0 && not (mastlocked t) && not (granted t))
    || not (decided t) && is_idle t

unfoldable pub broken : ℕ → Rule → List Cycle → Bool
broken n A1 h = completes 1024 (in_a_row locked_incr h)
broken n A2 h = completes 17 (in_a_row waits h)
broken n A3 h = comparing a3 h
broken n A4 h = comparing a4 h
broken n A5 h = comparing a5 h
broken n A6 h = comparing a6 h
broken n A7 h = comparing a7 h
broken n A8 h = always a8 h
broken n A9 h = at_first a9 h
broken n G1 h = always g1 h
broken n G2 h = g2 h
broken n G3 h = g3 h
broken n G4 h = comparing g4 h
broken n G5 h = comparing g5 h
broken n G6 h = comparing g6 h
broken n G7 h = comparing g7 h
broken n G8 h = comparing g8 h
broken n G9 h = comparing g9 h
broken n G10 h = comparing g10 h
broken n G11 h = g11 n h
broken n G12 h = at_first g12 h

unfoldable pub broken_at : ℕ → Rule → List Cycle → ℕ → Bool
broken_at n r trace t = broken n r (so_far trace t)

-- "by cycle and then in the order above"
abbrev pub rules : List Rule
rules =
    A1 ∷ A2 ∷ A3 ∷ A4 ∷ A5 ∷ A6 ∷ A7 ∷ A8 ∷ A9
    ∷ G1 ∷ G2 ∷ G3 ∷ G4 ∷ G5 ∷ G6 ∷ G7 ∷ G8 ∷ G9 ∷ G10 ∷ G11 ∷ G12 ∷ []

-- the rest is named, so that it is computed once
unfoldable pub those : (Rule → Bool) → List Rule → List Rule
those f [] = []
those f (r ∷ l) = let rest = those f l in cond (f r) (r ∷ rest) rest

unfoldable pub broken_rules : ℕ → List Cycle → ℕ → List Rule
broken_rules n trace t = those (λ r. broken_at n r trace t) rules
