-- The promises, each beside the sentence that it states. They speak of an arbiter given by its step: proofs/Promises.antt proves them of
-- the step of document 01, and proofs/Wrong.antt that each of four wrong arbiters breaks one.
--
-- "From reset" is a run from the state that reset_of gives; "any accepted cycles" are the inputs of the run, which the step did not refuse.
-- The rules are those of rulebook/specs/Rules.antt, over the trace that the run shows.
use Rattle.std.specs.Prelude.{ℕ, ◌+◌, ◌-◌, ◌*◌, ◌≤◌, ◌<◌, ◌≡◌, Bool, true, false, not, ◌&&◌, ltb, length, get_or, Err, Ok, Some}
use mathlib.Core.List.{List, [], ◌∷◌, Memᴰ}
use Rattle.rules.specs.declared.Refusal.{Refusal}
use Rattle.rules.specs.declared.State.{State}
use Rattle.rules.specs.declared.Inputs.{Inputs}
use Rattle.rules.specs.declared.Outputs.{Outputs}
use Rattle.rules.specs.declared.Cycle.{Cycle}
use Rattle.rules.specs.Results.{Answer}
use Rattle.rules.specs.Codes.{most_cycles, longest_burst}
use Rattle.rules.specs.Valid.{inputs_check}
use Rattle.rules.specs.State.{reset_of, well_formed}
use Rattle.rules.specs.Phase.{seen}
use Rattle.rules.specs.Step.{chosen, moved, shown}
use Rattle.rulebook.specs.declared.Rule.{Rule}
use Rattle.rulebook.specs.declared.Rule.TheVariants.{A1, A2, A3, A4, A5, A6, A7, A8, A9, G1, G2, G3, G4, G5, G6, G7, G8, G9, G10, G11, G12}
use Rattle.rulebook.specs.declared.Judge.{Judge}
use Rattle.rulebook.specs.Step.{Judged, report}
use Rattle.rulebook.specs.Columns.{granted, mastlocked, handover, is_fixed, is_incr, beats, owners_request}
use Rattle.rulebook.specs.Traces.{access, Opened, not_yet, opened_at, opening, all, readies as readies_in, so_far}
use Rattle.rulebook.specs.Rules.{broken_at}
use Rattle.promises.specs.Machines.{machine_of, decision}
use Rattle.promises.specs.Runs.{Run, Reached, trace_of, readies, Requests, Unlocked, AtMost, handed_by, decisions, wins, Loses}

-- the guarantees among the rules
abbrev pub is_guarantee : Rule → Bool
is_guarantee A1 = false
is_guarantee A2 = false
is_guarantee A3 = false
is_guarantee A4 = false
is_guarantee A5 = false
is_guarantee A6 = false
is_guarantee A7 = false
is_guarantee A8 = false
is_guarantee A9 = false
is_guarantee G1 = true
is_guarantee G2 = true
is_guarantee G3 = true
is_guarantee G4 = true
is_guarantee G5 = true
is_guarantee G6 = true
is_guarantee G7 = true
is_guarantee G8 = true
is_guarantee G9 = true
is_guarantee G10 = true
is_guarantee G11 = true
is_guarantee G12 = true

-- a handover t cuts a fixed burst, locked or not: the burst opened with GRANTED low, and with t it has fewer later ready cycles than beats to come
abbrev pub cuts_burst : Cycle → Opened → Bool
cuts_burst t not_yet = false
cuts_burst t (opened_at o later) = not (granted o) && is_fixed o && ltb (readies_in (t ∷ later)) (beats o - 1)

unfoldable pub cut : List Cycle → Bool
cut [] = false
cut (t ∷ h) = handover t && cuts_burst t (opening (access h))

-- a handover t cuts a locked INCR: it opened with GRANTED low and HMASTLOCK high, and its owner's request has not fallen since
abbrev pub cuts_locked_incr : Cycle → Opened → Bool
cuts_locked_incr t not_yet = false
cuts_locked_incr t (opened_at o later) = not (granted o) && mastlocked o && is_incr o && all owners_request (t ∷ later)

unfoldable pub cut_locked_incr : List Cycle → Bool
cut_locked_incr [] = false
cut_locked_incr (t ∷ h) = handover t && cuts_locked_incr t (opening (access h))

module _ (step : State → Inputs → Answer) where
  -- "A bad .. state .. is refused by its number, with the state handed back as it came"
  abbrev pub HandsBack : Type 0
  HandsBack = (s : State) (x : Inputs) (r : Refusal) (s' : State) → step s x ≡ Err (r, s') → s' ≡ s

  -- "Every call answers": a well-formed state below the count limit with a stimulus that is valid for n is never refused.
  abbrev pub NeverRefuses : Type 0
  NeverRefuses =
      (s : State) (x : Inputs) → well_formed s ≡ true → s.count < most_cycles → inputs_check s.n x ≡ Ok tt
      → (s' : State) × (o : Outputs) × (step s x ≡ Ok (s', o))

  -- "Each cycle's grants, master, lock and decision are those of document 01": what a step shows, and where it leads.
  abbrev pub FollowsThePage : Type 0
  FollowsThePage =
      (s : State) (x : Inputs) (s' : State) (o : Outputs) → step s x ≡ Ok (s', o)
      → (o ≡ shown s (seen s x) (decision s x)) × (chosen s x (decision s x) ≡ Some s'.g) × (s' ≡ moved s x (decision s x) s'.g)

  -- a step leads to a well-formed state, so every state that a run reaches is well formed
  abbrev pub StaysWellFormed : Type 0
  StaysWellFormed = (n : ℕ) (s : State) → Reached step n s → well_formed s ≡ true

  -- "From reset, with n masters and any accepted cycles, the arbiter breaks no guarantee."
  abbrev pub BreaksNoGuarantee : Type 0
  BreaksNoGuarantee =
      (n : ℕ) (s t : State) (xs : List Inputs) → reset_of n ≡ Ok s → (r : Run (machine_of step) s xs t)
      → (g : Rule) → is_guarantee g ≡ true → (k : ℕ) → k < length (trace_of r) → broken_at n g (trace_of r) k ≡ false

  -- So the judge takes the trace, and charges no guarantee in it.
  abbrev pub ClearedByTheJudge : Type 0
  ClearedByTheJudge =
      (n : ℕ) (s t : State) (xs : List Inputs) → reset_of n ≡ Ok s → (r : Run (machine_of step) s xs t)
      → ((j : Judge) × Judged n (trace_of r) j)
      × ((j : Judge) (d : Judged n (trace_of r) j) (k : ℕ) → k < length (trace_of r) → (g : Rule) → is_guarantee g ≡ true → Memᴰ g (get_or (report d) k []) → ⊥)

  -- "no protected burst is cut": from an opening with GRANTED low, no fixed burst of a run, locked or not, sees a handover before its last beat,
  -- and no locked INCR one before its owner's request falls.
  abbrev pub CutsNoBurst : Type 0
  CutsNoBurst =
      (n : ℕ) (s t : State) (xs : List Inputs) → reset_of n ≡ Ok s → (r : Run (machine_of step) s xs t) → (k : ℕ) → k < length (trace_of r)
      → (cut (so_far (trace_of r) k) ≡ false) × (cut_locked_incr (so_far (trace_of r) k) ≡ false)

  -- "A master requesting at every decision loses at most n-1 in a row":
  -- of any stretch of a run in which it requests at every decision and wins none.
  abbrev pub LosesFew : Type 0
  LosesFew =
      (n i : ℕ) (s t : State) (xs : List Inputs) → Reached step n s → i < n → (r : Run (machine_of step) s xs t)
      → Loses decision i r → decisions decision r ≤ n - 1

  -- "and no other master wins twice between its turns": in such a stretch nobody does.
  abbrev pub NobodyWinsTwice : Type 0
  NobodyWinsTwice =
      (n i j : ℕ) (s t : State) (xs : List Inputs) → Reached step n s → i < n → (r : Run (machine_of step) s xs t)
      → Loses decision i r → wins decision j r ≤ 1

  -- If from some cycle on every access has at most C ready cycles, counted from that cycle in the access then running, with C at least 1,
  -- then a master whose request stays high from there is handed the bus by the (C times n, plus 1)-th ready cycle, locks allowed.
  abbrev pub ServesWithin : Type 0
  ServesWithin =
      (n i C : ℕ) (s t : State) (xs : List Inputs) → Reached step n s → i < n → 1 ≤ C → (r : Run (machine_of step) s xs t)
      → Requests i r → AtMost C 0 r → C * n + 1 ≤ readies r → handed_by (C * n + 1) i r ≡ true

  -- "If its request stays high from some cycle on, and from there no master's lock line is high and the bus is not locked, the bus is handed
  -- to it by the (5n+1)-th ready cycle counted from there, provided the run has that many." 5 is the beats of the longest burst and the handover.
  abbrev pub ServesSoon : Type 0
  ServesSoon =
      (n i : ℕ) (s t : State) (xs : List Inputs) → Reached step n s → i < n → s.hmastlock ≡ false → (r : Run (machine_of step) s xs t)
      → Unlocked r → Requests i r → (longest_burst + 1) * n + 1 ≤ readies r → handed_by ((longest_burst + 1) * n + 1) i r ≡ true

  -- Beyond the demand, the exact bound: by the 5n-th. Some run needs as many (proofs/Examples.antt).
  abbrev pub ServesExactly : Type 0
  ServesExactly =
      (n i : ℕ) (s t : State) (xs : List Inputs) → Reached step n s → i < n → s.hmastlock ≡ false → (r : Run (machine_of step) s xs t)
      → Unlocked r → Requests i r → (longest_burst + 1) * n ≤ readies r → handed_by ((longest_burst + 1) * n) i r ≡ true

  -- all of them
  pub record Promised : Type 0 where
    pub hands_back : HandsBack
    pub never_refuses : NeverRefuses
    pub follows_the_page : FollowsThePage
    pub stays_well_formed : StaysWellFormed
    pub breaks_no_guarantee : BreaksNoGuarantee
    pub cleared : ClearedByTheJudge
    pub cuts_no_burst : CutsNoBurst
    pub loses_few : LosesFew
    pub nobody_wins_twice : NobodyWinsTwice
    pub serves_within : ServesWithin
    pub serves_soon : ServesSoon
    pub serves_exactly : ServesExactly
