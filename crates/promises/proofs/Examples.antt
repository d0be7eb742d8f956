-- No promise is empty: runs that meet the premises, from the page and the worst cases.
--
--   page_run   == the whole run that document 01 prints, with the trace that it prints
--   worst_run  == with two masters and nobody locking, master 0 waits the full 5n = 10 ready cycles
--   losing_run == with three masters, master 0 requests at every decision and loses n - 1 = 2 in a row
use Prim.Native.Nat.{ℕ}
use mathlib.Core.Path.{◌≡◌, refl}
use mathlib.Core.Bool.{Bool, true, false, false≢true}
use mathlib.Core.List.{List, [], ◌∷◌}
use native.Mathlib.Omega.{arith}
use Rattle.rules.specs.declared.Phase.{Phase}
use Rattle.rules.specs.declared.Phase.TheVariants.{Fresh, Fixed, Done}
use Rattle.rules.specs.declared.State.{State}
use Rattle.rules.specs.declared.Inputs.{Inputs}
use Rattle.rules.specs.declared.Outputs.{Outputs}
use Rattle.rules.specs.declared.Cycle.{Cycle}
use Rattle.rules.specs.Codes.{burst_of}
use Rattle.rules.specs.Masks.{high}
use Rattle.rules.specs.Valid.{inputs_too_large, inputs_not_built, inputs_absent, inputs_check}
use Rattle.rules.specs.Winner.{next, walk, winner}
use Rattle.rules.specs.State.{reset_state, phase_ok, well_formed}
use Rattle.rules.specs.Phase.{seen, phase_after, opens_later, decides}
use Rattle.rules.specs.Step.{chosen, granted_after, owner_after, lock_after, moved, shown, accepted, step_of}
use Rattle.rules.proofs.Masks.{high_of_zero}
use Rattle.promises.specs.Machines.{arbiter, decision}
use Rattle.promises.specs.Runs.{Run, stop, more, trace_of, readies, Requests, Unlocked, handed_by, decisions, Loses}

-- HBUSREQ, HLOCK, HREADY, HTRANS, HBURST
abbrev lines : ℕ → ℕ → ℕ → ℕ → ℕ → Inputs
lines hbusreq hlock hready htrans hburst =
    record { hbusreq = hbusreq; hlock = hlock; hready = hready; htrans = htrans; hburst = hburst }

-- HGRANT, HMASTER, HMASTLOCK, DECIDE, GRANTED, BUSREQ
abbrev drives : ℕ → ℕ → ℕ → ℕ → ℕ → ℕ → Outputs
drives hgrant hmaster hmastlock decide granted busreq =
    record { hgrant = hgrant; hmaster = hmaster; hmastlock = hmastlock; decide = decide; granted = granted; busreq = busreq }

-- n, g, m, GRANTED, the phase and the count, with HMASTLOCK low
abbrev at : ℕ → ℕ → ℕ → Bool → Phase → ℕ → State
at n g m granted p k = record { n = n; g = g; m = m; hmastlock = false; granted = granted; phase = p; count = k }

abbrev page_inputs : List Inputs
page_inputs =
    lines 0x0 0 0 0 0 ∷ lines 0x6 0 1 0 0 ∷ lines 0x6 0 1 0 0 ∷ lines 0x6 0 1 2 3 ∷ lines 0x6 0 1 3 3
    ∷ lines 0x6 0 0 3 3 ∷ lines 0x6 0 1 3 3 ∷ lines 0x6 0 1 3 3 ∷ lines 0x4 0 1 0 0 ∷ lines 0x4 0 1 2 0 ∷ []

abbrev cycle : Inputs → Outputs → Cycle
cycle x o = record { inputs = x; outputs = o }

abbrev page_trace : List Cycle
page_trace =
    cycle (lines 0x0 0 0 0 0) (drives 0x1 0 0 1 0 0)
    ∷ cycle (lines 0x6 0 1 0 0) (drives 0x1 0 0 1 0 0)
    ∷ cycle (lines 0x6 0 1 0 0) (drives 0x2 0 0 0 1 0)
    ∷ cycle (lines 0x6 0 1 2 3) (drives 0x2 1 0 0 0 1)
    ∷ cycle (lines 0x6 0 1 3 3) (drives 0x2 1 0 0 0 1)
    ∷ cycle (lines 0x6 0 0 3 3) (drives 0x2 1 0 0 0 1)
    ∷ cycle (lines 0x6 0 1 3 3) (drives 0x2 1 0 0 0 1)
    ∷ cycle (lines 0x6 0 1 3 3) (drives 0x2 1 0 1 0 1)
    ∷ cycle (lines 0x4 0 1 0 0) (drives 0x4 1 0 0 1 0)
    ∷ cycle (lines 0x4 0 1 2 0) (drives 0x4 2 0 1 0 1)
    ∷ []

pub page_run : Run arbiter (reset_state 3) page_inputs (at 3 2 2 true Done 10)
unfolding high burst_of inputs_too_large inputs_not_built inputs_absent inputs_check next walk winner phase_ok well_formed seen phase_after opens_later decides chosen granted_after owner_after lock_after moved shown accepted step_of
page_run =
    more {s' = at 3 0 0 false Fresh 1} refl (more {s' = at 3 1 0 true Fresh 2} refl (more {s' = at 3 1 1 false Fresh 3} refl (more {s' = at 3 1 1 false (Fixed 3) 4} refl (more {s' = at 3 1 1 false (Fixed 2) 5} refl (more {s' = at 3 1 1 false (Fixed 2) 6} refl (more {s' = at 3 1 1 false (Fixed 1) 7} refl (more {s' = at 3 2 1 true Done 8} refl (more {s' = at 3 2 2 false Fresh 9} refl (more {s' = at 3 2 2 true Done 10} refl stop)))))))))

-- the trace that the page prints
pub page_shows : trace_of page_run ≡ page_trace
unfolding page_run trace_of
page_shows = refl

-- two INCR4 bursts, of master 0 and of master 1, and one cycle more
abbrev worst_inputs : List Inputs
worst_inputs =
    lines 0x3 0 1 2 3 ∷ lines 0x3 0 1 3 3 ∷ lines 0x3 0 1 3 3 ∷ lines 0x3 0 1 3 3 ∷ lines 0x3 0 1 0 0
    ∷ lines 0x3 0 1 2 3 ∷ lines 0x3 0 1 3 3 ∷ lines 0x3 0 1 3 3 ∷ lines 0x3 0 1 3 3 ∷ lines 0x3 0 1 0 0
    ∷ lines 0x3 0 1 0 0 ∷ []

pub worst_run : Run arbiter (reset_state 2) worst_inputs (at 2 1 0 true Fresh 11)
unfolding high burst_of inputs_too_large inputs_not_built inputs_absent inputs_check next walk winner phase_ok well_formed seen phase_after opens_later decides chosen granted_after owner_after lock_after moved shown accepted step_of
worst_run =
    more {s' = at 2 0 0 false (Fixed 3) 1} refl (more {s' = at 2 0 0 false (Fixed 2) 2} refl (more {s' = at 2 0 0 false (Fixed 1) 3} refl (more {s' = at 2 1 0 true Done 4} refl (more {s' = at 2 1 1 false Fresh 5} refl (more {s' = at 2 1 1 false (Fixed 3) 6} refl (more {s' = at 2 1 1 false (Fixed 2) 7} refl (more {s' = at 2 1 1 false (Fixed 1) 8} refl (more {s' = at 2 0 1 true Done 9} refl (more {s' = at 2 0 0 false Fresh 10} refl (more {s' = at 2 1 0 true Fresh 11} refl stop))))))))))

-- it meets the premises of the bounds for master 0, has 5n + 1 ready cycles, and hands the bus over at the 5n-th and no sooner
pub worst_requests : Requests 0 worst_run
unfolding worst_run Requests high
worst_requests = (refl, (refl, (refl, (refl, (refl, (refl, (refl, (refl, (refl, (refl, (refl, tt)))))))))))

pub worst_unlocked : Unlocked worst_run
unfolding worst_run Unlocked
worst_unlocked =
    let n : (i : ℕ) → high 0 i ≡ false = high_of_zero in
    (n, (n, (n, (n, (n, (n, (n, (n, (n, (n, (n, tt)))))))))))

pub worst_readies : readies worst_run ≡ 11
unfolding worst_run readies
worst_readies = refl

pub worst_not_by_9 : handed_by 9 0 worst_run ≡ false
unfolding worst_run handed_by
worst_not_by_9 = refl

pub worst_by_10 : handed_by 10 0 worst_run ≡ true
unfolding worst_run handed_by
worst_by_10 = refl

-- all three masters request, with SINGLE transfers
abbrev losing_inputs : List Inputs
losing_inputs = lines 0x7 0 1 2 0 ∷ lines 0x7 0 1 0 0 ∷ lines 0x7 0 1 2 0 ∷ []

pub losing_run : Run arbiter (reset_state 3) losing_inputs (at 3 2 1 true Done 3)
unfolding high burst_of inputs_too_large inputs_not_built inputs_absent inputs_check next walk winner phase_ok well_formed seen phase_after opens_later decides chosen granted_after owner_after lock_after moved shown accepted step_of
losing_run =
    more {s' = at 3 1 0 true Done 1} refl (more {s' = at 3 1 1 false Fresh 2} refl (more {s' = at 3 2 1 true Done 3} refl stop))

pub losing_decisions : decisions decision losing_run ≡ 2
unfolding losing_run decisions decides phase_after opens_later seen burst_of high
losing_decisions = refl

pub losing_loses : Loses decision 0 losing_run
unfolding losing_run Loses decides phase_after opens_later seen burst_of high
losing_loses = (λ d. (refl, λ e. omega arith), (λ d. absurd (false≢true d), (λ d. (refl, λ e. omega arith), tt)))
