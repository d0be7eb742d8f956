-- G11 and G12: lost decisions and the turns that are left stay below n, and cycle 0 shows a reset.
--
--   absent_loses   == an absent master loses nothing
--   losses_below   == the decisions that a master lost in a row and the turns that it has left are together below n
--   no_g11, no_g12 == the rule is not broken
use Prim.Native.Nat.{ℕ, zero, suc, ◌+◌, ◌%◌, ◌≤◌, ◌<◌}
use mathlib.Core.Path.{◌≡◌, refl}
use mathlib.Core.Bool.{Bool, true, false, not, ◌&&◌, cond, true≢false, and-false}
use mathlib.Core.List.{List, ◌∷◌}
use native.Mathlib.Omega.{arith}
use native.Mathlib.Nat.{mod-eq_of_lt}
use borrow.Author.Tests.{eqb-true, eqb-false, ne_eqb}
use lib.Dec.{eqb, ltb}
use Rattle.rules.specs.declared.Burst.{Burst}
use Rattle.rules.specs.declared.Phase.TheVariants.{Fresh}
use Rattle.rules.specs.declared.State.{State}
use Rattle.rules.specs.declared.Inputs.{Inputs}
use Rattle.rules.specs.Codes.{ready, idle, nonseq, burst_of}
use Rattle.rules.specs.Masks.{high}
use Rattle.rules.specs.State.{reset_state}
use Rattle.rules.specs.Phase.{seen, protected, phase_opened, phase_after, settled, opens_later, decides}
use Rattle.rules.specs.Step.{shown}
use Rattle.rules.proofs.Choice.{order}
use Rattle.rules.proofs.Flags.{flag_again}
use Rattle.rules.proofs.Masks.{high_below}
use Rattle.rules.proofs.Winner.{turns_below}
use Rattle.rules.proofs.WellFormed.{Began}
use Rattle.rules.proofs.Taken.{decide}
use Rattle.rules.proofs.Total.{good_masks}
use Rattle.rulebook.specs.Columns.{decided}
use Rattle.rulebook.specs.Traces.{comparing, completes}
use Rattle.rulebook.specs.Rules.{loses, lost_in_a_row, limit, g11, g12}
use Rattle.rulebook.proofs.Counts.{some_none}
use Rattle.rules.specs.declared.Cycle.{Cycle}
use Rattle.promises.proofs.Served.{turns_of, loss_nearer, turns_kept}
use Rattle.promises.proofs.History.{cycle_of, History, none, then, history_sound, shown_decided, shown_grant}

shown_loses : (i : ℕ) (q s : State) (y x : Inputs) → loses i (cycle_of q y) (cycle_of s x) ≡ (high y.hbusreq i && not (eqb s.g i))
shown_loses i q s y x = rw (shown_grant s x i)

absent_loses : (n : ℕ) {s : State} {h : List Cycle} → History n s h → (x : Inputs) (i : ℕ) → n ≤ i → lost_in_a_row i (cycle_of s x ∷ h) ≡ 0
unfolding lost_in_a_row
absent_loses n (none b) x i l = refl
absent_loses n (then {s = q} {s' = s} {h = h} y {o = o} d k) x i l =
    let past = absent_loses n d y i l in
    let m : q.n ≤ i = (let e = (history_sound d).masters in omega arith) in
    let low : high y.hbusreq i ≡ false = high_below q.n y.hbusreq i (good_masks q.n y k.good).hbusreq m in
    rw (shown_loses i q s y x, low, past) (go (decided (cycle_of q y)))
  where
    go : (d : Bool) → ◌≡◌ {A = ℕ} (cond d 0 0) 0
    go true = refl
    go false = refl

-- over plain values: l lost in a row before, w turns before and w' after
one_decision : (d asks wins : Bool) (n l w w' : ℕ) → (d ≡ true → asks ≡ true → wins ≡ false → w' < w) → (d ≡ false → w' ≡ w) → w' < n → l + w < n
    → cond d (cond (asks && not wins) (1 + l) 0) l + w' < n
one_decision true true true n l w w' f g a b = omega arith
one_decision true true false n l w w' f g a b = omega (arith, f refl refl refl)
one_decision true false wins n l w w' f g a b = omega arith
one_decision false asks wins n l w w' f g a b = omega (arith, g refl)

losses_below : (n : ℕ) {s : State} {h : List Cycle} → History n s h → (x : Inputs) (i : ℕ) → i < n → lost_in_a_row i (cycle_of s x ∷ h) + turns_of s i < n
unfolding lost_in_a_row
losses_below n (none {s = s} b) x i hi =
    let e : s.n ≡ n = (history_sound (none b)).masters in
    omega (arith, turns_below s.n s.g i (omega arith))
losses_below n (then {s = q} {s' = s} {h = h} y {o = o} d k) x i hi =
    let e : q.n ≡ n = (history_sound d).masters in
    let e' : s.n ≡ n = (history_sound (then y d k)).masters in
    rw (shown_loses i q s y x, shown_decided q y)
    (one_decision (decide q y) (high y.hbusreq i) (eqb s.g i) n (lost_in_a_row i (cycle_of q y ∷ h)) (turns_of q i) (turns_of s i)
    (λ p a w. loss_nearer q y s o k p i (omega arith) a (eqb-false s.g i w))
    (λ p. turns_kept q y s o k p i)
    (omega (arith, turns_below s.n s.g i (omega arith)))
    (losses_below n d y i hi))

-- a row below the limit completes nothing
incomplete : (k r : ℕ) → r < k → completes k r ≡ false
unfolding completes
incomplete k zero h = refl
incomplete k (suc r) h =
    let e : suc r % k ≡ suc r = mod-eq_of_lt h in
    rw (e, ne_eqb (suc r) 0 (λ q. omega arith)) (and-false (ltb 0 (suc r)))

pub no_g11 : (n : ℕ) {s : State} {h : List Cycle} → History n s h → (x : Inputs) → g11 n (cycle_of s x ∷ h) ≡ false
unfolding g11
no_g11 n {s = s} {h = h} d x =
    rw (some_none 16 _ (λ i l. few i))
    (and-false (comparing (λ p t. decided p) (cycle_of s x ∷ h)))
  where
    few : (i : ℕ) → completes (limit n) (lost_in_a_row i (cycle_of s x ∷ h)) ≡ false
    few i =
        order n i
        (λ l. rw (absent_loses n d x i l) (unfold completes in refl))
        (λ l. incomplete n (lost_in_a_row i (cycle_of s x ∷ h)) (omega (arith, losses_below n d x i l)))

-- after reset an idle cycle decides
idle_decides : (i ns r k : Bool) (b : Burst) → (i ≡ true → ns ≡ false)
    → (not (settled (cond (r && ns) (phase_opened b false) Fresh) && true && not (k && ns && not r)) && i) ≡ false
idle_decides false ns r k b h = and-false (not (settled (cond (r && ns) (phase_opened b false) Fresh) && true && not (k && ns && not r)))
idle_decides true true r k b h = absurd (true≢false (h refl))
idle_decides true false true true b h = refl
idle_decides true false true false b h = refl
idle_decides true false false true b h = refl
idle_decides true false false false b h = refl

-- DECIDE in the reset state
began_decides : (n : ℕ) (x : Inputs) → (not (decide (reset_state n) x) && idle x) ≡ false
unfolding decides phase_after opens_later seen
began_decides n x =
    idle_decides (idle x) (nonseq x) (ready x) (protected (burst_of x.hburst) false) (burst_of x.hburst)
    (λ e. ne_eqb x.htrans 2 (λ q. omega (arith, eqb-true x.htrans 0 e)))

pub no_g12 : (n : ℕ) (s : State) → Began n s → (x : Inputs) → g12 (cycle_of s x) ≡ false
unfolding shown
no_g12 n s b x = rw (b.is, flag_again (decide (reset_state n) x)) (began_decides n x)
