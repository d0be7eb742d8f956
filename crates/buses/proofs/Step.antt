-- One cycle that a step takes, over plain numbers.
--
--   same_state == a state is that of its numbers
--   due        == the facts of a cycle that a step takes
--   moves      == the state that follows, from the fields of its bus
--   decide_moves, wait_moves == a cycle with GRANTED low, and one with GRANTED high
--   shows      == what is shown, from its numbers
--   stepped    == the step's answer, from the bus that follows and what is shown
use Rattle.std.specs.Prelude.{Ok}
use Prim.Native.Nat.{ℕ, ◌+◌, ◌-◌, ◌≤◌, ◌<◌}
use mathlib.Core.Path.{◌≡◌, refl, ap}
use mathlib.Core.Bool.{Bool, true, false, not, cond}
use native.Mathlib.Omega.{arith}
use borrow.Author.Tests.{lt-leb, ltb-false}
use lib.Dec.{eqb, ltb}
use lib.Bits.{bit_and, bit_or}
use Rattle.rules.specs.declared.Phase.TheVariants.{Fresh}
use Rattle.rules.specs.declared.State.{State}
use Rattle.rules.specs.declared.Inputs.{Inputs}
use Rattle.rules.specs.declared.Outputs.{Outputs}
use Rattle.rules.specs.Codes.{most_cycles, ready}
use Rattle.rules.specs.Masks.{high as bit_of, single}
use Rattle.rules.specs.Valid.{inputs_too_large, inputs_not_built, inputs_absent, inputs_check}
use Rattle.rules.specs.State.{WellFormed}
use Rattle.rules.specs.Phase.{seen, phase_after, decides}
use Rattle.rules.specs.Step.{flag_of, chosen, granted_after, owner_after, lock_after, moved, shown, accepted, step_of}
use Rattle.rules.proofs.Choice.{or_left, or_right}
use Rattle.rules.proofs.Flags.{flag_most, flag_again}
use Rattle.rules.proofs.Total.{passed, good_masks}
use Rattle.rules.proofs.WellFormed.{test_of}
use Rattle.signals.specs.Flags.{Stands}
use Rattle.signals.proofs.Flags.{as_flag, none, by, high, small}
use Rattle.buses.specs.declared.Bus.{Bus}
use Rattle.buses.specs.Buses.{phase_from, phase_number, Numbers, state_from, Fit, Due, decide_of, Runs, Chooses, Moves}
use Rattle.buses.proofs.Phases.{number, number_of, picked}
use Rattle.buses.proofs.Decision.{decided}

pub same_state : (s : State) (lock granted k : ℕ) → WellFormed s → lock ≡ flag_of s.hmastlock → granted ≡ flag_of s.granted → k ≡ phase_number s.phase
    → (state_from s.n (record { g = s.g; m = s.m; hmastlock = lock; granted = granted; phase = k; count = s.count }) ≡ s)
    × Fit (record { g = s.g; m = s.m; hmastlock = lock; granted = granted; phase = k; count = s.count })
same_state s lock granted k sound l g e =
    let p = number_of s.phase s.granted s.hmastlock sound.phase in
    rw (l, g, e)
    (rw (flag_again s.hmastlock, flag_again s.granted, p.is), record { phase = p.small; lock = flag_most s.hmastlock; granted = flag_most s.granted })

ready_small : (n : ℕ) (x : Inputs) → inputs_check n x ≡ Ok tt → x.hready ≤ 1
unfolding inputs_check inputs_too_large
ready_small n x e =
    let p = (passed (inputs_too_large x) (inputs_not_built x) (inputs_absent n x) false e).value in
    let q : ltb 1 x.hready ≡ false = search (or_left, or_right) depth 10 in
    ltb-false 1 x.hready q

pub due : (n : ℕ) (b : Bus) (x : Inputs) → WellFormed (state_from n b) → Fit b → b.count < most_cycles → inputs_check n x ≡ Ok tt → Due n b x
due n b x sound fit room good =
    record {
      many = sound.many;
      grant = sound.grant;
      owner = sound.owner;
      room = room;
      requests = (good_masks n x good).hbusreq;
      ready = ready_small n x good;
      fit = fit;
    }

stands_picked : {i j : ℕ} {p q : Bool} (b : Bool) → Stands i p → Stands j q → Stands (cond b i j) (cond b p q)
stands_picked true f g = f
stands_picked false f g = g

not_picked : (b : Bool) → not b ≡ cond b false true
not_picked true = refl
not_picked false = refl

fresh : Numbers Fresh 5
unfolding phase_from
fresh = number 5 (omega arith)

module _ (n : ℕ) (b : Bus) (x : Inputs) where
  -- d is DECIDE, and the others are the fields of the bus that follows
  moves : (d : Bool) (g m lock granted k : ℕ)
      → m ≡ owner_after (state_from n b) x
      → Stands lock (lock_after (state_from n b) x)
      → Stands granted (granted_after (state_from n b) x d)
      → Numbers (phase_after (state_from n b) (seen (state_from n b) x)) k
      → state_from n (record { g = g; m = m; hmastlock = lock; granted = granted; phase = k; count = b.count + 1 })
      ≡ moved (state_from n b) x d g
  unfolding moved
  moves d g m lock granted k o l p q = cc (high l, high p, q.is)

  -- g, granted and decide are what the choice comes to, and k is the phase after
  pub decide_moves : (lock busy k g granted decide : ℕ) → Due n b x → b.granted ≡ 0 → Stands lock (bit_of x.hlock b.m) → Runs n b x busy k
      → Chooses n b x (eqb (bit_or (bit_and b.hmastlock lock) busy) 0) g granted decide
      → Moves n b x decide (record { g = g; m = b.m; hmastlock = b.hmastlock; granted = granted; phase = k; count = b.count + 1 })
  unfolding owner_after lock_after phase_after seen
  decide_moves lock busy k g granted decide facts e l runs chose =
      let low : eqb b.granted 1 ≡ false = ap (λ (k : ℕ). eqb k 1) e in
      let c : Chooses n b x (decide_of n b x) g granted decide = rw (decided n b x lock busy k e facts.fit.lock l runs) chose in
      record {
        decides = c.decides;
        grant = c.grant;
        after = moves (decide_of n b x) g b.m b.hmastlock granted k (rw low) (rw low (as_flag b.hmastlock facts.fit.lock)) c.grants (rw low runs.phase);
        fit = record { phase = runs.phase.small; lock = facts.fit.lock; granted = small c.grants };
      }

  -- lock is HLOCK of g
  pub wait_moves : (lock m hmastlock k : ℕ) → Due n b x → b.granted ≡ 1 → Stands lock (bit_of x.hlock b.g)
      → m ≡ cond (ready x) b.g b.m → hmastlock ≡ cond (ready x) lock b.hmastlock → k ≡ cond (ready x) 5 b.phase
      → Moves n b x 0 (record { g = b.g; m = m; hmastlock = hmastlock; granted = 1 - x.hready; phase = k; count = b.count + 1 })
  unfolding owner_after lock_after granted_after phase_after decides chosen seen
  wait_moves lock m hmastlock k facts e l o h p =
      let up : eqb b.granted 1 ≡ true = ap (λ (k : ℕ). eqb k 1) e in
      let d : decide_of n b x ≡ false = rw up in
      let s : Stands hmastlock (cond (ready x) (bit_of x.hlock b.g) (eqb b.hmastlock 1)) = rw h (stands_picked (ready x) l (as_flag b.hmastlock facts.fit.lock)) in
      let q : Numbers (cond (ready x) Fresh (phase_from b.phase)) k = rw p (picked (ready x) fresh (number b.phase facts.fit.phase)) in
      let w : Stands (1 - x.hready) (cond (ready x) false true) = by (not_picked (ready x)) (none (as_flag x.hready facts.ready)) in
      record {
        decides = record { is = rw d };
        grant = rw d;
        after = moves (decide_of n b x) b.g m hmastlock (1 - x.hready) k (rw up o) (rw up s) (rw (d, up) w) (rw up q);
        fit = record { phase = q.small; lock = small s; granted = small w };
      }

  pub shows : (decide request mask : ℕ) → Fit b → Stands request (bit_of x.hbusreq b.m) → Stands decide (decide_of n b x) → mask ≡ single b.g
      → record { hgrant = mask; hmaster = b.m; hmastlock = b.hmastlock; decide = decide; granted = b.granted; busreq = request }
      ≡ shown (state_from n b) (seen (state_from n b) x) (decide_of n b x)
  unfolding shown seen
  shows decide request mask fit r d e = cc ((as_flag b.hmastlock fit.lock).is, (as_flag b.granted fit.granted).is)

  -- b' is the bus that follows and o what is shown
  pub stepped : (decide : ℕ) (b' : Bus) (o : Outputs)
      → WellFormed (state_from n b) → b.count < most_cycles → inputs_check n x ≡ Ok tt
      → Moves n b x decide b'
      → o ≡ shown (state_from n b) (seen (state_from n b) x) (decide_of n b x)
      → step_of (state_from n b) x ≡ Ok (state_from n b', o)
  unfolding step_of accepted
  stepped decide b' o sound room good moves shows =
      simp (test_of (state_from n b) sound, lt-leb 1000000 b.count room, good, moves.grant) (cc)
