-- What a decision does, and what a cycle without one leaves.
--
--   decides_low, decides_settled == what DECIDE says of the state
--   chosen_kept  == without a decision the grant stays
--   chosen_zero  == a decision with no request grants master 0
--   chosen_below == the grant that follows is a master
--   chosen_won   == a decision with a request grants the winner
use Rattle.std.specs.Prelude.{Some}
use Prim.Native.Nat.{ℕ, ◌<◌}
use mathlib.Core.Path.{◌≡◌, refl}
use mathlib.Core.Bool.{Bool, true, false, not}
use native.Mathlib.Omega.{arith}
use borrow.Author.Tests.{not-true}
use Rattle.rules.specs.declared.State.{State}
use Rattle.rules.specs.declared.Inputs.{Inputs}
use Rattle.rules.specs.declared.Seen.{Seen}
use Rattle.rules.specs.Masks.{some_high}
use Rattle.rules.specs.Winner.{winner}
use Rattle.rules.specs.Phase.{settled, phase_after, decides}
use Rattle.rules.specs.Step.{chosen}
use Rattle.rules.proofs.Choice.{and_left, and_right}
use Rattle.rules.proofs.Winner.{winner_ended}

pub decides_low : (s : State) (v : Seen) → decides s v ≡ true → s.granted ≡ false
unfolding decides
decides_low s v e =
    let p : not s.granted ≡ true = search (and_left, and_right) in
    not-true s.granted p

pub decides_settled : (s : State) (v : Seen) → decides s v ≡ true → settled (phase_after s v) ≡ true
unfolding decides
decides_settled s v e = search (and_left, and_right)

pub chosen_kept : (s : State) (x : Inputs) (w : ℕ) → chosen s x false ≡ Some w → w ≡ s.g
unfolding chosen
chosen_kept s x w e = cc

pub chosen_zero : (s : State) (x : Inputs) (w : ℕ) → some_high x.hbusreq ≡ false → chosen s x true ≡ Some w → w ≡ 0
unfolding chosen
chosen_zero s x w p e = let r = simp p at e in cc

pub chosen_won : (s : State) (x : Inputs) (w : ℕ) → some_high x.hbusreq ≡ true → chosen s x true ≡ Some w → winner s.n s.g x.hbusreq ≡ Some w
unfolding chosen
chosen_won s x w p e = simp p at e

pub chosen_below : (s : State) (x : Inputs) (d : Bool) (w : ℕ) → s.g < s.n → chosen s x d ≡ Some w → w < s.n
chosen_below s x false w h e = omega (arith, chosen_kept s x w e)
chosen_below s x true w h e = go (some_high x.hbusreq) refl
  where
    go : (t : Bool) → some_high x.hbusreq ≡ t → w < s.n
    go true p = (winner_ended s.n s.g x.hbusreq w (omega arith) (chosen_won s x w p e)).below
    go false p = omega (arith, chosen_zero s x w p e)
