-- The promises hold of the step of document 01.
use Rattle.std.specs.Prelude.{Err, None, Ok, Some}
use Prim.Native.Nat.{ℕ}
use mathlib.Core.Path.{◌≡◌, refl, sym, ◌∙◌, ap}
use mathlib.Core.Bool.{Bool, true, false}
use native.Mathlib.Omega.{arith}
use lib.Dec.{leb}
use Rattle.rules.proofs.Parts.{err_parts}
use Rattle.rules.specs.Results.{Check, Found}
use Rattle.rules.specs.Codes.{most_cycles}
use Rattle.rules.specs.Valid.{inputs_check}
use Rattle.rules.specs.State.{well_formed}
use Rattle.rules.specs.Phase.{seen}
use Rattle.rules.specs.Step.{chosen, moved, shown, accepted, step_of}
use Rattle.rules.proofs.Winner.{turns_below, turns_other}
use Rattle.rules.proofs.WellFormed.{facts_of, test_of}
use Rattle.rules.proofs.Taken.{taken, decide, next_g}
use Rattle.rules.proofs.Total.{never_refused}
use Rattle.promises.specs.Machines.{the_step}
use Rattle.promises.specs.Promises.{HandsBack, NeverRefuses, FollowsThePage, StaysWellFormed, LosesFew, NobodyWinsTwice, ServesWithin, ServesSoon, Promised}
use Rattle.promises.proofs.Bound.{bound}
use Rattle.promises.proofs.Served.{turns_of, served}
use Rattle.promises.proofs.Fair.{reached_sound, few_losses, one_win_each}
use Rattle.promises.proofs.Lockfree.{longest, room_most, short_accesses}
use Rattle.promises.proofs.Exact.{serves_exactly}
use Rattle.promises.proofs.Cleared.{cleared}
use Rattle.promises.proofs.Unbroken.{breaks_no_guarantee, cuts_no_burst}

hands_back : HandsBack step_of
unfolding step_of accepted
hands_back s x r s' e = go (well_formed s) (leb most_cycles s.count) (inputs_check s.n x) (chosen s x (decide s x)) refl refl refl refl e
  where
    go : (a b : Bool) (c : Check) (f : Found) → well_formed s ≡ a → leb most_cycles s.count ≡ b → inputs_check s.n x ≡ c → chosen s x (decide s x) ≡ f → step_of s x ≡ Err (r, s') → s' ≡ s
    go true false (Ok _) (Some w) p q k t u = let v = simp (p, q, k, t) at u in cc
    go true false (Ok _) None p q k t u = sym (err_parts (simp (p, q, k, t) at u)).1
    go true false (Err y) f p q k t u = sym (err_parts (simp (p, q, k) at u)).1
    go true true c f p q k t u = sym (err_parts (simp (p, q) at u)).1
    go false b c f p q k t u = sym (err_parts (simp p at u)).1

never_refuses : NeverRefuses step_of
never_refuses s x w room good =
    let f = never_refused s x (facts_of s w) room good in
    (moved s x (decide s x) f.0, shown s (seen s x) (decide s x), f.1)

follows_the_page : FollowsThePage step_of
follows_the_page s x s' o e =
    let k = taken s x s' o e in
    let g = next_g s x s' o k in
    (k.shows, k.chose ∙ ap Some (sym g), k.moves ∙ ap (λ (w : ℕ). moved s x (decide s x) w) (sym g))

stays_well_formed : StaysWellFormed step_of
stays_well_formed n s h = test_of s (reached_sound h).formed

loses_few : LosesFew step_of
loses_few n i s t xs h hi r l =
    let m = (reached_sound h).masters in
    omega (arith, few_losses i r (omega arith) l, turns_below s.n s.g i (omega arith))

nobody_wins_twice : NobodyWinsTwice step_of
nobody_wins_twice n i j s t xs h hi r l =
    let m = (reached_sound h).masters in
    one_win_each i j r (omega arith) l

serves_within : ServesWithin step_of
serves_within n i C s t xs h hi hc r a w l =
    let f = reached_sound h in
    let m : s.n ≡ n = f.masters in
    bound decide turns_of served C i r n hc (omega arith)
    (omega (arith, turns_below s.n s.g i (omega arith)))
    (λ other. omega (arith, turns_other s.n s.g i f.formed.grant (omega arith) other))
    a w l

serves_soon : ServesSoon step_of
serves_soon n i s t xs h hi free r u a l =
    serves_within n i longest s t xs h hi (omega arith) r a
    (short_accesses i r 0 free u a (omega (arith, room_most s.granted s.phase s.hmastlock (reached_sound h).formed.phase)))
    l

pub promised : Promised the_step
promised =
    record {
      hands_back = hands_back;
      never_refuses = never_refuses;
      follows_the_page = follows_the_page;
      stays_well_formed = stays_well_formed;
      breaks_no_guarantee = breaks_no_guarantee;
      cleared = cleared;
      cuts_no_burst = cuts_no_burst;
      loses_few = loses_few;
      nobody_wins_twice = nobody_wins_twice;
      serves_within = serves_within;
      serves_soon = serves_soon;
      serves_exactly = serves_exactly;
    }
