-- The watch that the judge keeps, and the access that runs.
--
--   opened_further, watch_further == one more cycle of an access
--   opened_kept, watch_kept       == what is kept is a word about the access, after a handover too
--   watch_cuts_incr, watch_cuts_fixed == at a handover the watch says whether a watched burst is cut
use Prim.Native.Nat.{ℕ, zero, suc, ◌+◌, ◌-◌}
use mathlib.Core.Path.{◌≡◌, refl, sym, ◌∙◌}
use mathlib.Core.Bool.{Bool, true, false, ◌&&◌, ◌||◌, cond, and-true, and-false}
use mathlib.Core.List.{List, ◌∷◌}
use native.Mathlib.Omega.{arith}
use borrow.Author.Tests.{lt-ltb, le-ltb, ltb-true, ltb-false}
use lib.Dec.{ltb, eqb-suc-zero}
use Rattle.rules.specs.declared.Burst.{Burst}
use Rattle.rules.specs.declared.Burst.TheVariants as burst
use Rattle.rules.specs.declared.Cycle.{Cycle}
use Rattle.rules.specs.Codes.{burst_of}
use Rattle.rules.proofs.Choice.{either, and_right}
use Rattle.rulebook.specs.declared.Watch.TheVariants.{Nothing, OnG2}
use Rattle.rulebook.specs.Columns.{is_ready, granted, unspecified, beats_of, owners_request, handover}
use Rattle.rulebook.specs.Traces.{access, opens, Opened, not_yet, opened_at, further, opening, all, readies}
use Rattle.rulebook.specs.Rules.{is_watched, cuts_incr, cuts_fixed}
use Rattle.rulebook.specs.Charges.{g3_with, burst_watch, opening_watch, later_watch, opened_after, watch_after, on_g2, on_g3}
use Rattle.rulebook.specs.Kept.{has_opened, held_watch, access_watch, kept_of}

-- a watch of G3 with k ready cycles left
for_on : (k : ℕ) (c : Cycle) → later_watch (g3_with k) c ≡ cond (is_ready c) (g3_with (k - 1)) (g3_with k)
for_on zero c = either (is_ready c) (λ e. rw e) (λ e. rw e)
for_on (suc k) c = rw (eqb-suc-zero k)

for_no_g2 : (k : ℕ) → on_g2 (g3_with k) ≡ false
for_no_g2 zero = refl
for_no_g2 (suc k) = rw (eqb-suc-zero k)

for_g3 : (k : ℕ) → on_g3 (g3_with k) ≡ ltb 1 k
for_g3 zero = refl
for_g3 (suc k) = rw (eqb-suc-zero k)

-- over the sort of the burst: the opening itself, and a later cycle
by_opening : (b : Burst) → burst_watch b ≡ held_watch b true 0
by_opening burst.Single = refl
by_opening burst.Unspecified = refl
by_opening (burst.Fixed b) = let z : b - 1 - 0 ≡ b - 1 = omega arith in rw z
by_opening burst.NotBuilt = refl
by_opening burst.NoCode = refl

held_on : (held : Bool) (c : Cycle) → later_watch (cond held OnG2 Nothing) c ≡ cond (owners_request c && held) OnG2 Nothing
held_on true c = rw (and-true (owners_request c))
held_on false c = rw (and-false (owners_request c))

beats_on : (k r : ℕ) (ready : Bool) → cond ready (g3_with (k - r - 1)) (g3_with (k - r)) ≡ g3_with (k - (cond ready 1 0 + r))
beats_on k r true = let z : k - (1 + r) ≡ k - r - 1 = omega arith in rw z
beats_on k r false = let z : k - (0 + r) ≡ k - r = omega arith in rw z

by_later : (b : Burst) (held : Bool) (r : ℕ) (c : Cycle)
    → later_watch (held_watch b held r) c ≡ held_watch b (owners_request c && held) (cond (is_ready c) 1 0 + r)
by_later burst.Single held r c = refl
by_later burst.Unspecified held r c = held_on held c
by_later (burst.Fixed b) held r c = for_on (b - 1 - r) c ∙ beats_on (b - 1) r (is_ready c)
by_later burst.NotBuilt held r c = refl
by_later burst.NoCode held r c = refl

opened_further : (o : Opened) (c : Cycle) → (has_opened o || opens c) ≡ has_opened (further c o)
opened_further not_yet c = either (opens c) (λ e. rw e) (λ e. rw e)
opened_further (opened_at o later) c = refl

watch_further : (o : Opened) (c : Cycle)
    → cond (has_opened o) (later_watch (access_watch o) c) (cond (opens c) (opening_watch c) Nothing) ≡ access_watch (further c o)
unfolding opening_watch access_watch all readies
watch_further not_yet c =
    either (opens c) (λ e. rw (e, by_opening (burst_of c.inputs.hburst))) (λ e. rw e)
watch_further (opened_at o later) c =
    either (is_watched o)
    (λ e. rw e (by_later (burst_of o.inputs.hburst) (all owners_request later) (readies later) c))
    (λ e. rw e)

-- one more cycle of the trace: a handover ends the access, any other cycle is a further one of it
pub opened_kept : (n : ℕ) (h : List Cycle) (c : Cycle) → opened_after (kept_of n h) c ≡ has_opened (opening (access (c ∷ h)))
unfolding opened_after kept_of access opening
opened_kept n h c = either (handover c) (λ e. rw e) (λ e. rw e (opened_further (opening (access h)) c))

pub watch_kept : (n : ℕ) (h : List Cycle) (c : Cycle) → watch_after (kept_of n h) c ≡ access_watch (opening (access (c ∷ h)))
unfolding watch_after kept_of access opening access_watch
watch_kept n h c = either (handover c) (λ e. rw e) (λ e. rw e (watch_further (opening (access h)) c))

-- over the sort of the burst: at a handover
by_cuts_incr : (b : Burst) (held request : Bool) (r : ℕ) → (on_g2 (held_watch b held r) && request) ≡ (unspecified b && (request && held))
by_cuts_incr burst.Single held request r = refl
by_cuts_incr burst.Unspecified true request r = sym (and-true request)
by_cuts_incr burst.Unspecified false request r = sym (and-false request)
by_cuts_incr (burst.Fixed b) held request r = rw (for_no_g2 (b - 1 - r))
by_cuts_incr burst.NotBuilt held request r = refl
by_cuts_incr burst.NoCode held request r = refl

pub watch_cuts_incr : (o : Opened) (c : Cycle) → (on_g2 (access_watch o) && owners_request c) ≡ cuts_incr c o
unfolding access_watch all
watch_cuts_incr not_yet c = refl
watch_cuts_incr (opened_at o later) c =
    either (is_watched o)
    (λ e. rw e (by_cuts_incr (burst_of o.inputs.hburst) (all owners_request later) (owners_request c) (readies later)))
    (λ e. rw e)

beats_left : (b r : ℕ) → ltb 1 (b - 1 - r) ≡ (ltb 0 b && ltb (1 + r) (b - 1))
beats_left b r =
    either (ltb (1 + r) (b - 1))
    (λ e.
    let l = ltb-true (1 + r) (b - 1) e in
    rw (e, lt-ltb 0 b (omega arith)) (lt-ltb 1 (b - 1 - r) (omega arith)))
    (λ e.
    let l = ltb-false (1 + r) (b - 1) e in
    rw (e, and-false (ltb 0 b)) (le-ltb 1 (b - 1 - r) (omega arith)))

by_cuts_fixed : (b : Burst) (held : Bool) (r : ℕ) → on_g3 (held_watch b held r) ≡ (ltb 0 (beats_of b) && ltb (1 + r) (beats_of b - 1))
by_cuts_fixed burst.Single held r = refl
by_cuts_fixed burst.Unspecified true r = refl
by_cuts_fixed burst.Unspecified false r = refl
by_cuts_fixed (burst.Fixed b) held r = for_g3 (b - 1 - r) ∙ beats_left b r
by_cuts_fixed burst.NotBuilt held r = refl
by_cuts_fixed burst.NoCode held r = refl

pub watch_cuts_fixed : (o : Opened) (c : Cycle) → handover c ≡ true → on_g3 (access_watch o) ≡ cuts_fixed c o
unfolding access_watch readies handover
watch_cuts_fixed not_yet c e = refl
watch_cuts_fixed (opened_at o later) c e =
    let ready = and_right (granted c) (is_ready c) e in
    either (is_watched o)
    (λ w. rw (w, ready) (by_cuts_fixed (burst_of o.inputs.hburst) (all owners_request later) (readies later)))
    (λ w. rw w)
