-- What the judge charges at a cycle, and what it keeps for the next.
--
--   longer k f r  == a run length r after one more cycle: 0 where f fails, and 0 again where it reaches k
--   opening_watch o == the watch that an opening starts
--   later_watch w c == the watch after a later cycle that is no handover
--   opened_after, watch_after, lost_after == the judge's fields after a cycle
--   next_judge j c  == the judge after the cycle c
--   charges j c r == the judge j charges the rule r at the cycle c
use Rattle.std.specs.Prelude.{ℕ, zero, suc, ◌+◌, ◌-◌, Bool, true, false, not, ◌&&◌, ◌||◌, cond, List, [], ◌∷◌, eqb, ltb, get_or}
use Rattle.rules.specs.declared.Burst.{Burst}
use Rattle.rules.specs.declared.Burst.TheVariants as burst
use Rattle.rules.specs.declared.Cycle.{Cycle}
use Rattle.rules.specs.Codes.{burst_of, most_masters}
use Rattle.rulebook.specs.declared.Rule.{Rule}
use Rattle.rulebook.specs.declared.Rule.TheVariants.{A1, A2, A3, A4, A5, A6, A7, A8, A9, G1, G2, G3, G4, G5, G6, G7, G8, G9, G10, G11, G12}
use Rattle.rulebook.specs.declared.Watch.{Watch}
use Rattle.rulebook.specs.declared.Watch.TheVariants.{Nothing, OnG2, OnG3}
use Rattle.rulebook.specs.declared.Judge.{Judge}
use Rattle.rulebook.specs.Columns.{is_ready, decided, owners_request, handover, some_master}
use Rattle.rulebook.specs.Traces.{opens}
use Rattle.rulebook.specs.Rules.{locked_incr, waits, is_watched, loses, limit, a3, a4, a5, a6, a7, a8, a9, g1, g4, g5, g6, g7, g8, g9, g10, g12}

abbrev pub longer : ℕ → Bool → ℕ → ℕ
longer k f r = cond f (cond (eqb (r + 1) k) 0 (r + 1)) 0

-- G3 with k ready cycles left, and none where there are none
abbrev pub g3_with : ℕ → Watch
g3_with k = cond (eqb k 0) Nothing (OnG3 k)

-- G2 for INCR; G3 for a fixed burst, whose beats after the first are to come
abbrev pub burst_watch : Burst → Watch
burst_watch burst.Single = Nothing
burst_watch burst.Unspecified = OnG2
burst_watch (burst.Fixed b) = g3_with (b - 1)
burst_watch burst.NotBuilt = Nothing
burst_watch burst.NoCode = Nothing

unfoldable pub opening_watch : Cycle → Watch
opening_watch o = cond (is_watched o) (burst_watch (burst_of o.inputs.hburst)) Nothing

-- G2's is released by owner's request low, G3's counts ready cycles
abbrev pub later_watch : Watch → Cycle → Watch
later_watch Nothing c = Nothing
later_watch OnG2 c = cond (owners_request c) OnG2 Nothing
later_watch (OnG3 k) c = cond (is_ready c) (g3_with (k - 1)) (OnG3 k)

unfoldable pub opened_after : Judge → Cycle → Bool
opened_after j c = cond (handover c) false (j.opened || opens c)

unfoldable pub watch_after : Judge → Cycle → Watch
watch_after j c =
    cond (handover c) Nothing (cond j.opened (later_watch j.watch c) (cond (opens c) (opening_watch c) Nothing))

-- the previous cycle of a judge that has one had DECIDE
abbrev pub after_decision : Judge → Bool
after_decision j = not (eqb j.count 0) && decided j.previous

unfoldable pub lost_after : Judge → Cycle → ℕ → ℕ
lost_after j c i =
    cond (after_decision j) (longer (limit j.n) (loses i j.previous c) (get_or j.lost i 0)) (get_or j.lost i 0)

-- f of each number from i on, k of them
unfoldable pub list_from : ℕ → ℕ → (ℕ → ℕ) → List ℕ
list_from i zero f = []
list_from i (suc k) f = f i ∷ list_from (i + 1) k f

unfoldable pub next_judge : Judge → Cycle → Judge
next_judge j c =
    record {
      n = j.n;
      count = j.count + 1;
      previous = c;
      locked = longer 1024 (locked_incr c) j.locked;
      waited = longer 17 (waits c) j.waited;
      opened = opened_after j c;
      watch = watch_after j c;
      lost = list_from 0 most_masters (lost_after j c);
    }

abbrev pub on_g2 : Watch → Bool
on_g2 Nothing = false
on_g2 OnG2 = true
on_g2 (OnG3 k) = false

-- more ready cycles are left than this one
abbrev pub on_g3 : Watch → Bool
on_g3 Nothing = false
on_g3 OnG2 = false
on_g3 (OnG3 k) = ltb 1 k

-- master i loses once more, and has then lost as many as the limit
abbrev pub reaches : Judge → Cycle → ℕ → Bool
reaches j c i = loses i j.previous c && eqb (get_or j.lost i 0 + 1) (limit j.n)

-- a rule that compares the previous cycle with this one
abbrev pub compares_at : Judge → (Cycle → Cycle → Bool) → Cycle → Bool
compares_at j f c = not (eqb j.count 0) && f j.previous c

unfoldable pub charges : Judge → Cycle → Rule → Bool
charges j c A1 = locked_incr c && eqb (j.locked + 1) 1024
charges j c A2 = waits c && eqb (j.waited + 1) 17
charges j c A3 = compares_at j a3 c
charges j c A4 = compares_at j a4 c
charges j c A5 = compares_at j a5 c
charges j c A6 = compares_at j a6 c
charges j c A7 = compares_at j a7 c
charges j c A8 = a8 c
charges j c A9 = eqb j.count 0 && a9 c
charges j c G1 = g1 c
charges j c G2 = handover c && on_g2 j.watch && owners_request c
charges j c G3 = handover c && on_g3 j.watch
charges j c G4 = compares_at j g4 c
charges j c G5 = compares_at j g5 c
charges j c G6 = compares_at j g6 c
charges j c G7 = compares_at j g7 c
charges j c G8 = compares_at j g8 c
charges j c G9 = compares_at j g9 c
charges j c G10 = compares_at j g10 c
charges j c G11 = after_decision j && some_master (reaches j c)
charges j c G12 = eqb j.count 0 && g12 c
