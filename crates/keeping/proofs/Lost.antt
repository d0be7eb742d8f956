-- The lost counts of a judge, stored one by one, and what they are after a cycle.
--
--   with_set, with_all, with_kept == a judge with one more count stored, with all, with the counts as they were
--   low_next        == the counts before a cycle are small
--   lost_decided, lost_kept == the judge after a cycle, by whether the previous one decided
--   reached_decided == whether a count reached the limit
use Prim.Native.Nat.{ℕ}
use mathlib.Core.Path.{◌≡◌, ◌∙◌, ap, subst⁻¹, fun_ext}
use mathlib.Core.Bool.{Bool, true, false, ◌&&◌}
use mathlib.Core.List.{List}
use lib.ListN.{length, get_or}
use Rattle.rules.specs.declared.Cycle.{Cycle}
use Rattle.rulebook.specs.declared.Judge.{Judge}
use Rattle.rulebook.specs.Columns.{some_master}
use Rattle.rulebook.specs.Charges.{after_decision, reaches, lost_after, list_from, next_judge}
use Rattle.keeping.specs.Room.{Low}
use Rattle.keeping.specs.Lost.{with_lost, count_by, reaches_by}
use Rattle.keeping.proofs.Stored.{from_kept}

module _ (j : Judge) where
  pub with_set : (k : Judge) (l : List ℕ) → k ≡ with_lost j k.lost → with_lost k l ≡ with_lost j l
  with_set k l e = ap (λ (s : Judge). with_lost s l) e

  pub with_all : (k : Judge) (l : List ℕ) → k ≡ with_lost j k.lost → k.lost ≡ l → k ≡ with_lost j l
  with_all k l e g = e ∙ ap (with_lost j) g

  pub with_kept : length j.lost ≡ 16 → j ≡ with_lost j (list_from 0 16 (λ i. get_or j.lost i 0))
  with_kept n = ap (with_lost j) (from_kept j.lost 16 n)

-- next is the judge after the cycle c but for its lost counts
module _ (j : Judge) (c : Cycle) (next : Judge) (e : next ≡ with_lost (next_judge j c) j.lost) where
  pub low_next : Low j.lost → Low next.lost
  low_next l = subst⁻¹ (λ (s : Judge). Low s.lost) e l

  pub lost_decided : (after : Judge) → after_decision j ≡ true
      → after ≡ with_lost next (list_from 0 16 (count_by next.n j.previous.inputs.hbusreq c.outputs.hgrant next.lost))
      → after ≡ next_judge j c
  unfolding next_judge lost_after
  lost_decided after d g =
      g
      ∙ ap (λ (s : Judge). with_lost s (list_from 0 16 (count_by s.n j.previous.inputs.hbusreq c.outputs.hgrant s.lost))) e
      ∙ ap (λ (f : ℕ → ℕ). with_lost (next_judge j c) (list_from 0 16 f)) (fun_ext (λ i. rw d))

  pub lost_kept : (after : Judge) → after_decision j ≡ false → after ≡ with_lost next (list_from 0 16 (λ i. get_or next.lost i 0)) → after ≡ next_judge j c
  unfolding next_judge lost_after
  lost_kept after d g =
      g
      ∙ ap (λ (s : Judge). with_lost s (list_from 0 16 (λ i. get_or s.lost i 0))) e
      ∙ ap (λ (f : ℕ → ℕ). with_lost (next_judge j c) (list_from 0 16 f)) (fun_ext (λ i. rw d))

  pub reached_decided : (b : Bool) → after_decision j ≡ true → b ≡ some_master (reaches_by next.n j.previous.inputs.hbusreq c.outputs.hgrant next.lost)
      → b ≡ (after_decision j && some_master (reaches j c))
  unfolding next_judge
  reached_decided b d g =
      g ∙ ap (λ (s : Judge). some_master (reaches_by s.n j.previous.inputs.hbusreq c.outputs.hgrant s.lost)) e ∙ rw d
