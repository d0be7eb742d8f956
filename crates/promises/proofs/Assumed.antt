-- What is broken in the trace of a run from reset are assumptions only.
--
--   each_those == of the rules that have f, each is what having f makes it
--   each_place == of the list f 0, f 1, .., likewise
--   only_assumptions == no rule of the broken ones is a guarantee
use Rattle.std.specs.Prelude.{Ok}
use Prim.Native.Nat.{ℕ, zero, suc, ◌<◌}
use mathlib.Core.Path.{◌≡◌, refl, sym, ◌∙◌}
use mathlib.Core.Bool.{Bool, true, false, cond, true≢false}
use mathlib.Core.List.{List, [], ◌∷◌}
use native.Mathlib.Omega.{arith}
use lib.ListN.{length}
use Rattle.rules.specs.declared.State.{State}
use Rattle.rules.specs.declared.Inputs.{Inputs}
use Rattle.rules.specs.State.{reset_of}
use Rattle.rulebook.specs.declared.Rule.{Rule}
use Rattle.rulebook.specs.Rules.{rules, those, broken_at, broken_rules}
use Rattle.rulebook.specs.Promises.{each, broken_report}
use Rattle.formats.specs.Promises.{Each}
use Rattle.promises.specs.Machines.{arbiter}
use Rattle.promises.specs.Runs.{Run, trace_of}
use Rattle.promises.specs.Promises.{is_guarantee}
use Rattle.promises.proofs.Unbroken.{breaks_no_guarantee}

each_those : (P : Rule → Type 0) (f : Rule → Bool) → ((r : Rule) → f r ≡ true → P r) → (l : List Rule) → Each P (those f l)
unfolding those
each_those P f h [] = tt
each_those P f h (r ∷ l) = go (f r) refl (each_those P f h l)
  where
    go : (b : Bool) → f r ≡ b → Each P (those f l) → Each P (cond b (r ∷ those f l) (those f l))
    go true e rest = (h r e, rest)
    go false e rest = rest

each_place : {A : Type 0} (P : A → Type 0) (k : ℕ) (f : ℕ → A) → ((t : ℕ) → t < k → P (f t)) → Each P (each k f)
unfolding each
each_place P zero f h = tt
each_place P (suc k) f h = (h 0 (omega arith), each_place P k (λ t. f (suc t)) (λ t below. h (suc t) (omega arith)))

module _ (n : ℕ) (s t : State) (xs : List Inputs) (began : reset_of n ≡ Ok s) (r : Run arbiter s xs t) where
  -- a guarantee is not broken
  broken_assumed : (k : ℕ) → k < length (trace_of r) → (q : Rule) → broken_at n q (trace_of r) k ≡ true → is_guarantee q ≡ false
  broken_assumed k below q broken = go (is_guarantee q) refl
    where
      go : (b : Bool) → is_guarantee q ≡ b → b ≡ false
      go true e = absurd (true≢false (sym broken ∙ breaks_no_guarantee n s t xs began r q e k below))
      go false e = refl

  pub only_assumptions : Each (Each (λ q. is_guarantee q ≡ false)) (broken_report n (trace_of r))
  only_assumptions =
      each_place (Each (λ q. is_guarantee q ≡ false)) (length (trace_of r)) (broken_rules n (trace_of r))
      (λ k below. unfold broken_rules in each_those (λ q. is_guarantee q ≡ false) (λ q. broken_at n q (trace_of r) k) (broken_assumed k below) rules)
