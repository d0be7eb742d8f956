-- What a program keeps stays well formed.
--
--   tally_facts, tally_test == what the judging program keeps passes its test exactly if it has the facts
--   stays_formed    == of any program that goes by lines
use Prim.Native.Nat.{ℕ, zero, suc, ◌*◌}
use mathlib.Core.Path.{◌≡◌, refl}
use mathlib.Core.Bool.{true}
use mathlib.Core.List.{List, [], ◌∷◌}
use native.Mathlib.Omega.{arith}
use borrow.Author.Tests.{leb-true, le-leb}
use lib.Dec.{leb}
use lib.ListN.{length, drop}
use Rattle.rules.proofs.Choice.{and_left, and_right, and_both}
use Rattle.rules.proofs.WellFormed.{facts_of, test_of, reset_sound}
use Rattle.rulebook.specs.State.{well_formed as judge_formed}
use Rattle.rulebook.proofs.WellFormed.{facts_of as judge_facts, test_of as judge_test}
use Rattle.rulebook.proofs.Soundness.{start_sound}
use Rattle.streams.specs.declared.Tally.{Tally}
use Rattle.streams.specs.Streams.{Turn, goes, stops, Stretch, on, done, before, step, stretch}
use Rattle.streams.specs.Blocks.{tally_formed}
use Rattle.streams.specs.Breaches.{Formed}
use Rattle.streams.specs.Stays.{kept, ArbiterStaysFormed, TallyStaysFormed}
use Rattle.streams.specs.Going.{Program}
use Rattle.streams.proofs.Arbitrated.{arbiter_program_lem}
use Rattle.streams.proofs.Judged.{judge_program_lem}

pub tally_facts : (b : Tally) → length b.judge.lost ≡ 16 → tally_formed b ≡ true → Formed b
unfolding tally_formed
tally_facts b size e =
    record {
      judge = judge_facts b.judge (and_left (judge_formed b.judge) (leb b.breaches (21 * b.judge.count)) e) size;
      few = leb-true _ _ (and_right (judge_formed b.judge) (leb b.breaches (21 * b.judge.count)) e);
    }

-- what is kept stays well formed, line after line
module _ {S : Type 0} {turn : S → List ℕ → Turn S} {width most : ℕ} {Formed : S → Type 0} (M : Program turn width most Formed) where
  kept_before : (bytes : List ℕ) (t : Stretch S) → Formed (kept t) → Formed (kept (before bytes t))
  kept_before bytes (on more s) f = f
  kept_before bytes (done more s) f = f

  pub stays_formed : (k : ℕ) (s : S) (block : List ℕ) → Formed s → Formed (kept (stretch turn k s block))
  unfolding stretch
  stays_formed zero s block f = f
  stays_formed (suc k) s [] f = f
  stays_formed (suc k) s (b ∷ block) f = go (turn s (b ∷ block)) refl (λ t n. stays_formed k t (drop n (b ∷ block)))
    where
      go : (a : Turn S) → turn s (b ∷ block) ≡ a → ((t : S) (n : ℕ) → Formed t → Formed (kept (stretch turn k t (drop n (b ∷ block)))))
          → Formed (kept (step s (turn s (b ∷ block)) (λ t n. stretch turn k t (drop n (b ∷ block)))))
      go (goes bytes t n) e later =
          rw e (kept_before bytes (stretch turn k t (drop n (b ∷ block))) (later t n (rw e at (M.stays s (b ∷ block) f))))
      go (stops bytes) e later = rw e f

pub arbiter_stays_formed : ArbiterStaysFormed
arbiter_stays_formed = (
  λ n few many. test_of _ (reset_sound n few many),
  λ s block e. test_of _ (stays_formed arbiter_program_lem (length block) s block (facts_of s e)),
)

pub tally_test : (b : Tally) → Formed b → tally_formed b ≡ true
unfolding tally_formed
tally_test b f = and_both (judge_test b.judge f.judge) (le-leb b.breaches (21 * b.judge.count) f.few)

pub tally_stays_formed : TallyStaysFormed
tally_stays_formed = (
  λ n few many. tally_test _ (record { judge = start_sound n few many; few = omega arith }),
  λ b block size e. tally_test _ (stays_formed judge_program_lem (length block) b block (tally_facts b size e)),
)
