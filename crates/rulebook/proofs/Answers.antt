-- The answers of a step and of a start, taken apart once.
--
--   accepted      == a step that meets no refusal is taken
--   taken         == a step that is taken met none
--   refused       == a step that is refused hands the judge back
--   next_verdict, next_judge_lem == the answer of a step that is taken
--   begun, begins == a start is taken exactly for n from 2 to 16, with the judge of a start
use Rattle.std.specs.Prelude.{Err, Ok}
use Prim.Native.Nat.{ℕ, ◌≤◌, ◌<◌}
use mathlib.Core.Path.{◌≡◌, refl, ap}
use mathlib.Core.Bool.{Bool, true, false}
use native.Mathlib.Omega.{arith}
use borrow.Author.Tests.{leb-true, leb-false, lt-leb}
use lib.Dec.{leb}
use Rattle.rules.specs.declared.Refusal.{Refusal}
use Rattle.rules.specs.declared.Refusal.TheVariants as refusal
use Rattle.rules.specs.Results.{Check}
use Rattle.rules.specs.declared.Cycle.{Cycle}
use Rattle.rules.specs.Codes.{fewest_masters, most_masters, most_cycles}
use Rattle.rules.specs.Valid.{cycle_check}
use Rattle.rules.specs.State.{masters_ok}
use Rattle.rules.proofs.Choice.{either, and_left, and_right}
use Rattle.rules.proofs.WellFormed.{masters_ok_lem}
use Rattle.rulebook.specs.declared.Judge.{Judge}
use Rattle.rulebook.specs.declared.Judgement.{Judgement}
use Rattle.rulebook.specs.State.{start_judge, start_of, well_formed}
use Rattle.rulebook.specs.Charges.{next_judge}
use Rattle.rulebook.specs.Step.{refused_of, taken_of, judge_of}
use Rattle.rulebook.specs.Promises.{Accepted}

pub accepted : (j : Judge) (c : Cycle) → well_formed j ≡ true → j.count < most_cycles → cycle_check j.n c ≡ Ok tt → Accepted j c
unfolding judge_of
accepted j c sound room good =
    record { sound = sound; room = room; good = good; is = rw (sound, lt-leb most_cycles j.count room, good) }

data Outcome (j : Judge) (c : Cycle) : Type 0 where
  accepts : Accepted j c → Outcome j c
  refuses : (r : Refusal) → judge_of j c ≡ refused_of j r → Outcome j c

outcome : (j : Judge) (c : Cycle) → Outcome j c
unfolding judge_of
outcome j c = go (well_formed j) (leb most_cycles j.count) (cycle_check j.n c) refl refl refl
  where
    go : (sound full : Bool) (k : Check) → well_formed j ≡ sound → leb most_cycles j.count ≡ full → cycle_check j.n c ≡ k → Outcome j c
    go true false (Ok _) p q r = accepts (accepted j c p (leb-false most_cycles j.count q) r)
    go true false (Err f) p q r = refuses f (rw (p, q, r))
    go true true k p q r = refuses refusal.Full (rw (p, q))
    go false full k p q r = refuses refusal.State (rw p)

verdict_is : {a b : Judgement} → a ≡ b → a.verdict ≡ b.verdict
verdict_is e = ap (λ (a : Judgement). a.verdict) e

pub taken : (j : Judge) (c : Cycle) → (judge_of j c).verdict ≡ Ok tt → Accepted j c
unfolding refused_of
taken j c e = go (outcome j c)
  where
    go : Outcome j c → Accepted j c
    go (accepts a) = a
    go (refuses r q) = let v = verdict_is q in let z : ◌≡◌ {A = ℕ} 0 1 = cc in absurd (omega arith)

pub refused : (j : Judge) (c : Cycle) (r : Refusal) → (judge_of j c).verdict ≡ Err r → judge_of j c ≡ refused_of j r
unfolding refused_of taken_of
refused j c r e = go (outcome j c)
  where
    go : Outcome j c → judge_of j c ≡ refused_of j r
    go (accepts a) = let v = verdict_is a.is in let z : ◌≡◌ {A = ℕ} 0 1 = cc in absurd (omega arith)
    go (refuses f q) = let v = verdict_is q in let same : f ≡ r = cc in rw same at q

module _ (j : Judge) (c : Cycle) (a : Accepted j c) where
  pub next_verdict : (judge_of j c).verdict ≡ Ok tt
  unfolding taken_of
  next_verdict = verdict_is a.is

  pub next_judge_lem : (judge_of j c).judge ≡ next_judge j c
  unfolding taken_of
  next_judge_lem = ap (λ (a : Judgement). a.judge) a.is

pub record Begun (n : ℕ) : Type 0 where
  pub few : fewest_masters ≤ n
  pub many : n ≤ most_masters
  pub is : (start_of n).judge ≡ start_judge n

pub begun : (n : ℕ) → (start_of n).verdict ≡ Ok tt → Begun n
unfolding start_of
begun n e =
    either (masters_ok n)
    (λ p.
    record {
      few = leb-true 2 n (and_left (leb 2 n) (leb n 16) p);
      many = leb-true n 16 (and_right (leb 2 n) (leb n 16) p);
      is = rw p;
    })
    (λ p. let q = rw p at e in let z : ◌≡◌ {A = ℕ} 0 1 = cc in absurd (omega arith))

pub begins : (n : ℕ) → fewest_masters ≤ n → n ≤ most_masters → (start_of n).verdict ≡ Ok tt
unfolding start_of
begins n few many = rw (masters_ok_lem n few many)
