-- The judge's calls are the plain ones, of the judge that the bytes write; and the statements of specs/Promises.antt over them, each by the law of
-- its name.
--
--   short_judge, short_broken, short_start == a buffer that is too short is refusal 9
--   long_enough, plain_start == with buffers that are long enough, a call is the step of the judge that the bytes write, or the start
--   refused_unchanged == a step that answers another number than 0 changes no byte
--   flag_at == the flag of the rule i
use Rattle.std.specs.Prelude.{Err, Ok}
use Prim.Native.Nat.{ℕ, zero, suc, ◌≤◌, ◌<◌}
use mathlib.Core.Path.{◌≡◌, refl, sym, ◌∙◌}
use mathlib.Core.Bool.{Bool, false}
use mathlib.Core.List.{List, [], ◌∷◌, map}
use native.Mathlib.Omega.{arith}
use borrow.Author.Tests.{lt-ltb, le-ltb}
use lib.ListN.{length, get_or}
use Rattle.rules.specs.declared.Refusal.TheVariants.{Short}
use Rattle.rules.specs.declared.Cycle.{Cycle}
use Rattle.rulebook.specs.declared.Rule.{Rule}
use Rattle.rulebook.specs.declared.Rule.TheVariants.{A1}
use Rattle.rulebook.specs.declared.Judge.{Judge}
use Rattle.rulebook.specs.Results.{Verdict}
use Rattle.rulebook.specs.Rules.{rules}
use Rattle.rulebook.specs.State.{start_judge, start_of}
use Rattle.rulebook.specs.Charges.{charges}
use Rattle.rulebook.specs.Step.{number_of}
use Rattle.rulebook.proofs.Named.{mask_bit}
use Rattle.docketing.specs.Bytes.{judge_size, bytes_judge}
use Rattle.docketing.specs.Calls.{mask_size, Ruling, of_docket, judge_step, judge_number, judge_after, broken_after, judge_start, start_after}
use Rattle.docketing.specs.Promises.{MaskNamesTheCharged, RefusedStepsKeep, RefusedStartsKeep, OneStep, OneStart}

pub short_judge : (judge broken : List ℕ) (c : Cycle) → length judge < judge_size → judge_step judge broken c ≡ Err Short
unfolding judge_step
short_judge judge broken c h = simp (lt-ltb (length judge) 42 h)

pub short_broken : (judge broken : List ℕ) (c : Cycle) → judge_size ≤ length judge → length broken < mask_size → judge_step judge broken c ≡ Err Short
unfolding judge_step
short_broken judge broken c room h = simp (le-ltb (length judge) 42 room, lt-ltb (length broken) 4 h)

pub long_enough : (judge broken : List ℕ) (c : Cycle) → judge_size ≤ length judge → mask_size ≤ length broken
    → judge_step judge broken c ≡ of_docket (bytes_judge judge) c
unfolding judge_step
long_enough judge broken c room space = simp (le-ltb (length judge) 42 room, le-ltb (length broken) 4 space)

pub short_start : (n : ℕ) (judge : List ℕ) → length judge < judge_size → judge_start n judge ≡ record { judge = start_judge 0; verdict = Err Short }
unfolding judge_start
short_start n judge h = simp (lt-ltb (length judge) 42 h)

pub plain_start : (n : ℕ) (judge : List ℕ) → judge_size ≤ length judge → judge_start n judge ≡ start_of n
unfolding judge_start
plain_start n judge room = simp (le-ltb (length judge) 42 room)

-- a refusal changes no byte
pub refused_unchanged : (r : Ruling) (judge broken : List ℕ) → 1 ≤ judge_number r → (judge_after r judge ≡ judge) × (broken_after r broken ≡ broken)
refused_unchanged (Ok (j, m)) judge broken h = absurd (omega arith)
refused_unchanged (Err r) judge broken h = (refl, refl)

pub refused_steps_keep : RefusedStepsKeep
refused_steps_keep c judge broken judge' broken' number some call =
    let k = refused_unchanged (judge_step judge broken c) judge broken (omega (arith, call.0)) in
    (call.1 ∙ k.0, call.2 ∙ k.1)

start_unchanged : (v : Verdict) (j : Judge) (judge : List ℕ) → 1 ≤ number_of v → start_after (record { judge = j; verdict = v }) judge ≡ judge
start_unchanged (Ok _) j judge h = absurd (omega arith)
start_unchanged (Err r) j judge h = refl

pub refused_starts_keep : RefusedStartsKeep
refused_starts_keep n judge judge' number some call =
    let a = judge_start n judge in
    call.1 ∙ start_unchanged a.verdict a.judge judge (omega (arith, call.0))

-- what the calls promise leaves no choice
pub one_step : OneStep
one_step c judge broken r r' j j' b b' p q = (p.0 ∙ sym q.0, p.1 ∙ sym q.1, p.2 ∙ sym q.2)

pub one_start : OneStart
one_start n judge r r' j j' p q = (p.0 ∙ sym q.0, p.1 ∙ sym q.1)

-- the flag of the rule i
pub flag_at : (f : Rule → Bool) (l : List Rule) (i : ℕ) → i < length l → get_or (map f l) i false ≡ f (get_or l i A1)
flag_at f [] i h = absurd (omega arith)
flag_at f (r ∷ l) zero h = refl
flag_at f (r ∷ l) (suc i) h = flag_at f l i (omega arith)

pub mask_names_the_charged : MaskNamesTheCharged
mask_names_the_charged j c i h = mask_bit (map (charges j c) rules) i ∙ flag_at (charges j c) rules i h
