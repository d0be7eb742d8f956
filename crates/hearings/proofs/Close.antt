-- The ends of the judge's two calls, over plain values: J and B are the lent buffers, which begin with the bytes h and m.
--
--   first_long, judge_whole, mask_whole == the first bytes of a buffer are so many, and what is stored there is just the judge, or the mask
--   start_short, start_fits, start_refused, start_taken == the ends of a start
--   step_short_judge, step_short_broken, step_unknown, step_fits, step_refused, step_taken == the ends of a step
--   step_called, start_called == the number of a verdict is what the call from C answers
use Rattle.std.specs.Prelude.{Option, Some, None, Ok, Err}
use Prim.Native.Nat.{ℕ, ◌≤◌, ◌<◌}
use mathlib.Core.Path.{◌≡◌, refl, sym, ◌∙◌, ap}
use mathlib.Core.Bool.{Bool, true, false}
use mathlib.Core.List.{List, [], ◌++◌, append-nil}
use native.Mathlib.Omega.{arith}
use lib.ListN.{length, take, drop, length-drop, drop_of_length-le}
use lib.Seq.{length-take-le}
use Rattle.std.proofs.lemmas.Option.{same_Some}
use Rattle.rules.specs.declared.Refusal.{Refusal}
use Rattle.rules.specs.declared.Refusal.TheVariants as refusal
use Rattle.rules.specs.declared.Cycle.{Cycle}
use Rattle.rules.specs.Codes.{most_masters}
use Rattle.rulebook.specs.declared.Judge.{Judge}
use Rattle.rulebook.specs.declared.Started.{Started}
use Rattle.rulebook.specs.Results.{Verdict}
use Rattle.rulebook.specs.State.{start_of}
use Rattle.rulebook.specs.Step.{number_of, judge_of}
use Rattle.rulebook.proofs.Soundness.{start_sound, step_sound}
use Rattle.rulebook.proofs.WellFormed.{facts_of}
use Rattle.rulebook.proofs.Answers.{taken, next_judge_lem, begun}
use Rattle.judging.specs.declared.Ruled.{Ruled}
use Rattle.judging.specs.Ruled.{ruled_of}
use Rattle.words.specs.Words.{low_first}
use Rattle.words.proofs.Words.{put_back}
use Rattle.docketing.specs.Bytes.{judge_bytes, is_judge, judge_in, bytes_judge}
use Rattle.docketing.specs.Fits.{JudgeFits}
use Rattle.docketing.specs.Calls.{ruling_of, of_docket, judge_step, judge_stored, mask_stored, Ruling, judge_number, JudgeStepCall, JudgeStartCall}
use Rattle.hearings.specs.Hearings.{verdict_of, JudgeSteps, JudgeStarts}
use Rattle.docketing.proofs.Bytes.{judge_fits, first_judge}
use Rattle.docketing.proofs.Calls.{short_judge, short_broken, short_start, long_enough, plain_start}

-- what is stored in a buffer that is just so long
pub first_long : (k : ℕ) (S h : List ℕ) → k ≤ length S → h ≡ take k S → length h ≡ k
first_long k S h room e = rw e (length-take-le k S room)

pub judge_whole : (j : Judge) (h : List ℕ) → length h ≡ 42 → judge_stored j h ≡ judge_bytes j
unfolding judge_stored
judge_whole j h e = let none : drop 42 h ≡ [] = drop_of_length-le h {i = 42} (omega arith) in rw none (append-nil (judge_bytes j))

pub mask_whole : (m : ℕ) (h : List ℕ) → length h ≡ 4 → mask_stored m h ≡ low_first 4 m
unfolding mask_stored
mask_whole m h e = let none : drop 4 h ≡ [] = drop_of_length-le h {i = 4} (omega arith) in rw none

-- a start: v is its answer, and a that of the judge
module _ (n : ℕ) (J : List ℕ) (v : Verdict) where
  pub start_short : length J < 42 → v ≡ Err refusal.Short → JudgeStarts n J v J
  start_short h is = let e = short_start n J h in (rw (e, is), rw e)

  module _ (a : Started) (is : a ≡ start_of n) where
    pub start_fits : a.verdict ≡ Ok tt → JudgeFits a.judge
    start_fits e =
        let b = begun n (ap (λ (s : Started). s.verdict) (sym is) ∙ e) in
        let at : a.judge ≡ (start_of n).judge = ap (λ (s : Started). s.judge) is in
        rw (at, b.is) (judge_fits _ (start_sound n b.few b.many))

    module _ (room : 42 ≤ length J) where
      pub start_refused : (h : List ℕ) (r : Refusal) → h ≡ take 42 J → a.verdict ≡ Err r → v ≡ Err r → JudgeStarts n J v (h ++ drop 42 J)
      start_refused h r back e w =
          let u = plain_start n J room ∙ sym is in (rw (u, e, w), rw (u, e) (put_back 42 J h back))

      pub start_taken : (h : List ℕ) → a.verdict ≡ Ok tt → h ≡ judge_bytes a.judge → JudgeStarts n J (Ok tt) (h ++ drop 42 J)
      unfolding judge_stored
      start_taken h e p = let u = plain_start n J room ∙ sym is in (rw (u, e), rw (u, e, p))

-- a step: v is its answer, and a that of the judge
module _ (c : Cycle) (J B : List ℕ) (v : Verdict) where
  pub step_short_judge : length J < 42 → v ≡ Err refusal.Short → JudgeSteps c J B v J B
  step_short_judge h is = let e = short_judge J B c h in (rw (e, is), rw e, rw e)

  module _ (room : 42 ≤ length J) (h : List ℕ) (first : h ≡ take 42 J) where
    pub step_short_broken : length B < 4 → v ≡ Err refusal.Short → JudgeSteps c J B v (h ++ drop 42 J) B
    step_short_broken k is = let e = short_broken J B c room k in (rw (e, is), rw e (put_back 42 J h first), rw e)

    module _ (space : 4 ≤ length B) (m : List ℕ) (second : m ≡ take 4 B) where
      -- the bytes are read as they are, whatever follows them
      read : judge_step J B c ≡ of_docket (bytes_judge h) c
      read = long_enough J B c room space ∙ ap (λ (d : Option Judge). of_docket d c) (rw first (sym (first_judge J)))

      unchanged : (r : Refusal) → judge_step J B c ≡ Err r → v ≡ Err r → JudgeSteps c J B v (h ++ drop 42 J) (m ++ drop 4 B)
      unchanged r e is = (rw (e, is), rw e (put_back 42 J h first), rw e (put_back 4 B m second))

      pub step_unknown : bytes_judge h ≡ None → v ≡ Err refusal.State → JudgeSteps c J B v (h ++ drop 42 J) (m ++ drop 4 B)
      unfolding of_docket
      step_unknown e is = unchanged refusal.State (read ∙ rw e) is

      module _ (j : Judge) (known : bytes_judge h ≡ Some j) (a : Ruled) (answer : a ≡ ruled_of (judge_of j c)) where
        verdict_is : a.verdict ≡ (judge_of j c).verdict
        verdict_is = ap (λ (s : Ruled). s.verdict) answer

        judge_is : a.judge ≡ (judge_of j c).judge
        judge_is = ap (λ (s : Ruled). s.judge) answer

        ruled : judge_step J B c ≡ ruling_of (judge_of j c)
        unfolding of_docket
        ruled = read ∙ rw known

        size : length j.lost ≡ most_masters
        unfolding bytes_judge judge_in
        size = go (is_judge h) refl
          where
            go : (b : Bool) → is_judge h ≡ b → length j.lost ≡ most_masters
            go true e =
                let is : judge_in h ≡ j = same_Some _ _ (sym (rw e) ∙ known) in
                let long : length h ≡ 42 = rw first (length-take-le 42 J room) in
                rw (← is) (length-take-le 16 (drop 26 h) (omega (arith, length-drop 26 h)))
            go false e = let f : None ≡ Some j = sym (rw e) ∙ known in let z : ◌≡◌ {A = ℕ} 0 1 = cc in absurd (omega arith)

        pub step_refused : (r : Refusal) → a.verdict ≡ Err r → v ≡ Err r → JudgeSteps c J B v (h ++ drop 42 J) (m ++ drop 4 B)
        step_refused r e is = let f : (judge_of j c).verdict ≡ Err r = sym verdict_is ∙ e in unchanged r (ruled ∙ rw f) is

        module _ (e : a.verdict ≡ Ok tt) where
          pub step_fits : JudgeFits a.judge
          step_fits =
              let t = taken j c (sym verdict_is ∙ e) in
              rw (judge_is, next_judge_lem j c t) (judge_fits _ (step_sound j c (facts_of j t.sound size) t.good t.room))

          pub step_taken : (h' m' : List ℕ) → h' ≡ judge_bytes a.judge → m' ≡ low_first 4 a.mask → JudgeSteps c J B (Ok tt) (h' ++ drop 42 J) (m' ++ drop 4 B)
          unfolding judge_stored mask_stored
          step_taken h' m' p q =
              let f : (judge_of j c).verdict ≡ Ok tt = sym verdict_is ∙ e in
              rw (ruled, f) (refl, rw (p, judge_is) refl, rw (q, ap (λ (s : Ruled). s.mask) answer) refl)

-- the number of a verdict is what the call from C answers
number_is : (r : Ruling) → number_of (verdict_of r) ≡ judge_number r
number_is (Ok (j, m)) = refl
number_is (Err r) = refl

pub step_called : (c : Cycle) (J B : List ℕ) (v : Verdict) (k : ℕ) (J' B' : List ℕ) → JudgeSteps c J B v J' B' → k ≡ number_of v → JudgeStepCall c J B k J' B'
step_called c J B v k J' B' s e = (e ∙ ap number_of s.0 ∙ number_is (judge_step J B c), s.1, s.2)

pub start_called : (n : ℕ) (J : List ℕ) (v : Verdict) (k : ℕ) (J' : List ℕ) → JudgeStarts n J v J' → k ≡ number_of v → JudgeStartCall n J k J'
start_called n J v k J' s e = (e ∙ ap number_of s.0, s.1)
