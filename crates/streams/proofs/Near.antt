-- Both programs go by lines: reading looks at no more than one line.
--
--   number_near, parted_near, place_near == what stands in a list is seen the same with more behind it
--   arbiter_by_lines, judge_by_lines     == the turns of the two programs
use Rattle.std.specs.Prelude.{Err, None, Ok, Some}
use Prim.Native.Nat.{ℕ, zero, suc, ◌+◌, ◌-◌, ◌≤◌}
use mathlib.Core.Path.{◌≡◌, refl, sym, ◌∙◌, ap}
use mathlib.Core.Bool.{Bool, true, false, cond}
use mathlib.Core.List.{List, [], ◌∷◌, ◌++◌}
use native.Mathlib.Omega.{arith}
use borrow.Author.Tests.{le-ltb, ltb-true, ltb-false, ne_eqb}
use lib.Dec.{eqb, ltb}
use lib.ListN.{length, get_or-append, length-append}
use Rattle.rules.proofs.Parts.{line_parts}
use Rattle.rules.specs.declared.Refusal.TheVariants as refusal
use Rattle.rules.specs.Results.{Check, Answer}
use Rattle.rules.specs.declared.State.{State}
use Rattle.rules.specs.declared.Inputs.{Inputs}
use Rattle.rules.specs.declared.Cycle.{Cycle}
use Rattle.rules.specs.Valid.{inputs_check}
use Rattle.rules.specs.State.{masters_ok}
use Rattle.rules.specs.Step.{step_of}
use Rattle.formats.specs.Digits.{number_at}
use Rattle.formats.specs.Fields.{Field, width, parted}
use Rattle.formats.specs.Lines.{stimulus_fields, trace_fields, inputs_at, outputs_at, cycle_at, line_check, Place, beyond, at_end, cut, whole, place, stimulus_checked, stimulus_in, read_stimulus_of, trace_checked, trace_in, read_trace_of}
use Rattle.formats.specs.Results.{StimulusRead, TraceRead}
use Rattle.rulebook.specs.Results.{Verdict}
use Rattle.rulebook.specs.declared.Judgement.{Judgement}
use Rattle.rulebook.specs.Step.{judge_of}
use Rattle.streams.specs.declared.Tally.{Tally}
use Rattle.streams.specs.Streams.{goes, stops}
use Rattle.streams.specs.Arbiter.{stepped, stimulated, arbiter_turn}
use Rattle.streams.specs.Judging.{judged_to, traced, judge_turn}
use Rattle.streams.specs.Blocks.{ByLines}

module _ (a b : List ℕ) where
  number_near : (w p : ℕ) → p + w ≤ length a → number_at w (a ++ b) p ≡ number_at w a p
  number_near zero p h = refl
  number_near (suc w) p h = rw (number_near w p (omega arith), get_or-append a b 0 (p + w) (omega arith))

  parted_near : (fs : List Field) (p : ℕ) → p + width fs ≤ length a → parted fs (a ++ b) p ≡ parted fs a p
  parted_near [] p h = refl
  parted_near (f ∷ fs) p h =
      rw (get_or-append a b 0 (p + f.digits) (omega arith), parted_near fs (p + (f.digits + 1)) (omega arith))

  place_near : (fs : List Field) → 1 ≤ width fs → width fs ≤ length a → place fs (a ++ b) 0 ≡ place fs a 0
  unfolding place
  place_near fs some h =
      let l = length-append a b in
      simp (
        le-ltb (length (a ++ b)) 0 (omega arith),
        le-ltb (length a) 0 (omega arith),
        ne_eqb 0 (length (a ++ b)) (λ e. omega arith),
        ne_eqb 0 (length a) (λ e. omega arith),
        le-ltb (length (a ++ b) - 0) (width fs) (omega arith),
        le-ltb (length a - 0) (width fs) (omega arith),
        parted_near fs 0 (omega arith),
      )

  inputs_near : 16 ≤ length a → inputs_at (a ++ b) 0 ≡ inputs_at a 0
  inputs_near h =
      rw (
        number_near 4 0 (omega arith),
        number_near 4 5 (omega arith),
        number_near 1 10 (omega arith),
        number_near 1 12 (omega arith),
        number_near 1 14 (omega arith),
      )

  outputs_near : 31 ≤ length a → outputs_at (a ++ b) 0 ≡ outputs_at a 0
  outputs_near h =
      rw (
        number_near 4 16 (omega arith),
        number_near 1 21 (omega arith),
        number_near 1 23 (omega arith),
        number_near 1 25 (omega arith),
        number_near 1 27 (omega arith),
        number_near 1 29 (omega arith),
      )

  stimulus_checked_lem : 16 ≤ length a → (k : Check) → stimulus_checked k (a ++ b) 0 ≡ stimulus_checked k a 0
  stimulus_checked_lem h (Ok _) = ap (λ (x : Inputs). Ok (Some (x, 16))) (inputs_near h)
  stimulus_checked_lem h (Err r) = refl

  stimulus_in_lem : (n : ℕ) → 16 ≤ length a → (q : Place) → stimulus_in q n (a ++ b) 0 ≡ stimulus_in q n a 0
  stimulus_in_lem n h beyond = refl
  stimulus_in_lem n h at_end = refl
  stimulus_in_lem n h cut = refl
  stimulus_in_lem n h whole =
      ap (λ (x : Inputs). stimulus_checked (inputs_check n x) (a ++ b) 0) (inputs_near h)
      ∙ stimulus_checked_lem h (inputs_check n (inputs_at a 0))

  stimulus_near : (n : ℕ) → 16 ≤ length a → read_stimulus_of n (a ++ b) 0 ≡ read_stimulus_of n a 0
  unfolding read_stimulus_of
  stimulus_near n h =
      rw (place_near stimulus_fields (omega arith) h, stimulus_in_lem n h (place stimulus_fields a 0))

  cycle_near : 31 ≤ length a → cycle_at (a ++ b) 0 ≡ cycle_at a 0
  cycle_near h = rw (inputs_near (omega arith), outputs_near h)

  trace_checked_lem : 31 ≤ length a → (k : Check) → trace_checked k (a ++ b) 0 ≡ trace_checked k a 0
  trace_checked_lem h (Ok _) = ap (λ (c : Cycle). Ok (Some (c, 31))) (cycle_near h)
  trace_checked_lem h (Err r) = refl

  trace_in_lem : (n : ℕ) → 31 ≤ length a → (q : Place) → trace_in q n (a ++ b) 0 ≡ trace_in q n a 0
  trace_in_lem n h beyond = refl
  trace_in_lem n h at_end = refl
  trace_in_lem n h cut = refl
  trace_in_lem n h whole =
      ap (λ (c : Cycle). trace_checked (line_check n c) (a ++ b) 0) (cycle_near h)
      ∙ trace_checked_lem h (line_check n (cycle_at a 0))

  pub trace_near : (n : ℕ) → 31 ≤ length a → read_trace_of n (a ++ b) 0 ≡ read_trace_of n a 0
  unfolding read_trace_of
  trace_near n h =
      rw (place_near trace_fields (omega arith) h, trace_in_lem n h (place trace_fields a 0))

-- a line that was read is as long as its fields, and so is what it goes on after
place_whole : (fs : List Field) (s : List ℕ) → place fs s 0 ≡ whole → width fs ≤ length s
unfolding place
place_whole fs s e = go (ltb (length s) 0) (eqb 0 (length s)) (ltb (length s - 0) (width fs)) refl refl refl
  where
    go : (x y z : Bool) → ltb (length s) 0 ≡ x → eqb 0 (length s) ≡ y → ltb (length s - 0) (width fs) ≡ z → width fs ≤ length s
    go true y z p q r = absurd (omega (arith, ltb-true (length s) 0 p))
    go false true z p q r = let f = simp (p, q) at e in let k : ◌≡◌ {A = ℕ} 0 1 = cc in absurd (omega arith)
    go false false true p q r = let f = simp (p, q, r) at e in let k : ◌≡◌ {A = ℕ} 0 1 = cc in absurd (omega arith)
    go false false false p q r = omega (arith, ltb-false (length s - 0) (width fs) r)

-- a stimulus line that was read
stimulus_line_lem : (n : ℕ) (s : List ℕ) (x : Inputs) (k : ℕ) → read_stimulus_of n s 0 ≡ Ok (Some (x, k)) → (k ≡ 16) × (16 ≤ length s)
unfolding read_stimulus_of
stimulus_line_lem n s x k e = go (masters_ok n) (place stimulus_fields s 0) (inputs_check n (inputs_at s 0)) refl refl refl
  where
    go : (m : Bool) (q : Place) (c : Check) → masters_ok n ≡ m → place stimulus_fields s 0 ≡ q → inputs_check n (inputs_at s 0) ≡ c → (k ≡ 16) × (16 ≤ length s)
    go false q c p u v = let f = simp p at e in let z : ◌≡◌ {A = ℕ} 0 1 = cc in absurd (omega arith)
    go true beyond c p u v = let f = simp (p, u) at e in let z : ◌≡◌ {A = ℕ} 0 1 = cc in absurd (omega arith)
    go true at_end c p u v = let f = simp (p, u) at e in let z : ◌≡◌ {A = ℕ} 0 1 = cc in absurd (omega arith)
    go true cut c p u v = let f = simp (p, u) at e in let z : ◌≡◌ {A = ℕ} 0 1 = cc in absurd (omega arith)
    go true whole (Ok _) p u v = let f = simp (p, u, v) at e in (sym (line_parts f).1, place_whole stimulus_fields s u)
    go true whole (Err r) p u v = let f = simp (p, u, v) at e in let z : ◌≡◌ {A = ℕ} 0 1 = cc in absurd (omega arith)

pub trace_line_lem : (n : ℕ) (s : List ℕ) (c : Cycle) (k : ℕ) → read_trace_of n s 0 ≡ Ok (Some (c, k)) → (k ≡ 31) × (31 ≤ length s)
unfolding read_trace_of
trace_line_lem n s x k e = go (masters_ok n) (place trace_fields s 0) (line_check n (cycle_at s 0)) refl refl refl
  where
    go : (m : Bool) (q : Place) (c : Check) → masters_ok n ≡ m → place trace_fields s 0 ≡ q → line_check n (cycle_at s 0) ≡ c → (k ≡ 31) × (31 ≤ length s)
    go false q c p u v = let f = simp p at e in let z : ◌≡◌ {A = ℕ} 0 1 = cc in absurd (omega arith)
    go true beyond c p u v = let f = simp (p, u) at e in let z : ◌≡◌ {A = ℕ} 0 1 = cc in absurd (omega arith)
    go true at_end c p u v = let f = simp (p, u) at e in let z : ◌≡◌ {A = ℕ} 0 1 = cc in absurd (omega arith)
    go true cut c p u v = let f = simp (p, u) at e in let z : ◌≡◌ {A = ℕ} 0 1 = cc in absurd (omega arith)
    go true whole (Ok _) p u v = let f = simp (p, u, v) at e in (sym (line_parts f).1, place_whole trace_fields s u)
    go true whole (Err r) p u v = let f = simp (p, u, v) at e in let z : ◌≡◌ {A = ℕ} 0 1 = cc in absurd (omega arith)

-- where nothing is left, nothing is read
stimulus_none : (n : ℕ) (s : State) → (bytes : List ℕ) × (stimulated (read_stimulus_of n [] 0) s ≡ stops bytes)
unfolding read_stimulus_of place
stimulus_none n s = go (masters_ok n)
  where
    go : (m : Bool) → (bytes : List ℕ) × (stimulated (cond m (Ok None) (Err refusal.Masters)) s ≡ stops bytes)
    go true = (_, refl)
    go false = (_, refl)

trace_none : (n : ℕ) (b : Tally) → (bytes : List ℕ) × (traced (read_trace_of n [] 0) b ≡ stops bytes)
unfolding read_trace_of place
trace_none n b = go (masters_ok n)
  where
    go : (m : Bool) → (bytes : List ℕ) × (traced (cond m (Ok None) (Err refusal.Masters)) b ≡ stops bytes)
    go true = (_, refl)
    go false = (_, refl)

pub arbiter_by_lines : ByLines 16 arbiter_turn
unfolding arbiter_turn
arbiter_by_lines =
    record {
      some = omega arith;
      last = λ s. stimulus_none s.n s;
      next = λ s rest bytes t k e. found s rest bytes t k e;
      near = λ s a b h. ap (λ (r : StimulusRead). stimulated r s) (stimulus_near a b s.n h);
    }
  where
    found : (s : State) (rest bytes : List ℕ) (t : State) (k : ℕ) → stimulated (read_stimulus_of s.n rest 0) s ≡ goes bytes t k → (k ≡ 16) × (16 ≤ length rest)
    found s rest bytes t k e = go (read_stimulus_of s.n rest 0) refl
      where
        taken : (x : Inputs) (next : ℕ) (a : Answer) → stepped a x s next ≡ goes bytes t k → next ≡ k
        taken x next (Ok (u, o)) f = cc
        taken x next (Err (r, u)) f = let z : ◌≡◌ {A = ℕ} 0 1 = cc in absurd (omega arith)

        go : (r : StimulusRead) → read_stimulus_of s.n rest 0 ≡ r → (k ≡ 16) × (16 ≤ length rest)
        go (Ok (Some (x, next))) p =
            let l = stimulus_line_lem s.n rest x next p in
            let q = taken x next (step_of s x) (rw p at e) in
            (sym q ∙ l.0, l.1)
        go (Ok None) p = let f = rw p at e in let z : ◌≡◌ {A = ℕ} 0 1 = cc in absurd (omega arith)
        go (Err r) p = let f = rw p at e in let z : ◌≡◌ {A = ℕ} 0 1 = cc in absurd (omega arith)

pub judge_by_lines : ByLines 31 judge_turn
unfolding judge_turn
judge_by_lines =
    record {
      some = omega arith;
      last = λ b. trace_none b.judge.n b;
      next = λ b rest bytes t k e. found b rest bytes t k e;
      near = λ b x y h. ap (λ (r : TraceRead). traced r b) (trace_near x y b.judge.n h);
    }
  where
    found : (b : Tally) (rest bytes : List ℕ) (t : Tally) (k : ℕ) → traced (read_trace_of b.judge.n rest 0) b ≡ goes bytes t k → (k ≡ 31) × (31 ≤ length rest)
    found b rest bytes t k e = go (read_trace_of b.judge.n rest 0) refl
      where
        taken : (next : ℕ) (a : Judgement) (v : Verdict) → judged_to v a b next ≡ goes bytes t k → next ≡ k
        taken next a (Ok _) f = cc
        taken next a (Err r) f = let z : ◌≡◌ {A = ℕ} 0 1 = cc in absurd (omega arith)

        go : (r : TraceRead) → read_trace_of b.judge.n rest 0 ≡ r → (k ≡ 31) × (31 ≤ length rest)
        go (Ok (Some (c, next))) p =
            let l = trace_line_lem b.judge.n rest c next p in
            let q = taken next (judge_of b.judge c) (judge_of b.judge c).verdict (rw p at e) in
            (sym q ∙ l.0, l.1)
        go (Ok None) p = let f = rw p at e in let z : ◌≡◌ {A = ℕ} 0 1 = cc in absurd (omega arith)
        go (Err r) p = let f = rw p at e in let z : ◌≡◌ {A = ℕ} 0 1 = cc in absurd (omega arith)
