-- A program counts its lines: a stretch that goes on has counted those of its block, and comes to no more than 1,000,000.
--
--   Counting count turn == a turn that goes on has counted its line
--   Used == what is counted where a block is used up
--   used == a stretch that goes on has used up its block
--   arbiter_counts, judge_counts == the turns of the two programs
use Rattle.std.specs.Prelude.{Err, None, Ok, Some}
use Prim.Native.Nat.{ℕ, zero, suc, ◌+◌, ◌*◌, ◌≤◌}
use mathlib.Core.Path.{◌≡◌, refl, ap}
use mathlib.Core.List.{List, [], ◌∷◌}
use native.Mathlib.Omega.{arith}
use lib.ListN.{length, drop, length-drop}
use Rattle.rules.specs.declared.State.{State}
use Rattle.rules.specs.declared.Inputs.{Inputs}
use Rattle.rules.specs.declared.Cycle.{Cycle}
use Rattle.rules.specs.Results.{Answer}
use Rattle.rules.specs.Codes.{most_cycles}
use Rattle.rules.specs.Step.{step_of}
use Rattle.rules.proofs.Taken.{taken, next_count}
use Rattle.rulebook.specs.declared.Judge.{Judge}
use Rattle.rulebook.specs.Results.{Verdict}
use Rattle.rulebook.specs.Charges.{next_judge}
use Rattle.rulebook.specs.Step.{judge_of}
use Rattle.rulebook.proofs.Answers.{taken as judge_taken, next_judge_lem}
use Rattle.formats.specs.Results.{StimulusRead, TraceRead}
use Rattle.formats.specs.Lines.{read_stimulus_of, read_trace_of}
use Rattle.streams.specs.declared.Tally.{Tally}
use Rattle.streams.specs.Streams.{Turn, goes, stops, Stretch, on, done, before, stretch}
use Rattle.streams.specs.Arbiter.{stepped, stimulated, arbiter_turn}
use Rattle.streams.specs.Judging.{judged_to, traced, judge_turn}
use Rattle.streams.specs.Blocks.{Stepping}

abbrev pub Counting : {S : Type 0} → (S → ℕ) → (S → List ℕ → Turn S) → Type 0
Counting count turn =
    (s : _) (rest bytes : List ℕ) (t : _) (k : ℕ) → turn s rest ≡ goes bytes t k → (count t ≡ count s + 1) × (count t ≤ most_cycles)

module _ {S : Type 0} (turn : S → List ℕ → Turn S) {least most : ℕ} (L : Stepping least most turn) (count : S → ℕ) (counts : Counting count turn) where
  pub record Used (s t : S) (block : List ℕ) : Type 0 where
    pub lines : ℕ
    pub at_least : lines * least ≤ length block
    pub at_most : length block ≤ lines * most
    pub counted : count t ≡ count s + lines
    -- no more than there may be: if some were taken, or if there were no more before
    pub some : 1 ≤ lines → count t ≤ most_cycles
    pub room : count s ≤ most_cycles → count t ≤ most_cycles

  untouched : (s t : S) (block bytes : List ℕ) → length block ≡ 0 → on [] s ≡ on bytes t → Used s t block
  untouched s t block bytes e f =
      let same : t ≡ s = cc in
      rw same
      (record {
        lines = 0;
        at_least = omega arith;
        at_most = omega arith;
        counted = omega arith;
        some = λ h. absurd (omega arith);
        room = λ h. h;
      })

  before_elim : {P : Type 0} (bytes more : List ℕ) (x : Stretch S) (t : S) → before bytes x ≡ on more t
      → ((l : List ℕ) → x ≡ on l t → P) → P
  before_elim bytes more (on l u) t e f = let same : u ≡ t = cc in f l (rw same)
  before_elim bytes more (done l u) t e f = let z : ◌≡◌ {A = ℕ} 0 1 = cc in absurd (omega arith)

  pub used : (f : ℕ) (s t : S) (block bytes : List ℕ) → length block ≤ f → stretch turn f s block ≡ on bytes t → Used s t block
  unfolding stretch
  used zero s t block bytes h e = untouched s t block bytes (omega arith) e
  used (suc f) s t [] bytes h e = untouched s t [] bytes refl e
  used (suc f) s t (b ∷ block) bytes h e = go (turn s (b ∷ block)) refl (λ u k. used f u t (drop k (b ∷ block)))
    where
      go : (x : Turn S) → turn s (b ∷ block) ≡ x
          → ((u : S) (k : ℕ) (l : List ℕ) → length (drop k (b ∷ block)) ≤ f → stretch turn f u (drop k (b ∷ block)) ≡ on l t → Used u t (drop k (b ∷ block)))
          → Used s t (b ∷ block)
      go (stops l) p later = let q = rw p at e in let z : ◌≡◌ {A = ℕ} 0 1 = cc in absurd (omega arith)
      go (goes l u k) p later =
          let n = L.next s (b ∷ block) l u k p in
          let c = counts s (b ∷ block) l u k p in
          let d = length-drop k (b ∷ block) in
          let pos = L.some in
          before_elim l bytes (stretch turn f u (drop k (b ∷ block))) t (rw p at e)
          (λ m q.
          let r = later u k m (omega arith) q in
          record {
            lines = suc r.lines;
            at_least = omega (arith, r.at_least);
            at_most = omega (arith, r.at_most);
            counted = omega (arith, r.counted);
            some = λ h. r.room c.1;
            room = λ h. r.room c.1;
          })

pub arbiter_counts : Counting (λ (s : State). s.count) arbiter_turn
unfolding arbiter_turn
arbiter_counts s rest bytes t k = go (read_stimulus_of s.n rest 0)
  where
    stepping : (x : Inputs) (next : ℕ) (a : Answer) → step_of s x ≡ a → stepped a x s next ≡ goes bytes t k → (t.count ≡ s.count + 1) × (t.count ≤ most_cycles)
    stepping x next (Ok (u, o)) p e =
        let q = taken s x u o p in
        let same : t ≡ u = cc in
        let c = next_count s x u o q in
        rw same (c, omega (arith, q.room))
    stepping x next (Err (r, u)) p e = let z : ◌≡◌ {A = ℕ} 0 1 = cc in absurd (omega arith)

    go : (r : StimulusRead) → stimulated r s ≡ goes bytes t k → (t.count ≡ s.count + 1) × (t.count ≤ most_cycles)
    go (Ok (Some (x, next))) e = stepping x next (step_of s x) refl e
    go (Ok None) e = let z : ◌≡◌ {A = ℕ} 0 1 = cc in absurd (omega arith)
    go (Err r) e = let z : ◌≡◌ {A = ℕ} 0 1 = cc in absurd (omega arith)

-- the judge's count after a cycle that is taken
judged_count : (j : Judge) (c : Cycle) → (judge_of j c).verdict ≡ Ok tt → ((judge_of j c).judge.count ≡ j.count + 1) × ((judge_of j c).judge.count ≤ most_cycles)
unfolding next_judge
judged_count j c p =
    let a = judge_taken j c p in
    let e : (judge_of j c).judge.count ≡ j.count + 1 = ap (λ (j : Judge). j.count) (next_judge_lem j c a) in
    (e, omega (arith, a.room))

pub judge_counts : Counting (λ (b : Tally). b.judge.count) judge_turn
unfolding judge_turn
judge_counts b rest bytes t k = go (read_trace_of b.judge.n rest 0)
  where
    judging : (c : Cycle) (next : ℕ) (v : Verdict) → (judge_of b.judge c).verdict ≡ v → judged_to v (judge_of b.judge c) b next ≡ goes bytes t k
        → (t.judge.count ≡ b.judge.count + 1) × (t.judge.count ≤ most_cycles)
    judging c next (Ok _) p e =
        let same : t.judge ≡ (judge_of b.judge c).judge = cc in
        rw same (judged_count b.judge c p)
    judging c next (Err r) p e = let z : ◌≡◌ {A = ℕ} 0 1 = cc in absurd (omega arith)

    go : (r : TraceRead) → traced r b ≡ goes bytes t k → (t.judge.count ≡ b.judge.count + 1) × (t.judge.count ≤ most_cycles)
    go (Ok (Some (c, next))) e = judging c next (judge_of b.judge c).verdict refl e
    go (Ok None) e = let z : ◌≡◌ {A = ℕ} 0 1 = cc in absurd (omega arith)
    go (Err r) e = let z : ◌≡◌ {A = ℕ} 0 1 = cc in absurd (omega arith)
