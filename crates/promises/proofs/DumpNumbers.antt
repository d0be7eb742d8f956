-- Which refusals the readers of a dump give: 12 and 1 for a header; for a step, once n is tested, 3 to 8, 13 and 14.
--
--   dumps_refused_by_number == the promise of specs/Waves.antt
use Rattle.std.specs.Prelude.{Err, Ok}
use Prim.Native.Nat.{ℕ, ◌+◌, ◌-◌, ◌*◌, ◌≤◌}
use mathlib.Core.Path.{◌≡◌, refl, sym, ap}
use mathlib.Core.Logic.{◌⊎◌, inl, inr}
use mathlib.Core.List.{List}
use native.Mathlib.Omega.{arith}
use lib.Dec.{eqb, ltb}
use lib.ListN.{length, get_or, drop}
use Rattle.rules.specs.declared.Refusal.{Refusal}
use Rattle.rules.specs.declared.Refusal.TheVariants as refusal
use Rattle.rules.specs.Results.{Check}
use Rattle.rules.specs.declared.Cycle.{Cycle}
use Rattle.rules.specs.Refusals.{number_of}
use Rattle.rules.specs.State.{masters_ok}
use Rattle.rules.proofs.Choice.{cond_elim}
use Rattle.formats.specs.Results.{HeaderRead, TraceRead}
use Rattle.formats.specs.Headers.{ranged}
use Rattle.formats.specs.Lines.{line_check}
use Rattle.formats.specs.Promises.{InRange}
use Rattle.formats.proofs.Given.{line_gives}
use Rattle.formats.proofs.Limits.{range_ok}
use Rattle.waves.specs.Header.{opening, closing, begins, one_digit, two_digits, masters_in, read_dump_header_of}
use Rattle.waves.specs.Reading.{step_text, wrong_time, full_time, unknown_in, step_shaped, step_cycle, step_checked, step_in, read_step_of}
use Rattle.promises.specs.Waves.{DumpsRefusedByNumber}

abbrev Given : Refusal → HeaderRead → Type 0
Given r a = a ≡ Err r → (number_of r ≡ 12) ⊎ (number_of r ≡ 1)

abbrev OfAStep : Refusal → Type 0
OfAStep r = ((3 ≤ number_of r) × (number_of r ≤ 8)) ⊎ ((13 ≤ number_of r) × (number_of r ≤ 14))

abbrev Found : Refusal → TraceRead → Type 0
Found r a = a ≡ Err r → OfAStep r

module _ (r : Refusal) where
  ranged_gives : (n next : ℕ) → Given r (ranged n next)
  ranged_gives n next =
      cond_elim (Given r) (masters_ok n)
      (λ ok e. let z : ◌≡◌ {A = ℕ} 0 1 = cc in absurd (omega arith))
      (λ ok e. let i : refusal.Masters ≡ r = cc in inr (ap number_of (sym i)))

  other_gives : Given r (Err refusal.Dump)
  other_gives e = let i : refusal.Dump ≡ r = cc in inl (ap number_of (sym i))

  masters_give : (s : List ℕ) (p : ℕ) → Given r (masters_in s p)
  unfolding masters_in
  masters_give s p =
      cond_elim (Given r) (one_digit s p)
      (λ one. ranged_gives (get_or s p 0 - 48) (p + 1 + length closing))
      (λ more.
      cond_elim (Given r) (two_digits s p)
      (λ two. ranged_gives ((get_or s p 0 - 48) * 10 + (get_or s (p + 1) 0 - 48)) (p + 2 + length closing))
      (λ none. other_gives))

  header_gives : (s : List ℕ) → Given r (read_dump_header_of s)
  unfolding read_dump_header_of
  header_gives s = cond_elim (Given r) (begins s opening) (λ ours. masters_give s (length opening)) (λ other. other_gives)

  checked_gives : (n : ℕ) (c : Cycle) (k : Check) (next : ℕ) → line_check n c ≡ k → Found r (step_checked k c next)
  checked_gives n c (Ok _) next f e = let z : ◌≡◌ {A = ℕ} 0 1 = cc in absurd (omega arith)
  checked_gives n c (Err q) next f e =
      let i : q ≡ r = cc in
      let g = rw i at (line_gives n c q f) in
      inl (omega arith)

  step_in_gives : (n t : ℕ) (prev : Cycle) (s : List ℕ) (next : ℕ) → Found r (step_in n t prev s next)
  unfolding step_in
  step_in_gives n t prev s next =
      cond_elim (Found r) (wrong_time t s) (λ wrong e. let i : refusal.Time ≡ r = cc in rw (← i) (inr (omega arith))) (λ right.
      cond_elim (Found r) (full_time t s) (λ full e. let i : refusal.Full ≡ r = cc in rw (← i) (inl (omega arith))) (λ early.
      cond_elim (Found r) (unknown_in s) (λ unknown e. let i : refusal.Variable ≡ r = cc in rw (← i) (inr (omega arith))) (λ known.
      cond_elim (Found r) (step_shaped t prev s)
      (λ shape. checked_gives n (step_cycle t prev s) (line_check n (step_cycle t prev s)) next refl)
      (λ none e. let i : refusal.Shape ≡ r = cc in rw (← i) (inl (omega arith))))))

  step_gives : (n t : ℕ) (prev : Cycle) (s : List ℕ) (p : ℕ) → InRange n → Found r (read_step_of n t prev s p)
  unfolding read_step_of
  step_gives n t prev s p range =
      rw (range_ok n range)
      (cond_elim (Found r) (ltb (length s) p) (λ far e. let i : refusal.Shape ≡ r = cc in rw (← i) (inl (omega arith))) (λ near.
      cond_elim (Found r) (eqb p (length s)) (λ last e. let z : ◌≡◌ {A = ℕ} 0 1 = cc in absurd (omega arith)) (λ more.
      step_in_gives n t prev (step_text (drop p s)) (p + length (step_text (drop p s))))))

pub dumps_refused_by_number : DumpsRefusedByNumber
dumps_refused_by_number =
    record {
      of_a_header = λ s r h. header_gives r s h;
      of_a_step = λ s n cs r h. step_gives r n _ _ s _ h.1.masters h.2;
    }
