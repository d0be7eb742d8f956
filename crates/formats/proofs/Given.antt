-- Which refusals a reader gives: 2 and 1 for a header; for a line, once n is tested, 3 to 7.
--
--   OfALine r    == r is one of 3 to 7
--   first_gives  == the tests 4 to 7
--   header_gives == of a header
--   stimulus_gives, trace_gives == of a line
use Rattle.std.specs.Prelude.{Err, Ok}
use Prim.Native.Nat.{ℕ, ◌+◌, ◌-◌, ◌*◌, ◌≤◌}
use mathlib.Core.Path.{◌≡◌, refl, sym, ◌∙◌, ap}
use mathlib.Core.Logic.{◌⊎◌, inl, inr}
use mathlib.Core.Bool.{Bool, true, false, ◌||◌}
use mathlib.Core.List.{List}
use native.Mathlib.Omega.{arith}
use lib.Dec.{ltb}
use lib.ListN.{length, get_or}
use Rattle.rules.specs.declared.Refusal.{Refusal}
use Rattle.rules.specs.declared.Refusal.TheVariants as refusal
use Rattle.rules.specs.Results.{Check}
use Rattle.rules.specs.declared.Inputs.{Inputs}
use Rattle.rules.specs.declared.Cycle.{Cycle}
use Rattle.rules.specs.Refusals.{number_of, first_of}
use Rattle.rules.specs.Valid.{inputs_too_large, outputs_too_large, inputs_not_built, inputs_absent, outputs_absent, owner_absent, inputs_check, cycle_check}
use Rattle.rules.specs.State.{masters_ok}
use Rattle.rules.proofs.Choice.{cond_elim}
use Rattle.formats.specs.declared.Word.{Word}
use Rattle.formats.specs.Results.{HeaderRead}
use Rattle.formats.specs.Lines.{Place, beyond, at_end, cut, whole, place, line_check, read_stimulus_of, read_trace_of}
use Rattle.formats.specs.Headers.{prefix, starts_with, one_digit, two_digits, ranged, number_in, read_header_of}
use Rattle.formats.specs.Files.{refused, as_stimulus, as_trace}
use Rattle.formats.specs.Promises.{InRange}
use Rattle.formats.proofs.Limits.{range_ok}
use Rattle.formats.proofs.Reading.{Format, found, reading}
use Rattle.formats.proofs.Lines.{stimulus, trace, stimulus_reading, trace_reading}

-- a header that was read is no refusal
abbrev Given : Refusal → HeaderRead → Type 0
Given r a = a ≡ Err r → (number_of r ≡ 2) ⊎ (number_of r ≡ 1)

module _ (r : Refusal) where
  -- 1 or none
  ranged_gives : (n next : ℕ) → Given r (ranged n next)
  ranged_gives n next =
      cond_elim (Given r) (masters_ok n)
      (λ ok e. let z : ◌≡◌ {A = ℕ} 0 1 = cc in absurd (omega arith))
      (λ ok e. let i : refusal.Masters ≡ r = cc in inr (ap number_of (sym i)))

  other_gives : Given r (Err refusal.Header)
  other_gives e = let i : refusal.Header ≡ r = cc in inl (ap number_of (sym i))

  number_gives : (s : List ℕ) (p : ℕ) → Given r (number_in s p)
  unfolding number_in
  number_gives s p =
      cond_elim (Given r) (one_digit s p)
      (λ one. ranged_gives (get_or s p 0 - 48) (p + 2))
      (λ more.
      cond_elim (Given r) (two_digits s p)
      (λ two. ranged_gives ((get_or s p 0 - 48) * 10 + (get_or s (p + 1) 0 - 48)) (p + 3))
      (λ none. other_gives))

  pub header_gives : (w : Word) (s : List ℕ) → read_header_of w s ≡ Err r → (number_of r ≡ 2) ⊎ (number_of r ≡ 1)
  unfolding read_header_of
  header_gives w s =
      cond_elim (Given r) (starts_with s (prefix w)) (λ starts. number_gives s (length (prefix w))) (λ other. other_gives)

abbrev pub OfALine : Refusal → Type 0
OfALine r = (3 ≤ number_of r) × (number_of r ≤ 7)

pub first_gives : (v u a o : Bool) (r : Refusal) → first_of v u a o ≡ Err r → OfALine r
first_gives true u a o r e = let i : refusal.Value ≡ r = cc in rw (← i) (omega arith)
first_gives false true a o r e = let i : refusal.NotBuilt ≡ r = cc in rw (← i) (omega arith)
first_gives false false true o r e = let i : refusal.Absent ≡ r = cc in rw (← i) (omega arith)
first_gives false false false true r e = let i : refusal.Owner ≡ r = cc in rw (← i) (omega arith)
first_gives false false false false r e = let z : ◌≡◌ {A = ℕ} 0 1 = cc in absurd (omega arith)

inputs_give : (n : ℕ) (x : Inputs) (r : Refusal) → inputs_check n x ≡ Err r → OfALine r
unfolding inputs_check
inputs_give n x r e = first_gives (inputs_too_large x) (inputs_not_built x) (inputs_absent n x) false r e

pub line_gives : (n : ℕ) (c : Cycle) (r : Refusal) → line_check n c ≡ Err r → OfALine r
unfolding line_check cycle_check
line_gives n c r =
    cond_elim (λ k. k ≡ Err r → OfALine r) (ltb 15 c.outputs.hmaster)
    (λ none e. first_gives true false false false r e)
    (λ digit e.
    first_gives
    (inputs_too_large c.inputs || outputs_too_large c.outputs)
    (inputs_not_built c.inputs)
    (inputs_absent n c.inputs || outputs_absent n c.outputs)
    (owner_absent n c.outputs)
    r
    e)

module _ {A : Type 0} (F : Format A) (n : ℕ) (gives : (a : A) (r : Refusal) → F.check n a ≡ Err r → OfALine r) where
  found_gives : (q : Place) (k : Check) (a : A) (next : ℕ) (r : Refusal) → ((r : Refusal) → k ≡ Err r → OfALine r)
      → found q k a next ≡ refused r → OfALine r
  found_gives beyond k a next r f e = let i : refusal.Shape ≡ r = cc in rw (← i) (omega arith)
  found_gives at_end k a next r f e = let z : ◌≡◌ {A = ℕ} 0 1 = cc in absurd (omega arith)
  found_gives cut k a next r f e = let i : refusal.Shape ≡ r = cc in rw (← i) (omega arith)
  found_gives whole (Ok _) a next r f e = let z : ◌≡◌ {A = ℕ} 0 1 = cc in absurd (omega arith)
  found_gives whole (Err q) a next r f e = let i : q ≡ r = cc in rw (← i) (f q refl)

  reading_gives : (s : List ℕ) (p : ℕ) (r : Refusal) → InRange n → reading F n s p ≡ refused r → OfALine r
  unfolding reading
  reading_gives s p r range e =
      found_gives (place F.fields s p) (F.check n (F.at s p)) (F.at s p) _ r (gives (F.at s p)) (rw (range_ok n range) at e)

pub stimulus_gives : (n : ℕ) (s : List ℕ) (p : ℕ) (r : Refusal) → InRange n → as_stimulus (read_stimulus_of n s p) ≡ refused r → OfALine r
stimulus_gives n s p r range e = reading_gives stimulus n (inputs_give n) s p r range (sym (stimulus_reading n s p) ∙ e)

pub trace_gives : (n : ℕ) (s : List ℕ) (p : ℕ) (r : Refusal) → InRange n → as_trace (read_trace_of n s p) ≡ refused r → OfALine r
trace_gives n s p r range e = reading_gives trace n (line_gives n) s p r range (sym (trace_reading n s p) ∙ e)
