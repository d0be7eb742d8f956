-- The ends of the writers.
--
--   around_short, around_written == a text, a number, a space and a text
--   header_refused, header_given == the header of a dump: its test refused, or it did not
--   start_inside, start_of, start_size == the step that was put at the start of a longer list
--   step_short, step_copied == its copy, where there is room
--   step_refused, step_given == a step: its tests refused, or they did not
--   step_timely        == where they did not, the time is one of a cycle
use Rattle.std.specs.Prelude.{Err, Ok}
use Prim.Native.Nat.{ℕ, ◌+◌, ◌≤◌, ◌<◌}
use mathlib.Core.Path.{◌≡◌, refl, sym, ap, ◌∙◌}
use mathlib.Core.Bool.{Bool, true, false, cond}
use mathlib.Core.List.{List, [], ◌∷◌, ◌++◌, append_assoc}
use native.Mathlib.Omega.{arith}
use native.Mathlib.Nat.{add-zero}
use borrow.Author.Tests.{le-leb}
use lib.ListN.{length, take, length-append}
use lib.Seq.{sets, take-append_seam}
use Rattle.rules.specs.declared.Refusal.{Refusal}
use Rattle.rules.specs.declared.Refusal.TheVariants.{Masters, Full, Short}
use Rattle.rules.specs.Results.{Check}
use Rattle.rules.specs.declared.Cycle.{Cycle}
use Rattle.rules.specs.Codes.{most_cycles}
use Rattle.rules.specs.State.{masters_ok}
use Rattle.rules.specs.Valid.{cycle_check}
use Rattle.rules.proofs.Choice.{order}
use Rattle.formats.specs.Results.{Written}
use Rattle.formats.specs.Digits.{decimal}
use Rattle.formats.specs.Lines.{for_masters}
use Rattle.formats.specs.Report.{write_of, written_of}
use Rattle.waves.specs.Header.{dump_header, write_dump_header_of, dump_header_written}
use Rattle.waves.specs.Steps.{dump_step, in_time, write_step_of, step_written}
use Rattle.fields.proofs.Stores.{then_sets}
use Rattle.fields.proofs.Writers.{write_refused, write_short, write_whole}
use Rattle.glances.proofs.Tails.{rest, with_tail, put_on}

-- a writer of these bytes ends with the answer r and the buffer out
abbrev Ends : List ℕ → List ℕ → Written → List ℕ → Type 0
Ends line buf r out = (r ≡ write_of line (length buf)) × (out ≡ written_of line buf)

module _ (first : List ℕ) (n : ℕ) (last buf : List ℕ) (k : ℕ) (digits : k ≡ length (decimal n)) where
  abbrev around : List ℕ
  around = first ++ (decimal n ++ (32 ∷ last))

  around_size : length first + k + 1 + length last ≡ length around
  around_size = simp length-append (omega arith)

  pub around_short : length buf < length first + k + 1 + length last → Ends around buf (Err Short) buf
  around_short h = write_short (Ok tt) (Ok tt) refl around buf _ refl around_size h

  pub around_written : (m q t : List ℕ) (at : ℕ) → length first + k + 1 + length last ≤ length buf
      → m ≡ sets buf 0 first
      → at ≡ length first + length (decimal n) + 1
      → q ≡ sets m (length first) (decimal n ++ (32 ∷ []))
      → t ≡ sets (rest at q) 0 last
      → Ends around buf (Ok (length first + k + 1 + length last)) (with_tail at q t)
  around_written m q t at h f p g w =
      let two : q ≡ sets buf 0 (first ++ (decimal n ++ (32 ∷ []))) =
      then_sets buf m q 0 (length first) first (decimal n ++ (32 ∷ [])) f (sym (add-zero (length first))) g in
      write_whole (Ok tt) (Ok tt) refl around buf _ _ refl around_size h
      (simp append_assoc at (put_on at buf q t (first ++ (decimal n ++ (32 ∷ []))) last two (simp length-append (omega arith)) (omega arith) w))

module _ (n : ℕ) (buf : List ℕ) (d : Check) (tested : d ≡ for_masters n (Ok tt)) where
  pub header_refused : (r : Refusal) → d ≡ Err r → (Err r ≡ write_dump_header_of n (length buf)) × (buf ≡ dump_header_written n buf)
  unfolding write_dump_header_of dump_header_written
  header_refused r told = write_refused (for_masters n (Ok tt)) d tested (dump_header n) buf r told

  pub header_given : (r : Written) (out : List ℕ) → d ≡ Ok tt → Ends (dump_header n) buf r out
      → (r ≡ write_dump_header_of n (length buf)) × (out ≡ dump_header_written n buf)
  unfolding write_dump_header_of dump_header_written
  header_given r out told w = let good : for_masters n (Ok tt) ≡ (Ok tt) = sym tested ∙ told in rw good w

module _ (buf : List ℕ) (t : ℕ) (prev c : Cycle) (r : ℕ) (size : r ≡ length (dump_step prev t c)) where
  pub step_short : length buf < r → Ends (dump_step prev t c) buf (Err Short) buf
  step_short h = write_short (Ok tt) (Ok tt) refl (dump_step prev t c) buf r refl size h

  module _ (rest out : List ℕ) (put : out ≡ dump_step prev t c ++ rest) where
    pub start_inside : r ≤ length out
    start_inside = omega (arith, ap length put, length-append (dump_step prev t c) rest)

    pub start_of : take r out ≡ dump_step prev t c
    start_of = rw (put, size) (take-append_seam (dump_step prev t c) rest)

    pub start_size : r ≡ length (take r out)
    start_size = size ∙ sym (ap length start_of)

    pub step_copied : (copy : List ℕ) → r ≤ length buf → copy ≡ sets buf 0 (take r out) → Ends (dump_step prev t c) buf (Ok r) copy
    step_copied copy h w = write_whole (Ok tt) (Ok tt) refl (dump_step prev t c) buf r copy refl size h (w ∙ ap (sets buf 0) start_of)

-- the test of the time is passed only in time
timely : (t : ℕ) (k : Check) → in_time t k ≡ Ok tt → t < most_cycles
timely t k e = order most_cycles t (λ late. absurd (none (rw (le-leb most_cycles t late) at e))) (λ early. early)
  where
    none : ◌≡◌ {A = Check} (Err Full) (Ok tt) → ⊥
    none q = let z : ◌≡◌ {A = ℕ} 0 1 = cc in omega arith

masters_first : (n : ℕ) (k : Check) → for_masters n k ≡ Ok tt → k ≡ Ok tt
masters_first n k e = go (masters_ok n) e
  where
    go : (b : Bool) → cond b k (Err Masters) ≡ Ok tt → k ≡ Ok tt
    go true q = q
    go false q = cc

-- d is what all tests of a step found
module _ (n : ℕ) (t : ℕ) (prev c : Cycle) (buf : List ℕ) (k m d : Check)
    (cycle : k ≡ cycle_check n c)
    (time : m ≡ in_time t k)
    (first : d ≡ for_masters n m)
  where
    all_tests : d ≡ for_masters n (in_time t (cycle_check n c))
    all_tests = first ∙ rw (time, cycle)

    pub step_refused : (r : Refusal) → d ≡ Err r → (Err r ≡ write_step_of n t prev c (length buf)) × (buf ≡ step_written n t prev c buf)
    unfolding write_step_of step_written
    step_refused r told = write_refused _ d all_tests (dump_step prev t c) buf r told

    module _ (told : d ≡ Ok tt) where
      pub step_timely : t < most_cycles
      step_timely = timely t k (sym time ∙ masters_first n m (sym first ∙ told))

      pub step_given : (r : Written) (out : List ℕ) → Ends (dump_step prev t c) buf r out
          → (r ≡ write_step_of n t prev c (length buf)) × (out ≡ step_written n t prev c buf)
      unfolding write_step_of step_written
      step_given r out w = let good : for_masters n (in_time t (cycle_check n c)) ≡ (Ok tt) = sym all_tests ∙ told in rw good w
