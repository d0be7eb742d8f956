-- The answers of the calls of the programs: 9, 10, or what was taken.
--
--   progress_taken, progress_on, progress_kept == of a stretch that was taken: its number, that it goes on, and where it ends
--   few_lines, many_lines == the test of the lent buffer, by the lines that it has room for
--   short, unformed, taken == the three ends of a call
use Prim.Native.Nat.{ℕ, ◌+◌, ◌/◌, ◌≤◌, ◌<◌}
use mathlib.Core.Path.{◌≡◌, refl}
use mathlib.Core.Bool.{Bool, true, false}
use mathlib.Core.List.{List}
use native.Mathlib.Omega.{arith}
use native.Mathlib.Nat.{div-lt_iff_lt-mul, le-div_iff_mul-le}
use borrow.Author.Tests.{lt-ltb, le-ltb}
use lib.ListN.{length}
use Rattle.streams.specs.declared.Flow.TheVariants.{GoesOn, Short, Unformed}
use Rattle.streams.specs.Streams.{Stretch, on, done}
use Rattle.streams.specs.Blocks.{progress_of, progress_in, room_for, bytes_of, left_by, flow_answer}
use Rattle.streams.specs.Stays.{kept}
use Rattle.streams.specs.Turns.{over}
use Rattle.streams.specs.declared.Progress.{Progress}

pub progress_taken : {S : Type 0} (t : Stretch S) → flow_answer (progress_of t).flow ≡ 0
progress_taken (on bytes s) = refl
progress_taken (done bytes s) = refl

pub progress_on : {S : Type 0} (t : Stretch S) → (progress_of t).flow ≡ GoesOn → (bytes : List ℕ) × (t ≡ on bytes (progress_of t).kept)
progress_on (on bytes s) e = (bytes, refl)
progress_on (done bytes s) e = let z : ◌≡◌ {A = ℕ} 0 1 = cc in absurd (omega arith)

pub progress_kept : {S : Type 0} (t : Stretch S) → (progress_of t).kept ≡ kept t
progress_kept (on bytes s) = refl
progress_kept (done bytes s) = refl

module _ (width most : ℕ) (some : 1 ≤ most) (block out : List ℕ) where
  pub few_lines : length out / most < length block / width + 1 → length out < room_for width most block
  unfolding room_for
  few_lines h = (div-lt_iff_lt-mul some).0 h

  pub many_lines : length block / width + 1 ≤ length out / most → room_for width most block ≤ length out
  unfolding room_for
  many_lines h = (le-div_iff_mul-le some).0 h

module _ {S : Type 0} (needed : ℕ) (formed : Bool) (s : S) (t : Stretch S) (buffer : List ℕ) where
  pub short : length buffer < needed
      → (record { written = 0; flow = Short; kept = s } ≡ progress_in (length buffer) needed formed s t) × (buffer ≡ left_by needed formed t buffer)
  short h = let e = lt-ltb (length buffer) needed h in (rw e, rw e)

  pub unformed : needed ≤ length buffer → formed ≡ false
      → (record { written = 0; flow = Unformed; kept = s } ≡ progress_in (length buffer) needed formed s t) × (buffer ≡ left_by needed formed t buffer)
  unformed h f = let e = le-ltb (length buffer) needed h in (rw (e, f), rw (e, f))

  pub taken : needed ≤ length buffer → formed ≡ true → (r : Progress S) (left : List ℕ)
      → (r ≡ progress_of t) × (left ≡ over (bytes_of t) buffer)
      → (r ≡ progress_in (length buffer) needed formed s t) × (left ≡ left_by needed formed t buffer)
  taken h f r left k = let e = le-ltb (length buffer) needed h in (rw (e, f) k.0, rw (e, f) k.1)
