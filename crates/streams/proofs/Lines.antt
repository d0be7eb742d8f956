-- A program that goes by lines of one width: how it steps, and where its input may be cut.
--
--   stepping == it takes as many bytes as a line has
--   taken    == where it goes on, that is what it took
--   cutting  == its input may be cut after whole lines
--   all_cut  == whole blocks may be cut one after the other
use Prim.Native.Nat.{ℕ, zero, suc, ◌+◌, ◌*◌, ◌-◌, ◌≤◌, ◌<◌}
use mathlib.Core.Path.{◌≡◌, refl, ◌∙◌}
use mathlib.Core.Bool.{true, false≢true}
use mathlib.Core.List.{List, [], ◌∷◌}
use native.Mathlib.Omega.{arith}
use lib.ListN.{length, length-drop}
use Rattle.streams.specs.Streams.{Turn, goes, stops}
use Rattle.streams.specs.Turns.{goes_on, taken_by}
use Rattle.streams.specs.Blocks.{Whole, Stepping, Cutting, ByLines, AllCut, AllWhole}

-- one line less
one_less : (m w : ℕ) → m * w - w ≡ (m - 1) * w
one_less zero w = omega arith
one_less (suc m) w =
    let all : suc m * w ≡ m * w + w = omega arith in
    let less : suc m - 1 ≡ m = omega arith in
    rw less (omega arith)

module _ {S : Type 0} {w : ℕ} {turn : S → List ℕ → Turn S} (L : ByLines w turn) where
  pub stepping : Stepping w w turn
  stepping =
      record {
        some = L.some;
        last = L.last;
        next = λ s rest bytes t k e. let p = L.next s rest bytes t k e in (omega arith, omega arith, omega arith);
      }

  pub taken : (s : S) (rest : List ℕ) → goes_on (turn s rest) ≡ true → taken_by (turn s rest) ≡ w
  taken s rest = go (turn s rest) refl
    where
      go : (a : Turn S) → turn s rest ≡ a → goes_on a ≡ true → taken_by a ≡ w
      go (goes bytes t k) e on = (L.next s rest bytes t k e).0
      go (stops bytes) e on = absurd (false≢true on)

  pub cutting : Cutting turn (λ a b. Whole w a)
  cutting =
      record {
        near = λ s a b h some. L.near s a b (long a h some h.lines refl);
        rest = λ s a b bytes t k h e.
            let p = L.next s a bytes t k e in
            record { lines = h.lines - 1; size = length-drop k a ∙ rw (p.0, h.size) (one_less h.lines w) };
      }
    where
      long : (a : List ℕ) (h : Whole w a) → 0 < length a → (m : ℕ) → h.lines ≡ m → w ≤ length a
      long a h some zero e = let none : length a ≡ 0 * w = rw e at h.size in absurd (omega arith)
      long a h some (suc m) e = let all : length a ≡ suc m * w = rw e at h.size in omega arith

pub all_cut : (w : ℕ) (blocks : List (List ℕ)) (last : List ℕ) → AllWhole w blocks → AllCut (λ a b. Whole w a) blocks last
all_cut w [] last h = tt
all_cut w (a ∷ blocks) last h = (h.0, all_cut w blocks last h.1)
