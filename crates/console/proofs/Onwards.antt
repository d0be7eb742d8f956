-- Where a program goes on.
--
--   again     == a buffer of the same size serves for the next block
--   fits      == what was read has room for what its lines come to
--   lines_cut == whole lines of what was read, and the rest
--   went      == a read, of which some bytes are taken and the rest is kept: the program went on, or it ends
--   last_closes == the last read: what is kept comes to an end
--   onward, closed == what is known of a turn
--   nearer    == one that went on has fewer lines to come, or keeps more bytes
use Rattle.std.specs.Prelude.{Result, None, Some, Err, Ok}
use Prim.Native.Nat.{ℕ, zero, suc, ◌+◌, ◌*◌, ◌-◌, ◌/◌, ◌%◌, ◌≤◌, ◌<◌}
use mathlib.Core.Path.{◌≡◌, refl, sym, ◌∙◌, ap}
use mathlib.Core.List.{List, [], ◌∷◌, ◌++◌}
use native.Mathlib.Nat.{le_trans, div-mul-le_self, le-div_iff_mul-le, mul-le-mul_right, mod-lt, div-add-mod', add-mul}
use native.Mathlib.Omega.{arith}
use lib.ListN.{length, take, drop, length-take, length-drop, length-append, take-append-drop}
use lib.Seq.{length-take-le}
use Rattle.rules.specs.Codes.{most_cycles}
use Rattle.formats.specs.Results.{HeaderRead}
use Rattle.streams.specs.Streams.{Turn, stretch}
use Rattle.streams.specs.Blocks.{room_for}
use Rattle.streams.proofs.Counted.{used}
use Rattle.console.specs.declared.Ending.{Ending}
use Rattle.console.specs.Fed.{Fill}
use Rattle.console.specs.Going.{Lines, Onward, Lent}
use Rattle.console.specs.Ends.{EndsAfter}
use Rattle.console.specs.Programs.{CutAt, Taken, Laws}
use Rattle.console.specs.Ran.{Closes, ended, stopped, Turned, further, closes}
use Rattle.console.proofs.Ends.{met_on, met_came}

pub again : {w most block out block' : ℕ} → Lent w most block out → block' ≡ block → Lent w most block' out
again lent e = rw e lent

module _ (n : ℕ) (buffer : List ℕ) where
  part : length (take n buffer) ≤ length buffer
  part = omega (arith, length-take n buffer)

  pub fits : (w most out : ℕ) → 1 ≤ w → Lent w most (length buffer) out → room_for w most (take n buffer) ≤ out
  unfolding room_for
  fits w most out pos lent =
      let lines : length (take n buffer) / w ≤ length buffer / w =
      (le-div_iff_mul-le pos).1 (le_trans (div-mul-le_self (length (take n buffer)) w) part) in
      le_trans (mul-le-mul_right most (omega arith)) lent.room

-- taking fewer of what is taken
take_fewer : (k n : ℕ) (l : List ℕ) → k ≤ n → take k (take n l) ≡ take k l
take_fewer zero n l h = refl
take_fewer (suc k) zero l h = absurd (omega arith)
take_fewer (suc k) (suc n) [] h = refl
take_fewer (suc k) (suc n) (x ∷ l) h = ap (λ (r : List ℕ). x ∷ r) (take_fewer k n l (omega arith))

-- the whole lines, and the rest
pub lines_cut : (w : ℕ) (s : List ℕ) → 1 ≤ w → CutAt (Lines w) s (length s - length s % w)
lines_cut w s pos =
    let n = length s in
    let below : length s % w < w = mod-lt (length s) pos in
    let whole : length s / w * w + length s % w ≡ length s = div-add-mod' (length s) w in
    record {
      inside = omega arith;
      parted =
          record {
            whole = record { lines = length s / w; size = length-take-le (length s - length s % w) s (omega arith) ∙ omega arith };
            less = omega (arith, length-drop (length s - length s % w) s);
          };
    }

module _ {S : Type 0} (breaches : S → ℕ) (turn : S → List ℕ → Turn S) (Cut : List ℕ → List ℕ → Type 0) (s : S) (k : ℕ) (old full new : List ℕ) where
  -- what was kept and read: of n bytes the first r are taken, and the rest
  module _ (n r : ℕ) (inside : r ≤ n) (fill : Fill (Ok (Some n)) k old full) where
    parts : take k old ++ drop k (take n full) ≡ take r full ++ drop r (take n full)
    parts =
        ap (λ (l : List ℕ). l ++ drop k (take n full)) (sym fill.kept ∙ sym (take_fewer k n full (omega (arith, fill.grows n refl))))
        ∙ take-append-drop k (take n full)
        ∙ sym (take-append-drop r (take n full))
        ∙ ap (λ (l : List ℕ). l ++ drop r (take n full)) (take_fewer r n full inside)

    some : 1 ≤ length (drop k (take n full))
    some = omega (arith, length-drop k (take n full), length-take-le n full fill.fits, fill.grows n refl)

  pub went : (n : ℕ) (e : Result (S × ℕ) Ending) → Fill (Ok (Some n)) k old full → Taken turn Cut s n full new e → Turned breaches turn Cut s (take k old) new e
  went n (Ok (t, k')) fill h =
      let o = met_on _ t h.left.0 in
      let rest : take k' new ≡ drop h.r (take n full) = h.left.2 in
      further
      (record {
        read = drop k (take n full);
        some = some n h.r h.inside fill;
        lines = take h.r full;
        all = parts n h.r h.inside fill ∙ ap (λ (l : List ℕ). take h.r full ++ l) (sym rest);
        cut = rw rest h.parted;
        bytes = o.0;
        taken = o.1;
      })
  went n (Err e) fill h =
      closes (stopped (drop k (take n full)) (take h.r full) (drop h.r (take n full)) (some n h.r h.inside fill) (parts n h.r h.inside fill) h.parted (met_came breaches _ e h.left))

  -- the last bytes
  pub last_closes : (e : Ending) → Fill (Ok None) k old full → EndsAfter breaches (stretch turn (length (take k full)) s (take k full)) e
      → Turned breaches turn Cut s (take k old) new (Err e)
  last_closes e fill h = closes (ended (rw fill.kept at h))

-- what is known of a turn
module _ {S : Type 0} {breaches : S → ℕ} {turn : S → List ℕ → Turn S} {Cut : List ℕ → List ℕ → Type 0} {s : S} {old new : List ℕ} where
  pub onward : {t : S} {k : ℕ} → Turned breaches turn Cut s old new (Ok (t, k)) → Onward turn Cut s old t (take k new)
  onward (further o) = o

  pub closed : {e : Ending} → Turned breaches turn Cut s old new (Err e) → Closes breaches turn Cut s old e
  closed (closes c) = c

-- fewer lines to come, or as many and more bytes kept
fewer : (a b c d w : ℕ) → b < a → d < w → b * w + d < a * w + c
fewer a b c d w h g = omega (arith, mul-le-mul_right w h, add-mul b 1 w)

closer : (x c d : ℕ) → d < c → x + d < x + c
closer x c d h = omega arith

-- a turn that has taken so many lines
less : (lines count most taken read k k' rest : ℕ) → count + lines ≤ most_cycles → taken ≤ lines * most → 1 ≤ read → k + read ≡ taken + k' → k' ≤ rest
    → (most_cycles - (count + lines)) * (rest + 1) + (rest - k') < (most_cycles - count) * (rest + 1) + (rest - k)
less zero count most taken read k k' rest few none some all h =
    let same : count + 0 ≡ count = omega arith in
    rw same (closer ((most_cycles - count) * (rest + 1)) (rest - k) (rest - k') (omega arith))
less (suc lines) count most taken read k k' rest few none some all h =
    fewer (most_cycles - count) (most_cycles - (count + suc lines)) (rest - k) (rest - k') (rest + 1) (omega arith) (omega arith)

module _ {S : Type 0} {turn : S → List ℕ → Turn S} {formed : S → Type 0} {count : S → ℕ} {header : List ℕ → HeaderRead} {begin : ℕ → S} {Cut : List ℕ → List ℕ → Type 0}
    {rest least : ℕ} (L : Laws turn formed count header begin Cut rest least) where
  -- of k bytes that were kept in a buffer, and k' after
  pub nearer : {breaches : S → ℕ} (s t : S) (k k' : ℕ) (old new : List ℕ) → rest < length old → rest < length new → k ≤ rest → formed s
      → Turned breaches turn Cut s (take k old) new (Ok (t, k'))
      → formed t × (k' ≤ rest) × ((most_cycles - count t) * (rest + 1) + (rest - k') < (most_cycles - count s) * (rest + 1) + (rest - k))
  nearer s t k k' old new h h' below f turned =
      let o = onward turned in
      let u = used turn L.steps count L.counts (length o.lines) s t o.lines o.bytes (omega arith) o.taken in
      let all : length (take k old) + length o.read ≡ length o.lines + length (take k' new) =
      sym (length-append (take k old) o.read) ∙ ap length o.all ∙ length-append o.lines (take k' new) in
      let few : k' ≤ rest = omega (arith, L.rests _ _ o.cut, length-take k' new) in
      let size : length (take k old) ≡ k = length-take-le k old (omega arith) in
      let size' : length (take k' new) ≡ k' = length-take-le k' new (omega arith) in
      let left =
      less u.lines (count s) L.longest (length o.lines) (length o.read) k k' rest (omega (arith, u.counted, u.room (L.bounded s f))) u.at_most o.some (omega arith) few in
      (rw o.taken at (L.stays s o.lines f), few, rw u.counted left)
