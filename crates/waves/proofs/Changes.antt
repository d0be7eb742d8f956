-- The line of a value: what is written is placed and reads back, and what is placed and read writes back.
--
--   front x v     == the bytes of such a line before its code
--   change_parts  == the line is its front, the code and LF, before whatever follows it
--   change_is     == and so it is alone
--   change_length == it has the bytes that its variable says
--   front_plain, front_head == no byte of its front is LF, and the first is not `#`
--   line_size_lem == the first line of an input ends where its LF is
--   change_placed == a written line is placed
--   other_placed, none_placed == the line of another variable is not, nor is nothing
--   change_value  == its value reads back, where the width holds it
--   change_rest   == what stands after it
--   placed_change == a line that is placed, and whose characters are bits, writes back as the bytes that stood there
use Prim.Native.Nat.{ℕ, suc, ◌+◌, ◌-◌, ◌^◌, ◌≤◌, ◌<◌}
use mathlib.Core.Path.{◌≡◌, refl, sym, ◌∙◌, ap}
use mathlib.Core.Bool.{Bool, true, false, ◌&&◌, ◌||◌, cond}
use mathlib.Core.List.{List, [], ◌∷◌, ◌++◌, append_assoc, append-nil}
use native.Mathlib.Nat.{add-zero}
use native.Mathlib.Numerals.{add-one, add-two, add-three}
use native.Mathlib.Omega.{arith}
use borrow.Author.Tests.{eqb-true, eq-eqb, ne_eqb}
use lib.Dec.{eqb}
use lib.ListN.{length, get_or, take, drop, length-append, take-append-drop}
use lib.Seq.{drop-cons, drop_at, get_or_at, get_or-append-add}
use Rattle.rules.proofs.Choice.{either, and_left, and_right, and_both}
use Rattle.formats.specs.Digits.{lf}
use Rattle.formats.proofs.Bytes.{Not, each_append, present}
use Rattle.formats.proofs.Ends.{Plain}
use Rattle.waves.specs.Variables.{Variable, space, bits, change, size_of}
use Rattle.waves.specs.Steps.{hash}
use Rattle.waves.specs.Reading.{line_size, placed, value_in}
use Rattle.waves.proofs.Bits.{bits_length, bits_plain, bits_in_lem, bits_of}

-- the two kinds of line
abbrev is_one : Variable → Bool
is_one x = eqb x.width 1

unfoldable pub front : Variable → ℕ → List ℕ
front x v = cond (is_one x) (bits x.width v) (98 ∷ (bits x.width v ++ (space ∷ [])))

pub change_parts : (x : Variable) (v : ℕ) (r : List ℕ) → change x v ++ r ≡ front x v ++ (x.code ∷ (lf ∷ r))
unfolding change front
change_parts x v r =
    either (is_one x)
    (λ one. rw one (append_assoc (bits x.width v) (x.code ∷ (lf ∷ [])) r))
    (λ more. rw more (ap (λ l. 98 ∷ l) (simp append_assoc)))

pub change_is : (x : Variable) (v : ℕ) → change x v ≡ front x v ++ (x.code ∷ (lf ∷ []))
change_is x v = sym (append-nil (change x v)) ∙ change_parts x v []

front_length : (x : Variable) (v : ℕ) → length (front x v) + 2 ≡ size_of x
unfolding front size_of
front_length x v =
    either (is_one x)
    (λ one. rw (one, bits_length x.width v))
    (λ more. rw more (omega (arith, length-append (bits x.width v) (space ∷ []), bits_length x.width v)))

pub change_length : (x : Variable) (v : ℕ) → length (change x v) ≡ size_of x
change_length x v = ap length (change_is x v) ∙ length-append (front x v) (x.code ∷ (lf ∷ [])) ∙ front_length x v

pub front_plain : (x : Variable) (v : ℕ) → Plain (front x v)
unfolding front
front_plain x v =
    either (is_one x)
    (λ one. rw one (bits_plain x.width v))
    (λ more. rw more (λ e. omega arith, each_append (Not lf) (bits x.width v) (space ∷ []) (bits_plain x.width v) (λ e. omega arith, tt)))

pub front_head : (x : Variable) (v : ℕ) (r : List ℕ) → get_or (front x v ++ r) 0 0 ≡ hash → ⊥
unfolding front
front_head x v r =
    either (is_one x)
    (λ one. rw (one, eqb-true x.width 1 one) (λ e. omega arith))
    (λ more. rw more (λ e. omega arith))

pub line_size_lem : (l r : List ℕ) → Plain l → line_size (l ++ (lf ∷ r)) ≡ length l
unfolding line_size
line_size_lem [] r h = refl
line_size_lem (b ∷ l) r h = rw (ne_eqb b lf h.0, line_size_lem l r h.1)

-- a line that ends with the byte k before LF
module _ (l : List ℕ) (k : ℕ) (r : List ℕ) (plain : Plain l) (other : k ≡ lf → ⊥) where
  abbrev line : List ℕ
  line = l ++ (k ∷ (lf ∷ r))

  ends_size : line_size line ≡ length l + 1
  ends_size =
      ap line_size (sym (append_assoc l (k ∷ []) (lf ∷ r)))
      ∙ line_size_lem (l ++ (k ∷ [])) r (each_append (Not lf) l (k ∷ []) plain (other, tt))
      ∙ length-append l (k ∷ [])

  ends_lf : get_or line (line_size line) 0 ≡ lf
  ends_lf = rw ends_size (get_or-append-add l (k ∷ (lf ∷ r)) 1 0)

  ends_code : get_or line (line_size line - 1) 0 ≡ k
  ends_code = rw ends_size (get_or_at l k (lf ∷ r) 0 (length l + 1 - 1) (omega arith))

-- `b` stands first and a space before the code, where there are more bits than one
front_kind : (x : Variable) (v n : ℕ) (r : List ℕ) → n ≡ length (front x v) + 1
    → (is_one x || (eqb (get_or (front x v ++ r) 0 0) 98 && eqb (get_or (front x v ++ r) (n - 2) 0) space)) ≡ true
unfolding front
front_kind x v n r =
    either (is_one x)
    (λ one. rw one (λ e. refl))
    (λ more.
    rw more
    (λ e.
    let all : List ℕ = bits x.width v in
    rw (append_assoc all (space ∷ []) r)
    (eq-eqb _ _ (get_or_at (98 ∷ all) space r 0 (n - 2) (omega (arith, length-append all (space ∷ [])))))))

pub change_placed : (x : Variable) (v : ℕ) (r : List ℕ) → (x.code ≡ lf → ⊥) → placed x (change x v ++ r) ≡ true
unfolding placed
change_placed x v r other =
    let q : List ℕ = x.code ∷ (lf ∷ r) in
    let s : List ℕ = front x v ++ q in
    let plain : Plain (front x v) = front_plain x v in
    let size : line_size s ≡ length (front x v) + 1 = ends_size (front x v) x.code r plain other in
    let fits : line_size s + 1 ≡ size_of x = omega (arith, front_length x v) in
    rw (change_parts x v r)
    (and_both
    (and_both
    (and_both (eq-eqb (line_size s + 1) (size_of x) fits) (eq-eqb _ _ (ends_lf (front x v) x.code r plain other)))
    (eq-eqb _ _ (ends_code (front x v) x.code r plain other)))
    (front_kind x v (line_size s) q size))

-- what it says
record Placed (x : Variable) (s : List ℕ) : Type 0 where
  size : line_size s + 1 ≡ size_of x
  last : get_or s (line_size s) 0 ≡ lf
  code : get_or s (line_size s - 1) 0 ≡ x.code
  kind : (is_one x || (eqb (get_or s 0 0) 98 && eqb (get_or s (line_size s - 2) 0) space)) ≡ true

placed_is : (x : Variable) (s : List ℕ) → placed x s ≡ true → Placed x s
unfolding placed
placed_is x s e = search (and_left, and_right, eqb-true) depth 9

not_placed : (x : Variable) (s : List ℕ) → (Placed x s → ⊥) → placed x s ≡ false
not_placed x s none = either (placed x s) (λ e. absurd (none (placed_is x s e))) (λ e. e)

pub none_placed : (x : Variable) → placed x [] ≡ false
none_placed x = not_placed x [] (λ p. omega (arith, p.last))

pub other_placed : (x y : Variable) (v : ℕ) (r : List ℕ) → (y.code ≡ lf → ⊥) → (y.code ≡ x.code → ⊥) → placed x (change y v ++ r) ≡ false
other_placed x y v r plain other =
    rw (change_parts y v r)
    (not_placed x _ (λ p. other (sym (ends_code (front y v) y.code r (front_plain y v) plain) ∙ p.code)))

pub change_value : (x : Variable) (v : ℕ) (r : List ℕ) → v < 2 ^ x.width → value_in x (change x v ++ r) ≡ v
unfolding change value_in
change_value x v r h =
    either (is_one x)
    (λ one. rw (one, append_assoc (bits x.width v) (x.code ∷ (lf ∷ [])) r) (bits_in_lem x.width v _ h))
    (λ more. rw (more, append_assoc (bits x.width v) (space ∷ (x.code ∷ (lf ∷ []))) r) (bits_in_lem x.width v _ h))

pub change_rest : (x : Variable) (v : ℕ) (r : List ℕ) → drop (size_of x) (change x v ++ r) ≡ r
change_rest x v r = drop_at (change x v) r (size_of x) (change_length x v)

-- the bytes l stand in s from w on
abbrev Stands : List ℕ → List ℕ → ℕ → Type 0
Stands [] s w = Unit
Stands (b ∷ l) s w = (get_or s w 0 ≡ b) × Stands l s (suc w)

drop_run : (l s : List ℕ) (w : ℕ) → w + length l ≤ length s → Stands l s w → drop w s ≡ l ++ drop (w + length l) s
drop_run [] s w inside h = rw (add-zero w)
drop_run (b ∷ l) s w inside h =
    let next : suc w + length l ≡ w + suc (length l) = omega arith in
    rw (drop-cons s w 0 (omega arith), h.0, drop_run l s (suc w) (omega arith) h.1, next)

-- w bytes, those after them, and the rest
run_after : (l s : List ℕ) (w : ℕ) → w + length l ≤ length s → Stands l s w → (take w s ++ l) ++ drop (w + length l) s ≡ s
run_after l s w inside h =
    append_assoc (take w s) l (drop (w + length l) s) ∙ rw (← drop_run l s w inside h) (take-append-drop w s)

-- the bytes of the two kinds of line, where they stand
scalar_line : (w k : ℕ) (s : List ℕ) → get_or s w 0 ≡ k → get_or s (w + 1) 0 ≡ lf
    → (take w s ++ (k ∷ (lf ∷ []))) ++ drop (w + 2) s ≡ s
scalar_line w k s code last =
    let inside : w + 1 < length s = present s (w + 1) (omega arith) in
    run_after (k ∷ (lf ∷ [])) s w (omega arith) (code, (rw add-one at last, tt))

vector_line : (w k : ℕ) (s : List ℕ) → get_or s 0 0 ≡ 98 → get_or s (w + 1) 0 ≡ space → get_or s (w + 2) 0 ≡ k → get_or s (w + 3) 0 ≡ lf
    → (98 ∷ (take w (drop 1 s) ++ (space ∷ (k ∷ (lf ∷ []))))) ++ drop (w + 4) s ≡ s
vector_line w k [] first after code last = absurd (omega arith)
vector_line w k (b ∷ s) first after code last =
    let inside : w + 3 < length (b ∷ s) = present (b ∷ s) (w + 3) (omega arith) in
    let more : w + 4 ≡ suc (w + 3) = omega arith in
    rw (more, first)
    (ap (λ l. 98 ∷ l)
    (run_after (space ∷ (k ∷ (lf ∷ []))) s w (omega arith) (rw add-one at after, (rw add-two at code, (rw add-three at last, tt)))))

module _ (x : Variable) (s : List ℕ) (p : Placed x s) where
  scalar_back : is_one x ≡ true → value_in x s < 2 ^ x.width → change x (value_in x s) ++ drop (size_of x) s ≡ s
  unfolding change size_of value_in
  scalar_back one =
      let w : ℕ = x.width in
      let size : line_size s ≡ w + 1 = let z : line_size s + 1 ≡ w + 2 = rw one at p.size in omega arith in
      let last : get_or s (w + 1) 0 ≡ lf = rw size at p.last in
      let code : get_or s w 0 ≡ x.code = ap (λ i. get_or s i 0) (omega arith) ∙ p.code in
      rw one (λ h. rw (bits_of w s h) (scalar_line w x.code s code last))

  vector_back : is_one x ≡ false → value_in x s < 2 ^ x.width → change x (value_in x s) ++ drop (size_of x) s ≡ s
  unfolding change size_of value_in
  vector_back more =
      let w : ℕ = x.width in
      let size : line_size s ≡ w + 3 = let z : line_size s + 1 ≡ w + 4 = rw more at p.size in omega arith in
      let last : get_or s (w + 3) 0 ≡ lf = rw size at p.last in
      let code : get_or s (w + 2) 0 ≡ x.code = ap (λ i. get_or s i 0) (omega arith) ∙ p.code in
      let kind : (eqb (get_or s 0 0) 98 && eqb (get_or s (line_size s - 2) 0) space) ≡ true = rw more at p.kind in
      let first : get_or s 0 0 ≡ 98 = eqb-true _ _ (and_left (eqb (get_or s 0 0) 98) (eqb (get_or s (line_size s - 2) 0) space) kind) in
      let after : get_or s (w + 1) 0 ≡ space =
      ap (λ i. get_or s i 0) (omega arith) ∙ eqb-true _ _ (and_right (eqb (get_or s 0 0) 98) (eqb (get_or s (line_size s - 2) 0) space) kind) in
      rw more (λ h. rw (bits_of w (drop 1 s) h) (vector_line w x.code s first after code last))

pub placed_change : (x : Variable) (s : List ℕ) → placed x s ≡ true → value_in x s < 2 ^ x.width
    → change x (value_in x s) ++ drop (size_of x) s ≡ s
placed_change x s e h =
    either (is_one x)
    (λ one. scalar_back x s (placed_is x s e) one h)
    (λ more. vector_back x s (placed_is x s e) more h)
