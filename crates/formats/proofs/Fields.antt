-- Lines as lists of fields, over any list of fields: what is written reads back, and what is read writes back.
--
--   Fits fs vs   == there is a value for each field, and it has no more than the field's digits
--   write_length == a line with a value for each field has its width
--   values_write == the values of a written line are those that were written
--   parted_write == each separator of a written line stands in its place
--   write_values == a parted line whose values fit writes back as the bytes that stood there
--   unread_unfit == where a character is no hex digit, the values do not fit
use Prim.Native.Nat.{ℕ, ◌+◌, ◌^◌, ◌≤◌, ◌<◌}
use mathlib.Core.Path.{◌≡◌, refl, ◌∙◌}
use mathlib.Core.Logic.{inl, inr}
use mathlib.Core.Bool.{Bool, true}
use mathlib.Core.List.{List, [], ◌∷◌, ◌++◌, append_assoc}
use native.Mathlib.Nat.{suc_inj}
use native.Mathlib.Numerals.{add-one}
use native.Mathlib.Omega.{arith}
use borrow.Author.Tests.{eq-eqb, eqb-true}
use lib.Dec.{eqb}
use lib.ListN.{length, get_or, take, drop, length-append, length-drop}
use lib.Seq.{get_or-append-add, get_or_at, take-suc, get_or-drop, drop-drop, take-add}
use Rattle.rules.proofs.Choice.{and_left, and_right}
use Rattle.formats.specs.Digits.{hex, number_at}
use Rattle.formats.specs.Fields.{Field, width, write, parted, values}
use Rattle.formats.specs.Promises.{Unread}
use Rattle.formats.proofs.Hex.{no_digit_top, hex_length, number_of_hex, hex_of_number}

abbrev pub Fits : List Field → List ℕ → Type 0
Fits [] [] = Unit
Fits [] (v ∷ vs) = ⊥
Fits (f ∷ fs) [] = ⊥
Fits (f ∷ fs) (v ∷ vs) = (v < 16 ^ f.digits) × Fits fs vs

pub write_length : (fs : List Field) (vs : List ℕ) → length vs ≡ length fs → length (write fs vs) ≡ width fs
write_length [] vs h = refl
write_length (f ∷ fs) [] h = absurd (omega arith)
write_length (f ∷ fs) (v ∷ vs) h =
    length-append (hex f.digits v) (f.after ∷ write fs vs)
    ∙ rw (hex_length f.digits v, write_length fs vs (suc_inj h)) (omega arith)

-- a written line inside an input, taken apart after its first field
module _ (f : Field) (fs : List Field) (v : ℕ) (vs pre post : List ℕ) where
  line : List ℕ
  line = pre ++ (write (f ∷ fs) (v ∷ vs) ++ post)

  passed : List ℕ
  passed = pre ++ (hex f.digits v ++ (f.after ∷ []))

  after_field : line ≡ passed ++ (write fs vs ++ post)
  unfolding line passed
  after_field = simp append_assoc

  passed_length : length passed ≡ length pre + (f.digits + 1)
  unfolding passed
  passed_length = simp (length-append, hex_length)

  at_field : line ≡ pre ++ (hex f.digits v ++ (f.after ∷ (write fs vs ++ post)))
  unfolding line
  at_field = simp append_assoc

  separator : get_or line (length pre + f.digits) 0 ≡ f.after
  separator =
      rw at_field
      (get_or-append-add pre (hex f.digits v ++ (f.after ∷ (write fs vs ++ post))) f.digits 0
      ∙ get_or_at (hex f.digits v) f.after (write fs vs ++ post) 0 f.digits (hex_length f.digits v))

pub values_write : (fs : List Field) (vs pre post : List ℕ) → Fits fs vs → values fs (pre ++ (write fs vs ++ post)) (length pre) ≡ vs
unfolding line passed
values_write [] [] pre post h = refl
values_write [] (v ∷ vs) pre post h = absurd h
values_write (f ∷ fs) [] pre post h = absurd h
values_write (f ∷ fs) (v ∷ vs) pre post h =
    let first : number_at f.digits (line f fs v vs pre post) (length pre) ≡ v =
    rw (at_field f fs v vs pre post) (number_of_hex f.digits v pre _ h.0) in
    let rest : values fs (line f fs v vs pre post) (length pre + (f.digits + 1)) ≡ vs =
    rw (after_field f fs v vs pre post, ← passed_length f fs v vs pre post)
    (values_write fs vs (passed f fs v vs pre post) post h.1) in
    cc

pub parted_write : (fs : List Field) (vs pre post : List ℕ) → Fits fs vs → parted fs (pre ++ (write fs vs ++ post)) (length pre) ≡ true
unfolding line passed
parted_write [] [] pre post h = refl
parted_write [] (v ∷ vs) pre post h = absurd h
parted_write (f ∷ fs) [] pre post h = absurd h
parted_write (f ∷ fs) (v ∷ vs) pre post h =
    let rest : parted fs (line f fs v vs pre post) (length pre + (f.digits + 1)) ≡ true =
    rw (after_field f fs v vs pre post, ← passed_length f fs v vs pre post)
    (parted_write fs vs (passed f fs v vs pre post) post h.1) in
    rw (eq-eqb _ _ (separator f fs v vs pre post)) rest

pub write_values : (fs : List Field) (s : List ℕ) (p : ℕ) → parted fs s p ≡ true → Fits fs (values fs s p) → p + width fs ≤ length s
    → write fs (values fs s p) ≡ take (width fs) (drop p s)
write_values [] s p e h l = refl
write_values (f ∷ fs) s p e h l =
    let here : Bool = eqb (get_or s (p + f.digits) 0) f.after in
    let later : Bool = parted fs s (p + (f.digits + 1)) in
    let rest : write fs (values fs s (p + (f.digits + 1))) ≡ take (width fs) (drop (p + (f.digits + 1)) s) =
    write_values fs s (p + (f.digits + 1)) (and_right here later e) h.1 (omega arith) in
    let sep : get_or s (p + f.digits) 0 ≡ f.after = eqb-true _ _ (and_left here later e) in
    let inside : f.digits < length (drop p s) = simp length-drop (omega arith) in
    rw (
      hex_of_number f.digits s p (omega arith) h.0,
      rest,
      take-add (f.digits + 1) (width fs) (drop p s),
      drop-drop (f.digits + 1) p s,
      add-one f.digits,
      take-suc (drop p s) f.digits 0 inside,
      get_or-drop p s f.digits 0,
      sep,
      append_assoc,
    )

pub unread_unfit : (fs : List Field) (s : List ℕ) (p : ℕ) → Unread fs s p → Fits fs (values fs s p) → ⊥
unread_unfit [] s p u h = u
unread_unfit (f ∷ fs) s p (inl b) h = omega (arith, no_digit_top f.digits s p b)
unread_unfit (f ∷ fs) s p (inr u) h = unread_unfit fs s (p + (f.digits + 1)) u h.1
