-- The separators of a line, tested in one row: the tests are grouped from the left, and the definition's from the right.
--
--   stimulus_row, trace_row == the two rows, over any test of a position and a byte
use Rattle.std.proofs.Common.{◌≡◌, ℕ, ◌+◌, Bool, true, false, ◌&&◌, List, [], ◌∷◌, refl, add_assoc}
use Rattle.formats.specs.Fields.{Field}
use Rattle.formats.specs.Lines.{stimulus_fields, trace_fields}

and_assoc : (a b c : Bool) → (a && b && c) ≡ (a && (b && c))
and_assoc true b c = refl
and_assoc false b c = refl

and_true : (b : Bool) → (b && true) ≡ b
and_true true = refl
and_true false = refl

-- the definition `parted`, over such a test
abbrev parted_by : (ℕ → ℕ → Bool) → List Field → ℕ → Bool
parted_by t [] p = true
parted_by t (f ∷ fs) p = t (p + f.digits) f.after && parted_by t fs (p + (f.digits + 1))

pub stimulus_row : (t : ℕ → ℕ → Bool) (p : ℕ)
    → (t (p + 4) 9 && t (p + 9) 9 && t (p + 11) 9 && t (p + 13) 9 && t (p + 15) 10) ≡ parted_by t stimulus_fields p
stimulus_row t p = simp (and_assoc, and_true, add_assoc)

pub trace_row : (t : ℕ → ℕ → Bool) (p : ℕ)
    → (t (p + 4) 9 && t (p + 9) 9 && t (p + 11) 9 && t (p + 13) 9 && t (p + 15) 9 && t (p + 20) 9
    && t (p + 22) 9 && t (p + 24) 9 && t (p + 26) 9 && t (p + 28) 9 && t (p + 30) 10)
    ≡ parted_by t trace_fields p
trace_row t p = simp (and_assoc, and_true, add_assoc)
