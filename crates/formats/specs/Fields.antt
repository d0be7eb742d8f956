-- A line as a list of fields: each has some hex digits and the byte that stands after it.
--
--   fields cs     == the fields of a line of these columns: tabs part them, LF ends the line
--   width fs      == the bytes of such a line
--   write fs vs   == the bytes of the line with these values
--   parted fs s p == each separator stands in its place, from p on
--   values fs s p == the numbers that stand in the fields, from p on
use Rattle.std.specs.Prelude.{ℕ, ◌+◌, Bool, true, ◌&&◌, List, [], ◌∷◌, ◌++◌, eqb, get_or}
use Rattle.formats.specs.Digits.{tab, lf, hex, number_at}
use Rattle.formats.specs.Columns.{Column}

pub record Field : Type 0 where
  pub digits : ℕ
  pub after : ℕ

-- "Tabs part the fields; LF ends a line"
abbrev pub fields : List Column → List Field
fields [] = []
fields (c ∷ []) = record { digits = c.digits; after = lf } ∷ []
fields (c ∷ (d ∷ cs)) = record { digits = c.digits; after = tab } ∷ fields (d ∷ cs)

abbrev pub width : List Field → ℕ
width [] = 0
width (f ∷ fs) = f.digits + 1 + width fs

abbrev pub write : List Field → List ℕ → List ℕ
write [] vs = []
write (f ∷ fs) [] = []
write (f ∷ fs) (v ∷ vs) = hex f.digits v ++ (f.after ∷ write fs vs)

abbrev pub parted : List Field → List ℕ → ℕ → Bool
parted [] s p = true
parted (f ∷ fs) s p = eqb (get_or s (p + f.digits) 0) f.after && parted fs s (p + (f.digits + 1))

abbrev pub values : List Field → List ℕ → ℕ → List ℕ
values [] s p = []
values (f ∷ fs) s p = number_at f.digits s p ∷ values fs s (p + (f.digits + 1))
