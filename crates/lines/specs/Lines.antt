-- Reading a line of any kind at a position: its fields, the columns that stand there, and the tests of them.
--
--   line_in q k a next == the answer by what there is at the position, and by what the tests found
--   read_of            == the answer of reading
use Rattle.std.specs.Prelude.{ℕ, ◌+◌, cond, List, Err, None, Ok, Some}
use Rattle.rules.specs.declared.Refusal.TheVariants.{Masters, Shape}
use Rattle.rules.specs.Results.{Check}
use Rattle.rules.specs.State.{masters_ok}
use Rattle.formats.specs.Results.{LineRead}
use Rattle.formats.specs.Fields.{Field, width}
use Rattle.formats.specs.Lines.{Place, beyond, at_end, cut, whole, place}

module _ {A : Type 0} where
  abbrev pub checked : Check → A → ℕ → LineRead A
  checked (Ok _) a next = Ok (Some (a, next))
  checked (Err r) a next = Err r

  abbrev pub line_in : Place → Check → A → ℕ → LineRead A
  line_in beyond k a next = Err Shape
  line_in at_end k a next = Ok None
  line_in cut k a next = Err Shape
  line_in whole k a next = checked k a next

  unfoldable pub read_of : List Field → (List ℕ → ℕ → A) → (ℕ → A → Check) → ℕ → List ℕ → ℕ → LineRead A
  read_of fs at tests n s p =
      cond (masters_ok n) (line_in (place fs s p) (tests n (at s p)) (at s p) (p + width fs)) (Err Masters)
