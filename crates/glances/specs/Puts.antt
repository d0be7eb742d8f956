-- What the arbiter's line is made of.
--
--   owner_bytes g m == the text of HGRANT with the single bit g and of HMASTER, with the tabs round them
--   outputs_bytes o == the text of the outputs, from the tab before them on
use Rattle.std.specs.Prelude.{ℕ, List, [], ◌∷◌, ◌++◌}
use Rattle.rules.specs.declared.Outputs.{Outputs}
use Rattle.rules.specs.Masks.{single}
use Rattle.formats.specs.Digits.{tab, hex}
use Rattle.formats.specs.Columns.{output_columns, output_values}
use Rattle.formats.specs.Fields.{fields, write}

abbrev pub owner_bytes : ℕ → ℕ → List ℕ
owner_bytes g m = tab ∷ hex 4 (single g) ++ (tab ∷ hex 1 m ++ (tab ∷ []))

abbrev pub outputs_bytes : Outputs → List ℕ
outputs_bytes o = tab ∷ write (fields output_columns) (output_values o)
