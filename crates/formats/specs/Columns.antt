-- The eleven columns, in one place: their names, their hex digits in a line, and the bits of the signal.
--
--   input_columns, output_columns == the columns of a stimulus line, and those that a trace line adds
--   input_values x, output_values o, cycle_values c == the values of the columns, in their order
use Rattle.std.specs.Prelude.{ℕ, List, [], ◌∷◌, ◌++◌}
use Prim.Native.String.{String}
use Rattle.rules.specs.declared.Inputs.{Inputs}
use Rattle.rules.specs.declared.Outputs.{Outputs}
use Rattle.rules.specs.declared.Cycle.{Cycle}

pub record Column : Type 0 where
  pub name : String
  pub digits : ℕ
  pub bits : ℕ

abbrev column : String → ℕ → ℕ → Column
column name digits bits = record { name = name; digits = digits; bits = bits }

-- "A stimulus line has HBUSREQ and HLOCK (four hex digits, master i is bit i), HREADY, HTRANS, HBURST: 16 bytes."
abbrev pub input_columns : List Column
input_columns =
    column "HBUSREQ" 4 16
    ∷ column "HLOCK" 4 16
    ∷ column "HREADY" 1 1
    ∷ column "HTRANS" 1 2
    ∷ column "HBURST" 1 3
    ∷ []

-- "A trace line adds HGRANT (four hex digits), HMASTER (one hex digit), HMASTLOCK, DECIDE, GRANTED, BUSREQ: 31 bytes."
abbrev pub output_columns : List Column
output_columns =
    column "HGRANT" 4 16
    ∷ column "HMASTER" 1 4
    ∷ column "HMASTLOCK" 1 1
    ∷ column "DECIDE" 1 1
    ∷ column "GRANTED" 1 1
    ∷ column "BUSREQ" 1 1
    ∷ []

abbrev pub cycle_columns : List Column
cycle_columns = input_columns ++ output_columns

abbrev pub input_values : Inputs → List ℕ
input_values x = x.hbusreq ∷ x.hlock ∷ x.hready ∷ x.htrans ∷ x.hburst ∷ []

abbrev pub output_values : Outputs → List ℕ
output_values o = o.hgrant ∷ o.hmaster ∷ o.hmastlock ∷ o.decide ∷ o.granted ∷ o.busreq ∷ []

abbrev pub cycle_values : Cycle → List ℕ
cycle_values c = input_values c.inputs ++ output_values c.outputs
