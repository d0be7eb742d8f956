-- The eleven variables and the values of a cycle.
--
--   codes_rise   == the codes of the variables rise
--   valid_within == their widths hold the values of a valid cycle
--   values_cycle == eleven values are those of their cycle
use Rattle.std.specs.Prelude.{Ok}
use Prim.Native.Nat.{ℕ, suc, ◌+◌, ◌≤◌, ◌<◌}
use mathlib.Core.Path.{◌≡◌, sym, ◌∙◌}
use mathlib.Core.List.{List, [], ◌∷◌}
use native.Mathlib.Omega.{arith}
use borrow.Author.Tests.{leb-false}
use lib.ListN.{length}
use lib.Seq.{take_all}
use Rattle.rules.specs.declared.Cycle.{Cycle}
use Rattle.rules.specs.Codes.{most_masters}
use Rattle.rules.specs.Valid.{inputs_too_large, outputs_too_large, cycle_check}
use Rattle.rules.proofs.Choice.{or_left, or_right}
use Rattle.rules.proofs.Total.{cycle_passed}
use Rattle.formats.specs.Columns.{Column, cycle_columns, cycle_values}
use Rattle.formats.specs.Promises.{Each}
use Rattle.formats.proofs.Bytes.{take_bytes}
use Rattle.formats.proofs.Limits.{inputs_small, outputs_small}
use Rattle.waves.specs.Variables.{coded, variables}
use Rattle.waves.specs.Reading.{cycle_of}
use Rattle.waves.proofs.Shapes.{Coded, Within}

later_codes : (i k : ℕ) (cs : List Column) → i < k → Each (λ y. i < y.code) (coded k cs)
later_codes i k [] h = tt
later_codes i k (c ∷ cs) h = (h, later_codes i (suc k) cs (omega arith))

rising_codes : (k : ℕ) (cs : List Column) → 33 ≤ k → k + length cs ≤ 44 → Coded (coded k cs)
rising_codes k [] few many = tt
rising_codes k (c ∷ cs) few many =
    (few, omega arith, later_codes k (suc k) cs (omega arith), rising_codes (suc k) cs (omega arith) (omega arith))

pub codes_rise : Coded variables
codes_rise = rising_codes 33 cycle_columns (omega arith) (omega arith)

pub valid_within : (n : ℕ) (c : Cycle) → n ≤ most_masters → cycle_check n c ≡ Ok tt → Within variables (cycle_values c)
valid_within n c many e =
    let p = cycle_passed n c e in
    let inputs = inputs_small c.inputs (or_left (inputs_too_large c.inputs) (outputs_too_large c.outputs) p.value) in
    let outputs = outputs_small c.outputs (or_right (inputs_too_large c.inputs) (outputs_too_large c.outputs) p.value) in
    let owner : c.outputs.hmaster < n = leb-false n c.outputs.hmaster p.owner in
    omega arith

pub values_cycle : (vs : List ℕ) → length vs ≡ 11 → cycle_values (cycle_of vs) ≡ vs
unfolding cycle_of
values_cycle vs full = sym (take_bytes 11 vs 0 (omega arith)) ∙ take_all 11 vs (omega arith)
