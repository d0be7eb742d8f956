-- What the tests of a line say of its columns: a valid line fits its fields, and a bad character is too large for its column.
--
--   ok_range, range_ok == n is tested exactly as the page says
--   SmallInputs x, SmallOutputs o == no column is above its limit
--   inputs_small, outputs_small == what the test 4 leaves is small
--   stimulus_fits, trace_fits == small columns fit the fields of their line
--   valid_stimulus_fits, valid_trace_fits == what is valid fits
--   valid_line, line_valid == the check of a trace line is that of a cycle, for which HMASTER is one hex digit
--   stimulus_unfit, trace_unfit == what does not fit is refused by 4
use Rattle.std.specs.Prelude.{Err, Ok}
use Prim.Native.Nat.{ℕ, ◌≤◌, ◌<◌}
use mathlib.Core.Path.{◌≡◌, refl}
use mathlib.Core.Bool.{true, false, true≢false}
use native.Mathlib.Omega.{arith}
use borrow.Author.Tests.{leb-true, leb-false, ltb-false, lt-leb, ne_eqb}
use lib.Dec.{leb}
use Rattle.rules.specs.declared.Refusal.TheVariants as refusal
use Rattle.rules.specs.Results.{Check}
use Rattle.rules.specs.declared.Inputs.{Inputs}
use Rattle.rules.specs.declared.Outputs.{Outputs}
use Rattle.rules.specs.declared.Cycle.{Cycle}
use Rattle.rules.specs.Codes.{most_masters, burst_of, no_code}
use Rattle.rules.specs.State.{masters_ok}
use Rattle.rules.specs.Valid.{inputs_too_large, outputs_too_large, inputs_not_built, inputs_absent, inputs_check, cycle_check}
use Rattle.rules.proofs.Choice.{either, order, and_left, and_right, or_left, or_right}
use Rattle.rules.proofs.WellFormed.{masters_ok_lem}
use Rattle.rules.proofs.Total.{passed, cycle_passed}
use Rattle.formats.specs.Columns.{input_values, cycle_values}
use Rattle.formats.specs.Lines.{stimulus_fields, trace_fields, line_check}
use Rattle.formats.specs.Promises.{InRange}
use Rattle.formats.proofs.Bytes.{below}
use Rattle.formats.proofs.Fields.{Fits}

pub range_ok : (n : ℕ) → InRange n → masters_ok n ≡ true
range_ok n r = masters_ok_lem n r.few r.many

pub ok_range : (n : ℕ) → masters_ok n ≡ true → InRange n
ok_range n e =
    record {
      few = leb-true 2 n (and_left (leb 2 n) (leb n 16) e);
      many = leb-true n 16 (and_right (leb 2 n) (leb n 16) e);
    }

pub record SmallInputs (x : Inputs) : Type 0 where
  pub hbusreq : x.hbusreq ≤ 65535
  pub hlock : x.hlock ≤ 65535
  pub hready : x.hready ≤ 1
  pub htrans : x.htrans ≤ 3
  pub hburst : x.hburst ≤ 7

pub record SmallOutputs (o : Outputs) : Type 0 where
  pub hgrant : o.hgrant ≤ 65535
  pub hmastlock : o.hmastlock ≤ 1
  pub decide : o.decide ≤ 1
  pub granted : o.granted ≤ 1
  pub busreq : o.busreq ≤ 1

-- above 7 there is no code
code_small : (b : ℕ) → no_code (burst_of b) ≡ false → b ≤ 7
unfolding burst_of
code_small b =
    order b 7 (λ h e. h)
    (λ h.
    simp (ne_eqb b 0 (λ q. omega arith), ne_eqb b 1 (λ q. omega arith), ne_eqb b 3 (λ q. omega arith), lt-leb b 7 h)
    (λ e. absurd (true≢false e)))

pub inputs_small : (x : Inputs) → inputs_too_large x ≡ false → SmallInputs x
unfolding inputs_too_large
inputs_small x e = search (ltb-false, code_small, or_left, or_right) depth 9

pub outputs_small : (o : Outputs) → outputs_too_large o ≡ false → SmallOutputs o
unfolding outputs_too_large
outputs_small o e = search (ltb-false, or_left, or_right) depth 9

pub stimulus_fits : (x : Inputs) → SmallInputs x → Fits stimulus_fields (input_values x)
stimulus_fits x small = omega arith

pub trace_fits : (c : Cycle) → SmallInputs c.inputs → SmallOutputs c.outputs → c.outputs.hmaster < 16
    → Fits trace_fields (cycle_values c)
trace_fits c small_inputs small_outputs owner = omega arith

pub valid_stimulus_fits : (n : ℕ) (x : Inputs) → inputs_check n x ≡ Ok tt → Fits stimulus_fields (input_values x)
unfolding inputs_check
valid_stimulus_fits n x e =
    stimulus_fits x (inputs_small x (passed (inputs_too_large x) (inputs_not_built x) (inputs_absent n x) false e).value)

owner_below : (n : ℕ) (c : Cycle) → cycle_check n c ≡ Ok tt → c.outputs.hmaster < n
owner_below n c e = leb-false n c.outputs.hmaster (cycle_passed n c e).owner

pub valid_trace_fits : (n : ℕ) (c : Cycle) → n ≤ most_masters → cycle_check n c ≡ Ok tt → Fits trace_fields (cycle_values c)
valid_trace_fits n c many e =
    let value = (cycle_passed n c e).value in
    trace_fits c
    (inputs_small c.inputs (or_left (inputs_too_large c.inputs) (outputs_too_large c.outputs) value))
    (outputs_small c.outputs (or_right (inputs_too_large c.inputs) (outputs_too_large c.outputs) value))
    (omega (arith, owner_below n c e))

-- a number that is no hex digit is refused by 4 in HMASTER too
line_elim : (P : Check → Type 0) (n : ℕ) (c : Cycle)
    → (16 ≤ c.outputs.hmaster → P (Err refusal.Value)) → (c.outputs.hmaster < 16 → P (cycle_check n c)) → P (line_check n c)
unfolding line_check
line_elim P n c none digit = below P 15 c.outputs.hmaster none (λ h. digit (omega arith))

pub valid_line : (n : ℕ) (c : Cycle) → n ≤ most_masters → cycle_check n c ≡ Ok tt → line_check n c ≡ Ok tt
valid_line n c many e =
    line_elim (λ k. k ≡ Ok tt) n c (λ none. absurd (omega (arith, owner_below n c e))) (λ digit. e)

pub line_valid : (n : ℕ) (c : Cycle) → line_check n c ≡ Ok tt → cycle_check n c ≡ Ok tt
line_valid n c =
    line_elim (λ k. k ≡ Ok tt → cycle_check n c ≡ Ok tt) n c
    (λ none e. let z : ◌≡◌ {A = ℕ} 0 1 = cc in absurd (omega arith))
    (λ digit e. e)

pub stimulus_unfit : (n : ℕ) (x : Inputs) → (Fits stimulus_fields (input_values x) → ⊥) → inputs_check n x ≡ Err refusal.Value
unfolding inputs_check
stimulus_unfit n x unfit =
    either (inputs_too_large x) (λ large. rw large) (λ small. absurd (unfit (stimulus_fits x (inputs_small x small))))

pub trace_unfit : (n : ℕ) (c : Cycle) → (Fits trace_fields (cycle_values c) → ⊥) → line_check n c ≡ Err refusal.Value
unfolding cycle_check
trace_unfit n c unfit =
    line_elim (λ k. k ≡ Err refusal.Value) n c
    (λ none. refl)
    (λ digit.
    either (inputs_too_large c.inputs)
    (λ large. rw large)
    (λ inputs.
    either (outputs_too_large c.outputs)
    (λ large. rw (inputs, large))
    (λ outputs.
    absurd (unfit (trace_fits c (inputs_small c.inputs inputs) (outputs_small c.outputs outputs) digit)))))
