-- A line passes its tests exactly where its columns are in their ranges.
--
--   masks_below == what is below 2 ^ n is a mask
--   InputsWithin n x, OutputsWithin n o == each column is in its range
--   inputs_pass, inputs_passed == the tests of a stimulus line
--   cycle_pass, cycle_passed   == the tests of a trace line
use Rattle.std.proofs.Common.{◌≡◌, ℕ, zero, suc, ◌^◌, ◌<◌, ◌≤◌, Bool, false, ◌||◌, eqb, refl, true≢false, arith, pow_mono, le-ltb, ne_eqb, le-leb, leb-false, Ok}
use borrow.Author.Tests.{lt-leb}
use Rattle.rules.specs.declared.Inputs.{Inputs}
use Rattle.rules.specs.declared.Outputs.{Outputs}
use Rattle.rules.specs.declared.Cycle.{Cycle}
use Rattle.rules.specs.Codes.{most_masters, burst_of, no_code, not_built}
use Rattle.rules.specs.Masks.{names_absent}
use Rattle.rules.specs.Valid.{inputs_too_large, outputs_too_large, inputs_not_built, inputs_absent, outputs_absent, inputs_check, cycle_check}
use Rattle.rules.proofs.Choice.{order, or_left, or_right}
use Rattle.rules.proofs.Total as total
use Rattle.formats.specs.Lines.{line_check}
use Rattle.formats.proofs.Limits.{valid_line, line_valid}
use Rattle.formats.proofs.Limits as limit
use Rattle.glances.specs.Glances.{unbuilt}

neither : {a b : Bool} → a ≡ false → b ≡ false → (a || b) ≡ false
neither {a} {b} p q = cc

-- a burst code up to 3 is built where it is not 2, and no other is
few_bursts : (b : ℕ) → b ≤ 3 → (no_code (burst_of b) ≡ false) × (not_built (burst_of b) ≡ eqb b 2)
unfolding burst_of
few_bursts zero h = (refl, refl)
few_bursts (suc zero) h = (refl, refl)
few_bursts (suc (suc zero)) h = (refl, refl)
few_bursts (suc (suc (suc zero))) h = (refl, refl)
few_bursts (suc (suc (suc (suc b)))) h = absurd (omega arith)

burst_most : (b : ℕ) → b ≤ 7 → not_built (burst_of b) ≡ false → b ≤ 3
unfolding burst_of
burst_most b h =
    order b 3 (λ l e. l)
    (λ l.
    simp (ne_eqb b 0 (λ q. omega arith), ne_eqb b 1 (λ q. omega arith), ne_eqb b 3 (λ q. omega arith), le-leb b 7 h)
    (λ e. absurd (true≢false e)))

pub record InputsWithin (n : ℕ) (x : Inputs) : Type 0 where
  pub requests : x.hbusreq < 2 ^ n
  pub locks : x.hlock < 2 ^ n
  pub ready : x.hready ≤ 1
  pub trans : x.htrans ≤ 3
  pub burst : x.hburst ≤ 3
  pub built : unbuilt x.htrans x.hburst ≡ false

pub record OutputsWithin (n : ℕ) (o : Outputs) : Type 0 where
  pub grant : o.hgrant < 2 ^ n
  pub owner : o.hmaster < n
  pub lock : o.hmastlock ≤ 1
  pub decide : o.decide ≤ 1
  pub granted : o.granted ≤ 1
  pub request : o.busreq ≤ 1

module _ (n : ℕ) where
  module _ (x : Inputs) where
    inputs_within : inputs_too_large x ≡ false → inputs_not_built x ≡ false → inputs_absent n x ≡ false → InputsWithin n x
    unfolding inputs_not_built inputs_absent
    inputs_within test4 test5 test6 =
        let small = limit.inputs_small x test4 in
        let most : x.hburst ≤ 3 = burst_most x.hburst small.hburst (or_right (eqb x.htrans 1) _ test5) in
        record {
          requests = leb-false _ _ (or_left _ (names_absent n x.hlock) test6);
          locks = leb-false _ _ (or_right (names_absent n x.hbusreq) _ test6);
          ready = small.hready;
          trans = small.htrans;
          burst = most;
          built = rw (few_bursts x.hburst most).1 at test5;
        }

    pub inputs_passed : inputs_check n x ≡ Ok tt → InputsWithin n x
    unfolding inputs_check
    inputs_passed e =
        let p = total.passed (inputs_too_large x) (inputs_not_built x) (inputs_absent n x) false e in
        inputs_within p.value p.unbuilt p.absent

  pub cycle_passed : (c : Cycle) → line_check n c ≡ Ok tt → InputsWithin n c.inputs × OutputsWithin n c.outputs
  cycle_passed c e =
      let p = total.cycle_passed n c (line_valid n c e) in
      let small = limit.outputs_small c.outputs (or_right (inputs_too_large c.inputs) _ p.value) in (
        inputs_within c.inputs (or_left _ (outputs_too_large c.outputs) p.value) p.unbuilt (or_left _ (outputs_absent n c.outputs) p.absent),
        record {
          grant = leb-false _ _ (or_right (inputs_absent n c.inputs) _ p.absent);
          owner = leb-false _ _ p.owner;
          lock = small.hmastlock;
          decide = small.decide;
          granted = small.granted;
          request = small.busreq;
        },
      )

module _ (n : ℕ) (many : n ≤ most_masters) where
  pub masks_below : 2 ^ n ≤ 65536
  masks_below = pow_mono many

  module _ (x : Inputs) (w : InputsWithin n x) where
    inputs_small : inputs_too_large x ≡ false
    unfolding inputs_too_large
    inputs_small =
        neither (neither (neither (neither
        (le-ltb 65535 x.hbusreq (omega (arith, masks_below)))
        (le-ltb 65535 x.hlock (omega (arith, masks_below))))
        (le-ltb 1 x.hready w.ready))
        (le-ltb 3 x.htrans w.trans))
        (few_bursts x.hburst w.burst).0

    inputs_built : inputs_not_built x ≡ false
    unfolding inputs_not_built
    inputs_built = rw (few_bursts x.hburst w.burst).1 w.built

    inputs_present : inputs_absent n x ≡ false
    unfolding inputs_absent
    inputs_present = neither (lt-leb (2 ^ n) x.hbusreq w.requests) (lt-leb (2 ^ n) x.hlock w.locks)

    pub inputs_pass : inputs_check n x ≡ Ok tt
    unfolding inputs_check
    inputs_pass = rw (inputs_small, inputs_built, inputs_present)

  outputs_small : (o : Outputs) → OutputsWithin n o → outputs_too_large o ≡ false
  unfolding outputs_too_large
  outputs_small o w =
      neither (neither (neither (neither
      (le-ltb 65535 o.hgrant (omega (arith, masks_below)))
      (le-ltb 1 o.hmastlock w.lock))
      (le-ltb 1 o.decide w.decide))
      (le-ltb 1 o.granted w.granted))
      (le-ltb 1 o.busreq w.request)

  pub cycle_pass : (c : Cycle) → InputsWithin n c.inputs → OutputsWithin n c.outputs → line_check n c ≡ Ok tt
  unfolding cycle_check
  cycle_pass c v w =
      let good : cycle_check n c ≡ (Ok tt) =
      rw (
        inputs_small c.inputs v,
        outputs_small c.outputs w,
        inputs_built c.inputs v,
        inputs_present c.inputs v,
        lt-leb (2 ^ n) c.outputs.hgrant w.grant,
        lt-leb n c.outputs.hmaster w.owner,
      ) in
      valid_line n c many good
