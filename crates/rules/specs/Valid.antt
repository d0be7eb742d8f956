-- What is valid for n: the tests 4, 5, 6 and 7 of document 01, shared by readers, writers, arbiter and judge.
-- Each test is of the whole line: all of 4 comes before any of 5.
--
--   inputs_too_large x, outputs_too_large o == test 4: a value above its limit, or no code
--   inputs_not_built x == test 5: a code that is not built
--   inputs_absent n x, outputs_absent n o   == test 6: a mask names an absent master
--   owner_absent n o == test 7: HMASTER is absent
--   inputs_check n x == the first of 4, 5, 6 that applies to a stimulus
--   cycle_check n c  == the first of 4, 5, 6, 7 that applies to a recorded cycle
use Rattle.std.specs.Prelude.{ℕ, Bool, false, ◌||◌, eqb, ltb, leb}
use Rattle.rules.specs.declared.Inputs.{Inputs}
use Rattle.rules.specs.declared.Outputs.{Outputs}
use Rattle.rules.specs.declared.Cycle.{Cycle}
use Rattle.rules.specs.Results.{Check}
use Rattle.rules.specs.Refusals.{first_of}
use Rattle.rules.specs.Codes.{burst_of, no_code, not_built}
use Rattle.rules.specs.Masks.{names_absent}

-- 4: HTRANS above 3, HBURST above 7, a flag above 1, a mask above 65,535
unfoldable pub inputs_too_large : Inputs → Bool
inputs_too_large x =
    ltb 65535 x.hbusreq
    || ltb 65535 x.hlock
    || ltb 1 x.hready
    || ltb 3 x.htrans
    || no_code (burst_of x.hburst)

unfoldable pub outputs_too_large : Outputs → Bool
outputs_too_large o =
    ltb 65535 o.hgrant
    || ltb 1 o.hmastlock
    || ltb 1 o.decide
    || ltb 1 o.granted
    || ltb 1 o.busreq

-- 5: HTRANS 1, or HBURST 2, 4, 5, 6, 7
unfoldable pub inputs_not_built : Inputs → Bool
inputs_not_built x = eqb x.htrans 1 || not_built (burst_of x.hburst)

-- 6: HBUSREQ, HLOCK or HGRANT names a master not below n
unfoldable pub inputs_absent : ℕ → Inputs → Bool
inputs_absent n x = names_absent n x.hbusreq || names_absent n x.hlock

abbrev pub outputs_absent : ℕ → Outputs → Bool
outputs_absent n o = names_absent n o.hgrant

-- 7: HMASTER not below n
abbrev pub owner_absent : ℕ → Outputs → Bool
owner_absent n o = leb n o.hmaster

unfoldable pub inputs_check : ℕ → Inputs → Check
inputs_check n x = first_of (inputs_too_large x) (inputs_not_built x) (inputs_absent n x) false

unfoldable pub cycle_check : ℕ → Cycle → Check
cycle_check n c =
    first_of
    (inputs_too_large c.inputs || outputs_too_large c.outputs)
    (inputs_not_built c.inputs)
    (inputs_absent n c.inputs || outputs_absent n c.outputs)
    (owner_absent n c.outputs)
