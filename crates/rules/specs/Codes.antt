-- The codes of HTRANS and HBURST, and the limits of a run.
--
--   ready x, idle x, nonseq x, seq x == what HREADY and HTRANS say in a cycle with inputs x
--   burst_of c    == the sort of the burst code c
--   no_code b     == b is no code at all (refusal 4)
--   not_built b   == b is a code that is not built (refusal 5)
--   longest_burst == the most beats that a fixed burst has
--   fewest_masters, most_masters, most_cycles == the limits of n and of the count
use Rattle.std.specs.Prelude.{ℕ, Bool, true, false, cond, eqb, leb}
use Rattle.rules.specs.declared.Burst.{Burst}
use Rattle.rules.specs.declared.Burst.TheVariants as burst
use Rattle.rules.specs.declared.Inputs.{Inputs}

-- n from 2 to 16
abbrev pub fewest_masters : ℕ
fewest_masters = 2

abbrev pub most_masters : ℕ
most_masters = 16

-- at most 1,000,000 cycles a run
abbrev pub most_cycles : ℕ
most_cycles = 1000000

-- "Ready" means HREADY high
abbrev pub ready : Inputs → Bool
ready x = eqb x.hready 1

-- HTRANS: 0 IDLE, 2 NONSEQ, 3 SEQ
abbrev pub idle : Inputs → Bool
idle x = eqb x.htrans 0

abbrev pub nonseq : Inputs → Bool
nonseq x = eqb x.htrans 2

abbrev pub seq : Inputs → Bool
seq x = eqb x.htrans 3

-- INCR4 is the longest burst that is built
abbrev pub longest_burst : ℕ
longest_burst = 4

-- HBURST: 0 SINGLE, 1 INCR, 3 INCR4, which has four beats; 2 and 4 to 7 are not built, and above 7 there is no code
unfoldable pub burst_of : ℕ → Burst
burst_of c =
    cond (eqb c 0) burst.Single
    (cond (eqb c 1) burst.Unspecified
    (cond (eqb c 3) (burst.Fixed 4)
    (cond (leb c 7) burst.NotBuilt burst.NoCode)))

abbrev pub no_code : Burst → Bool
no_code burst.Single = false
no_code burst.Unspecified = false
no_code (burst.Fixed beats) = false
no_code burst.NotBuilt = false
no_code burst.NoCode = true

abbrev pub not_built : Burst → Bool
not_built burst.Single = false
not_built burst.Unspecified = false
not_built (burst.Fixed beats) = false
not_built burst.NotBuilt = true
not_built burst.NoCode = false
