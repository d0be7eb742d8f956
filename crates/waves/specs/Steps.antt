-- A step of a dump as it is written: the time, and the values that differ from the cycle before.
-- Its tests: 1, 8, 4, 5, 6, 7, 9.
--
--   time_line t        == the line of the time t
--   changes all xs vs us == the lines of the variables xs whose value was v and is u: of all, or of those that changed
--   dump_step prev t c == the bytes of the step of cycle t, which is c, after the cycle prev
--   write_step_of, step_written == the answer of writing one into a buffer of some length, and the buffer afterwards
use Rattle.std.specs.Prelude.{ℕ, Bool, not, ◌||◌, cond, List, [], ◌∷◌, ◌++◌, eqb, leb, length, Err}
use Rattle.rules.specs.declared.Refusal.TheVariants as refusal
use Rattle.rules.specs.Results.{Check}
use Rattle.rules.specs.declared.Cycle.{Cycle}
use Rattle.rules.specs.Codes.{most_cycles}
use Rattle.rules.specs.Valid.{cycle_check}
use Rattle.formats.specs.Results.{Written}
use Rattle.formats.specs.Digits.{lf, decimal}
use Rattle.formats.specs.Columns.{cycle_values}
use Rattle.formats.specs.Lines.{fitted, for_masters, left}
use Rattle.waves.specs.Variables.{Variable, variables, change}

-- '#' is 35
abbrev pub hash : ℕ
hash = 35

unfoldable pub time_line : ℕ → List ℕ
time_line t = hash ∷ (decimal t ++ (lf ∷ []))

-- "a value written only when it differs from the cycle before. Cycle 0 writes all. Changes stand in column order"
unfoldable pub changes : Bool → List Variable → List ℕ → List ℕ → List ℕ
changes all [] vs us = []
changes all (x ∷ xs) [] us = []
changes all (x ∷ xs) (v ∷ vs) [] = []
changes all (x ∷ xs) (v ∷ vs) (u ∷ us) = cond (all || not (eqb u v)) (change x u) [] ++ changes all xs vs us

unfoldable pub dump_step : Cycle → ℕ → Cycle → List ℕ
dump_step prev t c = time_line t ++ changes (eqb t 0) variables (cycle_values prev) (cycle_values c)

-- 8 stands before the tests of the cycle: "time 1,000,000; also on writing, after 1"
abbrev pub in_time : ℕ → Check → Check
in_time t k = cond (leb most_cycles t) (Err refusal.Full) k

unfoldable pub write_step_of : ℕ → ℕ → Cycle → Cycle → ℕ → Written
write_step_of n t prev c room = fitted (for_masters n (in_time t (cycle_check n c))) (length (dump_step prev t c)) room

unfoldable pub step_written : ℕ → ℕ → Cycle → Cycle → List ℕ → List ℕ
step_written n t prev c buffer = left (write_step_of n t prev c (length buffer)) (dump_step prev t c) buffer
