-- A step: its time, and the lines of its two parts.
--
--   inputs_put, outputs_put == the lines of the variables, one after the other
--   step_put           == the whole step
use Prim.Native.Nat.{ℕ, ◌≤◌}
use mathlib.Core.Path.{◌≡◌}
use mathlib.Core.Bool.{Bool}
use mathlib.Core.List.{List, ◌++◌, append_assoc}
use lib.Dec.{eqb}
use lib.ListN.{length, drop}
use Rattle.rules.specs.declared.Inputs.{Inputs}
use Rattle.rules.specs.declared.Outputs.{Outputs}
use Rattle.rules.specs.declared.Cycle.{Cycle}
use Rattle.formats.specs.Columns.{input_values, output_values, cycle_values}
use Rattle.waves.specs.Variables.{variables}
use Rattle.waves.specs.Steps.{time_line, changes, dump_step}
use Rattle.dumps.specs.Changed.{variable, changed, input_variables, output_variables, Put}
use Rattle.dumps.proofs.Puts.{put_then, put_last, put_start}

module _ (all : Bool) (b0 b1 b2 b3 b4 b5 : List ℕ) (at p1 p2 p3 p4 p5 : ℕ) where
  pub inputs_put : (p x : Inputs)
      → Put b0 at (changed all (variable 16 33) p.hbusreq x.hbusreq) 20 p1 b1
      → Put b1 p1 (changed all (variable 16 34) p.hlock x.hlock) 20 p2 b2
      → Put b2 p2 (changed all (variable 1 35) p.hready x.hready) 3 p3 b3
      → Put b3 p3 (changed all (variable 2 36) p.htrans x.htrans) 6 p4 b4
      → Put b4 p4 (changed all (variable 3 37) p.hburst x.hburst) 7 p5 b5
      → Put b0 at (changes all input_variables (input_values p) (input_values x)) 56 p5 b5
  unfolding changes changed
  inputs_put p x h1 h2 h3 h4 h5 =
      put_then _ _ _ _ _ _ _ _ _ _ h1 (put_then _ _ _ _ _ _ _ _ _ _ h2 (put_then _ _ _ _ _ _ _ _ _ _ h3 (put_then _ _ _ _ _ _ _ _ _ _ h4 (put_last _ _ _ _ _ _ h5))))

  pub outputs_put : (q o : Outputs) (b6 : List ℕ) (p6 : ℕ)
      → Put b0 at (changed all (variable 16 38) q.hgrant o.hgrant) 20 p1 b1
      → Put b1 p1 (changed all (variable 4 39) q.hmaster o.hmaster) 8 p2 b2
      → Put b2 p2 (changed all (variable 1 40) q.hmastlock o.hmastlock) 3 p3 b3
      → Put b3 p3 (changed all (variable 1 41) q.decide o.decide) 3 p4 b4
      → Put b4 p4 (changed all (variable 1 42) q.granted o.granted) 3 p5 b5
      → Put b5 p5 (changed all (variable 1 43) q.busreq o.busreq) 3 p6 b6
      → Put b0 at (changes all output_variables (output_values q) (output_values o)) 40 p6 b6
  unfolding changes changed
  outputs_put q o b6 p6 h1 h2 h3 h4 h5 h6 =
      put_then _ _ _ _ _ _ _ _ _ _ h1 (put_then _ _ _ _ _ _ _ _ _ _ h2 (put_then _ _ _ _ _ _ _ _ _ _ h3 (put_then _ _ _ _ _ _ _ _ _ _ h4
      (put_then _ _ _ _ _ _ _ _ _ _ h5 (put_last _ _ _ _ _ _ h6)))))

both_parts : (all : Bool) (prev c : Cycle)
    → changes all input_variables (input_values prev.inputs) (input_values c.inputs)
    ++ changes all output_variables (output_values prev.outputs) (output_values c.outputs)
    ≡ changes all variables (cycle_values prev) (cycle_values c)
unfolding changes
both_parts all prev c = simp append_assoc

pub step_put : (prev : Cycle) (t : ℕ) (c : Cycle) (all : Bool) (b0 b1 b2 b3 : List ℕ) (p1 p2 p3 : ℕ) → 104 ≤ length b0 → all ≡ eqb t 0
    → Put b0 0 (time_line t) 8 p1 b1
    → Put b1 p1 (changes all input_variables (input_values prev.inputs) (input_values c.inputs)) 56 p2 b2
    → Put b2 p2 (changes all output_variables (output_values prev.outputs) (output_values c.outputs)) 40 p3 b3
    → (p3 ≡ length (dump_step prev t c)) × (b3 ≡ dump_step prev t c ++ drop (length (dump_step prev t c)) b0)
unfolding dump_step
step_put prev t c all b0 b1 b2 b3 p1 p2 p3 room e h1 h2 h3 =
    rw (← e, ← both_parts all prev c) (put_start b0 _ 104 p3 b3 room (put_then _ _ _ _ _ _ _ _ _ _ h1 (put_then _ _ _ _ _ _ _ _ _ _ h2 h3)))
