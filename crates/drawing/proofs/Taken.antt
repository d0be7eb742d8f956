-- One trace line, drawn or not.
--
--   line_drawn == a line that was read, in time, goes on with its step
--   short_untaken == what is no whole line is not drawn
--   stops_full == a good line after the last cycle is refusal 8
use Rattle.std.specs.Prelude.{Ok, Some}
use Prim.Native.Nat.{ℕ, ◌<◌}
use mathlib.Core.Path.{◌≡◌, refl, sym, ◌∙◌}
use mathlib.Core.Bool.{true, false}
use mathlib.Core.List.{List}
use native.Mathlib.Omega.{arith}
use lib.ListN.{length}
use Rattle.rules.specs.declared.Refusal.TheVariants.{Full}
use Rattle.rules.specs.declared.Cycle.{Cycle}
use Rattle.rules.specs.Codes.{most_cycles}
use Rattle.formats.specs.Results.{TraceRead}
use Rattle.formats.specs.Lines.{read_trace_of}
use Rattle.formats.specs.Report.{refused_line}
use Rattle.streams.specs.Turns.{Put, Lined}
use Rattle.streams.proofs.Near.{trace_line_lem}
use Rattle.waves.specs.Steps.{dump_step}
use Rattle.conversions.specs.declared.Position.{Position}
use Rattle.conversions.specs.Positions.{after}
use Rattle.conversions.specs.Dumping.{dump_turn}
use Rattle.conversions.proofs.DumpLines.{drawn_on, drawn_full}
use Rattle.drawing.specs.Stops.{NotTaken}

module _ (p : Position) where
  pub line_drawn : (c : Cycle) (rest buffer out : List ℕ) (k w : ℕ) (next : Position) → p.count < most_cycles → read_trace_of p.n rest 0 ≡ Ok (Some (c, k))
      → Put (dump_step p.before p.count c) buffer w out × (next ≡ after p c 1) → Lined p (dump_turn p rest) buffer w true next out
  line_drawn c rest buffer out k w next room e g =
      rw g.1 (drawn_on p rest (read_trace_of p.n rest 0) refl buffer w out c k e room g.0)

  -- a line that is not taken, as it was read
  pub stops_full : (rest buffer out : List ℕ) (a : TraceRead) (c : Cycle) (n k : ℕ) → NotTaken p rest → a ≡ read_trace_of p.n rest 0 → a ≡ Ok (Some (c, n))
      → Put (refused_line p.line Full) buffer k out → Lined p (dump_turn p rest) buffer k false p out
  stops_full rest buffer out a c n k stop e g put = drawn_full p rest a e buffer k out c n g (stop.full c n (sym e ∙ g)) put

  pub short_untaken : (rest : List ℕ) → length rest < 31 → NotTaken p rest
  short_untaken rest h = record { full = λ c k q. absurd (omega (arith, (trace_line_lem p.n rest c k q).1)) }
