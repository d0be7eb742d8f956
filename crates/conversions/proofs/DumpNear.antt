-- The program trace2vcd goes by lines: a turn looks at no more than one trace line.
--
--   dump_goes     == what a turn that goes on has read and written
--   dump_by_lines == the turns of the program
use Rattle.std.specs.Prelude.{Err, None, Ok, Some}
use Prim.Native.Nat.{ℕ, ◌<◌}
use mathlib.Core.Path.{◌≡◌, refl, ap}
use mathlib.Core.Bool.{Bool, true, false, cond}
use mathlib.Core.List.{List, []}
use native.Mathlib.Omega.{arith}
use borrow.Author.Tests.{leb-false}
use lib.Dec.{leb}
use Rattle.rules.specs.declared.Refusal.TheVariants as refusal
use Rattle.rules.specs.declared.Cycle.{Cycle}
use Rattle.rules.specs.Codes.{most_cycles}
use Rattle.rules.specs.State.{masters_ok}
use Rattle.formats.specs.Results.{TraceRead}
use Rattle.formats.specs.Lines.{place, read_trace_of}
use Rattle.formats.specs.Report.{refused_line}
use Rattle.streams.specs.Streams.{goes, stops}
use Rattle.streams.specs.Blocks.{ByLines}
use Rattle.streams.proofs.Near.{trace_near, trace_line_lem}
use Rattle.waves.specs.Steps.{dump_step}
use Rattle.conversions.specs.declared.Position.{Position}
use Rattle.conversions.specs.Positions.{after}
use Rattle.conversions.specs.Dumping.{drawn, dump_turn}

-- a turn that goes on has read a line, in time, and drawn it
pub record Drawn (p : Position) (rest bytes : List ℕ) (t : Position) (k : ℕ) : Type 0 where
  pub cycle : Cycle
  pub read : read_trace_of p.n rest 0 ≡ Ok (Some (cycle, k))
  pub room : p.count < most_cycles
  pub wrote : bytes ≡ dump_step p.before p.count cycle
  pub next : t ≡ after p cycle 1

pub dump_goes : (p : Position) (rest bytes : List ℕ) (t : Position) (k : ℕ) → dump_turn p rest ≡ goes bytes t k → Drawn p rest bytes t k
unfolding dump_turn
dump_goes p rest bytes t k e = read (read_trace_of p.n rest 0) refl
  where
    timed : (c : Cycle) (next : ℕ) (full : Bool) → read_trace_of p.n rest 0 ≡ Ok (Some (c, next)) → leb most_cycles p.count ≡ full
        → cond full (stops (refused_line p.line refusal.Full)) (goes (dump_step p.before p.count c) (after p c 1) next) ≡ goes bytes t k
        → Drawn p rest bytes t k
    timed c next true q f g = let z : ◌≡◌ {A = ℕ} 0 1 = cc in absurd (omega arith)
    timed c next false q f g =
        let same : next ≡ k = cc in
        record {
          cycle = c;
          read = rw same at q;
          room = leb-false most_cycles p.count f;
          wrote = cc;
          next = cc;
        }

    read : (r : TraceRead) → read_trace_of p.n rest 0 ≡ r → Drawn p rest bytes t k
    read (Ok (Some (c, next))) q = timed c next (leb most_cycles p.count) q refl (rw q at e)
    read (Ok None) q = let f = rw q at e in let z : ◌≡◌ {A = ℕ} 0 1 = cc in absurd (omega arith)
    read (Err r) q = let f = rw q at e in let z : ◌≡◌ {A = ℕ} 0 1 = cc in absurd (omega arith)

-- where nothing is left, nothing is read
none : (p : Position) → (bytes : List ℕ) × (drawn (read_trace_of p.n [] 0) p ≡ stops bytes)
unfolding read_trace_of place
none p = go (masters_ok p.n)
  where
    go : (m : Bool) → (bytes : List ℕ) × (drawn (cond m (Ok None) (Err refusal.Masters)) p ≡ stops bytes)
    go true = (_, refl)
    go false = (_, refl)

pub dump_by_lines : ByLines 31 dump_turn
dump_by_lines =
    record {
      some = omega arith;
      last = λ p. unfold dump_turn in none p;
      next = λ p rest bytes t k e. let d = dump_goes p rest bytes t k e in trace_line_lem p.n rest d.cycle k d.read;
      near = λ p a b h. unfold dump_turn in ap (λ (r : TraceRead). drawn r p) (trace_near a b p.n h);
    }
