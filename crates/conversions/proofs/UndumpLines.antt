-- One step of the program vcd2trace.
--
--   undump_stepping, undump_cutting == the program goes by steps, and its input may be cut between them
--   undump_counts      == a step that is taken is counted
--   undump_program_lem == no step writes more bytes than a trace line, and the position stays well formed
--   step_on, step_refused, step_none == the three ends of a step
use Rattle.std.specs.Prelude.{Err, None, Ok, Some}
use Prim.Native.Nat.{ℕ, ◌≤◌}
use mathlib.Core.Path.{◌≡◌, refl, ap, ◌∙◌}
use mathlib.Core.Bool.{true, false}
use mathlib.Core.List.{List, []}
use native.Mathlib.Omega.{arith}
use lib.ListN.{length, take}
use Rattle.rules.specs.declared.Refusal.{Refusal}
use Rattle.rules.specs.declared.Cycle.{Cycle}
use Rattle.formats.specs.Results.{TraceRead}
use Rattle.formats.specs.Lines.{trace_line}
use Rattle.formats.specs.Report.{refused_line}
use Rattle.streams.specs.Streams.{goes}
use Rattle.streams.specs.Blocks.{Stepping, Cutting}
use Rattle.streams.specs.Turns.{bytes_in, state_after, taken_by, Put, Lined}
use Rattle.streams.proofs.Sizes.{refused_size, went, ended}
use Rattle.streams.proofs.Counted.{Counting}
use Rattle.streams.specs.Going.{Program}
use Rattle.waves.specs.Reading.{read_step_of}
use Rattle.waves.specs.Files.{lines_in}
use Rattle.conversions.specs.declared.Position.{Position}
use Rattle.conversions.specs.Positions.{after}
use Rattle.conversions.specs.Undumping.{recalled, undump_turn}
use Rattle.conversions.specs.Blocks.{BetweenSteps}
use Rattle.conversions.proofs.UndumpFacts.{found}
use Rattle.conversions.proofs.Positions.{Formed, Facts, facts_of, test_of}
use Rattle.conversions.proofs.UndumpSteps.{goes_by, undump_last, undump_next, undump_near, undump_rest}

pub undump_stepping : Stepping 3 104 undump_turn
undump_stepping = record { some = omega arith; last = undump_last; next = undump_next }

pub undump_cutting : Cutting undump_turn BetweenSteps
undump_cutting = record { near = undump_near; rest = undump_rest }

pub undump_counts : Counting (λ (p : Position). p.count) undump_turn
undump_counts p rest bytes t k e =
    goes_by p rest bytes t k e
    (λ c q i. let f = found p.n p.count p.before rest c k q in rw i (refl, omega (arith, f.time)))

few_recalled : (p : Position) (rest : List ℕ) → Facts p → (r : TraceRead) → length (bytes_in (recalled r p rest)) ≤ 31
few_recalled p rest f (Ok (Some (c, next))) = omega arith
few_recalled p rest f (Ok None) = omega arith
few_recalled p rest f (Err r) = refused_size p.line r (omega (arith, f.lines, f.room))

stays_recalled : (p : Position) (rest : List ℕ) → Facts p → (r : TraceRead) → read_step_of p.n p.count p.before rest 0 ≡ r
    → Formed (state_after p (recalled r p rest))
stays_recalled p rest f (Ok (Some (c, next))) e =
    let g = found p.n p.count p.before rest c next e in
    test_of (after p c (lines_in (take next rest))) (record { masters = f.masters; room = omega (arith, g.time); lines = omega (arith, f.lines, g.lines) })
stays_recalled p rest f (Ok None) e = test_of p f
stays_recalled p rest f (Err r) e = test_of p f

pub undump_program_lem : Program undump_turn 3 31 Formed
unfolding undump_turn
undump_program_lem =
    record {
      longest = 104;
      lines = undump_stepping;
      few = λ p rest f. few_recalled p rest (facts_of p f) (read_step_of p.n p.count p.before rest 0);
      stays = λ p rest f. stays_recalled p rest (facts_of p f) (read_step_of p.n p.count p.before rest 0) refl;
    }

module _ (p : Position) (rest : List ℕ) where
  turn_is : (r : TraceRead) → read_step_of p.n p.count p.before rest 0 ≡ r → undump_turn p rest ≡ recalled r p rest
  unfolding undump_turn
  turn_is r e = ap (λ q. recalled q p rest) e

  pub step_on : (c : Cycle) (next lines : ℕ) (buffer : List ℕ) (k : ℕ) (out : List ℕ)
      → read_step_of p.n p.count p.before rest 0 ≡ Ok (Some (c, next)) → lines_in (take next rest) ≡ lines → Put (trace_line c) buffer k out
      → Lined p (undump_turn p rest) buffer k true (after p c lines) out × (taken_by (undump_turn p rest) ≡ next)
  step_on c next lines buffer k out e l put =
      let is : undump_turn p rest ≡ goes (trace_line c) (after p c lines) next = turn_is (Ok (Some (c, next))) e ∙ ap (λ i. goes (trace_line c) (after p c i) next) l in
      (went p (undump_turn p rest) (trace_line c) buffer k out put (after p c lines) next is, ap taken_by is)

  pub step_refused : (r : Refusal) (buffer : List ℕ) (k : ℕ) (out : List ℕ) → read_step_of p.n p.count p.before rest 0 ≡ Err r
      → Put (refused_line p.line r) buffer k out → Lined p (undump_turn p rest) buffer k false p out
  step_refused r buffer k out e put = ended p (undump_turn p rest) (refused_line p.line r) buffer k out put (turn_is (Err r) e)

  pub step_none : (buffer : List ℕ) → read_step_of p.n p.count p.before rest 0 ≡ Ok None → Lined p (undump_turn p rest) buffer 0 false p buffer
  step_none buffer e = ended p (undump_turn p rest) [] buffer 0 buffer (record { size = refl; puts = refl }) (turn_is (Ok None) e)
