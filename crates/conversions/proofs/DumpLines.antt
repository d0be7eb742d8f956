-- One line of the program trace2vcd.
--
--   drawn_on, drawn_full, read_none, read_refused == the four ends of a line
--   dump_program_lem    == it goes by lines, none of which writes more bytes than a step, and the position stays well formed
use Rattle.std.specs.Prelude.{Err, None, Ok, Some}
use Prim.Native.Nat.{ℕ, ◌≤◌, ◌<◌}
use mathlib.Core.Path.{◌≡◌, refl, sym, ap, ◌∙◌}
use mathlib.Core.Bool.{true, false}
use mathlib.Core.List.{List, []}
use native.Mathlib.Omega.{arith}
use borrow.Author.Tests.{le-leb, leb-false, lt-leb}
use lib.Dec.{leb}
use lib.ListN.{length}
use Rattle.rules.specs.declared.Refusal.{Refusal}
use Rattle.rules.specs.declared.Refusal.TheVariants as refusal
use Rattle.rules.specs.declared.Cycle.{Cycle}
use Rattle.rules.specs.Codes.{most_cycles}
use Rattle.rules.proofs.Choice.{either}
use Rattle.formats.specs.Results.{TraceRead}
use Rattle.formats.specs.Lines.{read_trace_of}
use Rattle.formats.specs.Report.{refused_line}
use Rattle.streams.specs.Turns.{bytes_in, state_after, Put, Lined}
use Rattle.streams.proofs.Lines.{stepping}
use Rattle.streams.proofs.Sizes.{refused_size, went, ended}
use Rattle.streams.specs.Going.{Program}
use Rattle.waves.specs.Steps.{dump_step}
use Rattle.waves.proofs.Promises.{steps_are_short}
use Rattle.conversions.specs.declared.Position.{Position}
use Rattle.conversions.specs.Positions.{after}
use Rattle.conversions.specs.Dumping.{drawn, dump_turn}
use Rattle.conversions.proofs.Positions.{Formed, Facts, facts_of, test_of}
use Rattle.conversions.proofs.DumpNear.{dump_by_lines}

module _ (p : Position) (rest : List ℕ) (a : TraceRead) (e : a ≡ read_trace_of p.n rest 0) (buffer : List ℕ) (k : ℕ) (out : List ℕ) where
  found : (r : TraceRead) → a ≡ r → dump_turn p rest ≡ drawn r p
  unfolding dump_turn
  found r f = ap (λ q. drawn q p) (sym e ∙ f)

  pub drawn_on : (c : Cycle) (next : ℕ) → a ≡ Ok (Some (c, next)) → p.count < most_cycles → Put (dump_step p.before p.count c) buffer k out
      → Lined p (dump_turn p rest) buffer k true (after p c 1) out
  drawn_on c next f h put =
      went p (dump_turn p rest) (dump_step p.before p.count c) buffer k out put (after p c 1) next
      (found (Ok (Some (c, next))) f ∙ rw (lt-leb most_cycles p.count h))

  pub drawn_full : (c : Cycle) (next : ℕ) → a ≡ Ok (Some (c, next)) → most_cycles ≤ p.count → Put (refused_line p.line refusal.Full) buffer k out
      → Lined p (dump_turn p rest) buffer k false p out
  drawn_full c next f h put =
      ended p (dump_turn p rest) (refused_line p.line refusal.Full) buffer k out put
      (found (Ok (Some (c, next))) f ∙ rw (le-leb most_cycles p.count h))

  pub read_refused : (r : Refusal) → a ≡ Err r → Put (refused_line p.line r) buffer k out → Lined p (dump_turn p rest) buffer k false p out
  read_refused r f put = ended p (dump_turn p rest) (refused_line p.line r) buffer k out put (found (Err r) f)

pub read_none : (p : Position) (rest : List ℕ) (a : TraceRead) (buffer : List ℕ) → a ≡ read_trace_of p.n rest 0 → a ≡ Ok None
    → Lined p (dump_turn p rest) buffer 0 false p buffer
read_none p rest a buffer e f =
    ended p (dump_turn p rest) [] buffer 0 buffer (record { size = refl; puts = refl }) (found p rest a e buffer 0 buffer (Ok None) f)

module _ (p : Position) (f : Facts p) where
  few_refused : (r : Refusal) → length (refused_line p.line r) ≤ 104
  few_refused r = omega (arith, refused_size p.line r (omega (arith, f.lines, f.room)))

  few_drawn : (r : TraceRead) → length (bytes_in (drawn r p)) ≤ 104
  few_drawn (Ok (Some (c, next))) =
      either (leb most_cycles p.count)
      (λ e. rw e (few_refused refusal.Full))
      (λ e. rw e (steps_are_short p.before p.count c (leb-false most_cycles p.count e)))
  few_drawn (Ok None) = omega arith
  few_drawn (Err r) = few_refused r

  stays_drawn : (r : TraceRead) → Formed (state_after p (drawn r p))
  stays_drawn (Ok (Some (c, next))) =
      either (leb most_cycles p.count)
      (λ e. rw e (test_of p f))
      (λ e.
      let room = leb-false most_cycles p.count e in
      rw e (test_of (after p c 1) (record { masters = f.masters; room = omega arith; lines = omega (arith, f.lines) })))
  stays_drawn (Ok None) = test_of p f
  stays_drawn (Err r) = test_of p f

pub dump_program_lem : Program dump_turn 31 104 Formed
unfolding dump_turn
dump_program_lem =
    record {
      longest = 31;
      lines = stepping dump_by_lines;
      few = λ p rest f. few_drawn p (facts_of p f) (read_trace_of p.n rest 0);
      stays = λ p rest f. stays_drawn p (facts_of p f) (read_trace_of p.n rest 0);
    }
