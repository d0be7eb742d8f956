-- One step of a dump, taken or refused.
--
--   lines_counted == the lines in some bytes, as the library counts them
--   read_as == what was read, as a match tells it
--   stepped, stepped_out, stepped_none == a step that is taken; one that is refused; and none
--   sound   == what is known of a step that was read, from a position that is well formed
use Rattle.std.specs.Prelude.{Err, None, Ok, Some}
use Rattle.std.specs.Prelude.{nat_eq}
use Rattle.std.specs.List.{count_by, fold}
use Prim.Native.Nat.{ℕ, suc, ◌+◌, ◌*◌, ◌≤◌, ◌<◌}
use mathlib.Core.Path.{◌≡◌, refl, sym, ◌∙◌}
use mathlib.Core.Bool.{Bool, true, false, cond, true≢false}
use mathlib.Core.List.{List, [], ◌∷◌}
use native.Mathlib.Omega.{arith}
use native.Mathlib.Nat.{add-zero, zero-add}
use borrow.Author.Tests.{leb-true}
use lib.Dec.{eqb, leb}
use lib.ListN.{length, take}
use lib.Seq.{sets, sets-eq}
use Rattle.rules.specs.declared.Refusal.{Refusal}
use Rattle.rules.specs.declared.Cycle.{Cycle}
use Rattle.rules.specs.Codes.{fewest_masters, most_masters, most_cycles}
use Rattle.rules.specs.Valid.{cycle_check}
use Rattle.rules.proofs.Choice.{and_right}
use Rattle.formats.specs.Results.{TraceRead}
use Rattle.formats.specs.Lines.{trace_line}
use Rattle.formats.specs.Report.{refused_line}
use Rattle.formats.proofs.Limits.{valid_line}
use Rattle.streams.specs.Streams.{Turn, goes, stops}
use Rattle.streams.specs.Turns.{Put, goes_on, taken_by}
use Rattle.glances.proofs.Valid.{cycle_passed, masks_below}
use Rattle.prints.specs.Prints.{Fits, FitsOut}
use Rattle.waves.specs.Reading.{read_step_of}
use Rattle.waves.specs.Files.{lines_in}
use Rattle.conversions.specs.declared.Position.{Position}
use Rattle.conversions.specs.Positions.{after, position_formed}
use Rattle.conversions.specs.Undumping.{undump_turn}
use Rattle.conversions.proofs.UndumpFacts.{found}
use Rattle.conversions.proofs.Positions.{facts_of}
use Rattle.conversions.proofs.UndumpLines.{step_on, step_refused, step_none}
use Rattle.recalling.specs.Stepped.{Stepped}

counted_from : (a : ℕ) (s : List ℕ) → fold (λ a x. a + cond (nat_eq x 10) 1 0) a s ≡ a + lines_in s
unfolding lines_in
counted_from a [] = sym (add-zero a)
counted_from a (b ∷ s) = counted_from (a + cond (nat_eq b 10) 1 0) s ∙ go (nat_eq b 10)
  where
    go : (f : Bool) → a + cond f 1 0 + lines_in s ≡ a + cond f (suc (lines_in s)) (lines_in s)
    go true = omega arith
    go false = omega arith

pub lines_counted : (s : List ℕ) → count_by (λ b. nat_eq b 10) s ≡ lines_in s
lines_counted s = counted_from 0 s ∙ zero-add (lines_in s)

module _ (p : Position) (rest : List ℕ) (a : TraceRead) (e : a ≡ read_step_of p.n p.count p.before rest 0) (buffer : List ℕ) where
  -- what was read, as it is told
  pub read_as : (r : TraceRead) → a ≡ r → read_step_of p.n p.count p.before rest 0 ≡ r
  read_as r f = sym e ∙ f

  pub stepped_out : (r : Refusal) (k : ℕ) (out : List ℕ) → a ≡ Err r → Put (refused_line p.line r) buffer k out → Stepped p rest buffer (Err k) out
  stepped_out r k out f put = step_refused p rest r buffer k out (read_as (Err r) f) put

  pub stepped_none : a ≡ Ok None → Stepped p rest buffer (Err 0) buffer
  stepped_none f = step_none p rest buffer (read_as (Ok None) f)

pub stepped : (p : Position) (rest buffer : List ℕ) (c : Cycle) (next lines : ℕ) (out : List ℕ)
    → read_step_of p.n p.count p.before rest 0 ≡ Ok (Some (c, next)) → lines_in (take next rest) ≡ lines → 31 ≤ length buffer → out ≡ sets buffer 0 (trace_line c)
    → Stepped p rest buffer (Ok (after p c lines, next, 31)) out
stepped p rest buffer c next lines out e l room written =
    let put : Put (trace_line c) buffer 31 out = record { size = refl; puts = written ∙ sets-eq (trace_line c) buffer 0 room } in
    let s = step_on p rest c next lines buffer 31 out e l put in
    (s.0, s.1, tt)

-- the columns of a valid cycle fit their places in a line
cycle_fits : (n : ℕ) (c : Cycle) → n ≤ most_masters → cycle_check n c ≡ Ok tt → Fits c.inputs × FitsOut c.outputs
cycle_fits n c many valid =
    let w = cycle_passed n c (valid_line n c many valid) in
    let top = masks_below n many in (
      record {
        requests = omega (arith, w.0.requests);
        locks = omega (arith, w.0.locks);
        ready = w.0.ready;
        trans = w.0.trans;
        burst = w.0.burst;
      },
      record {
        grant = omega (arith, w.1.grant);
        owner = omega (arith, w.1.owner);
        lock = w.1.lock;
        decide = w.1.decide;
        granted = w.1.granted;
        request = w.1.request;
      },
    )

-- what is known of a step that was read, from a position that is well formed
pub record Sound (p : Position) (rest : List ℕ) (c : Cycle) (next lines : ℕ) : Type 0 where
  pub inputs : Fits c.inputs
  pub outputs : FitsOut c.outputs
  pub count : p.count < most_cycles
  pub line : p.line + lines ≤ 12 * most_cycles + 17
  pub most : next ≤ 104
  pub inside : next ≤ length rest

pub sound : (p : Position) (rest : List ℕ) (c : Cycle) (next : ℕ) → position_formed p ≡ true
    → read_step_of p.n p.count p.before rest 0 ≡ Ok (Some (c, next)) → Sound p rest c next (lines_in (take next rest))
sound p rest c next formed e =
    let f = facts_of p formed in
    let g = found p.n p.count p.before rest c next e in
    let few : p.n ≤ most_masters = leb-true p.n most_masters (and_right (leb fewest_masters p.n) _ f.masters) in
    let fit = cycle_fits p.n c few g.valid in
    record {
      inputs = fit.0;
      outputs = fit.1;
      count = g.time;
      line = omega (arith, f.lines, f.room, g.lines, g.time);
      most = g.most;
      inside = g.inside;
    }
