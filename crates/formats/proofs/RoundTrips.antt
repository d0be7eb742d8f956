-- The promises of specs/RoundTrips.antt, each under its name.
--
--   Passes n k size room == what the tests of a writer leave: n, the check of its bytes, and the room for them
--   passes, writes_all == a writer that wrote passed them, and one that passes them writes
use Rattle.std.specs.Prelude.{Err, Ok}
use Prim.Native.Nat.{ℕ, ◌≤◌}
use mathlib.Core.Path.{◌≡◌, refl, ◌∙◌, ap}
use mathlib.Core.List.{List, ◌++◌}
use native.Mathlib.Omega.{arith}
use borrow.Author.Tests.{le-ltb}
use lib.ListN.{length, drop}
use Rattle.rules.specs.declared.Refusal.{Refusal}
use Rattle.rules.specs.declared.Refusal.TheVariants as refusal
use Rattle.rules.specs.Results.{Check}
use Rattle.rules.specs.State.{masters_ok}
use Rattle.rules.specs.Valid.{inputs_check, cycle_check}
use Rattle.rules.proofs.Choice.{cond_elim}
use Rattle.formats.specs.Results.{Written}
use Rattle.formats.specs.Answers.{written_answer}
use Rattle.formats.specs.Lines.{stimulus_line, trace_line, fitted, for_masters, left, read_stimulus_of, read_trace_of, write_stimulus_of, stimulus_written, write_trace_of, trace_written}
use Rattle.formats.specs.Headers.{header, read_header_of, write_header_of, header_written}
use Rattle.formats.specs.Promises.{InRange}
use Rattle.formats.specs.RoundTrips.{WritesTheValid, WrittenIsRead, ReadIsWritten}
use Rattle.formats.proofs.Bytes.{below}
use Rattle.formats.proofs.Limits.{range_ok, ok_range}
use Rattle.formats.proofs.Report.{refusal_some}
use Rattle.formats.proofs.Promises.{written_header_reads, read_header_writes, written_stimulus_line_reads, read_stimulus_line_writes, written_trace_line_reads, read_trace_line_writes}

record Passes (n : ℕ) (k : Check) (size room : ℕ) : Type 0 where
  range : InRange n
  good : k ≡ Ok tt
  fits : size ≤ room

never : {P : Type 0} (r : Refusal) → written_answer (Err r) ≡ 0 → P
never r e = absurd (omega (arith, refusal_some r, e))

module _ (n : ℕ) (k : Check) (size room : ℕ) where
  abbrev answer : Written
  answer = fitted (for_masters n k) size room

  tested : (c : Check) → written_answer (fitted c size room) ≡ 0 → (c ≡ Ok tt) × (size ≤ room)
  tested (Ok _) =
      below (λ a. written_answer a ≡ 0 → (◌≡◌ {A = Check} (Ok tt) (Ok tt)) × (size ≤ room)) room size
      (λ short e. never refusal.Short e)
      (λ fits e. (refl, fits))
  tested (Err r) = never r

  passes : written_answer answer ≡ 0 → Passes n k size room
  passes =
      cond_elim (λ c. written_answer (fitted c size room) ≡ 0 → Passes n k size room) (masters_ok n)
      (λ ok e. let t = tested k e in record { range = ok_range n ok; good = t.0; fits = t.1 })
      (λ ok e. never refusal.Masters e)

  writes_all : Passes n k size room → answer ≡ Ok size
  writes_all p = rw (range_ok n p.range, p.good, le-ltb room size p.fits)

  wrote : (j : ℕ) → answer ≡ Ok j → Passes n k size room × (j ≡ size)
  wrote j e =
      let p = passes (ap written_answer e) in
      let all = writes_all p in
      (p, cc)

pub writes_the_valid : WritesTheValid
unfolding write_header_of write_stimulus_of write_trace_of
writes_the_valid =
    record {
      header_line = λ w n room. (
        λ e. let p = passes n (Ok tt) (length (header w n)) room e in (p.range, p.fits),
        λ h. ap written_answer (writes_all n (Ok tt) (length (header w n)) room (record { range = h.0; good = refl; fits = h.1 })),
      );
      stimulus_line_lem = λ n x room. (
        λ e. let p = passes n (inputs_check n x) 16 room e in (p.range, p.good, p.fits),
        λ h. ap written_answer (writes_all n (inputs_check n x) 16 room (record { range = h.0; good = h.1; fits = h.2 })),
      );
      trace_line_lem = λ n c room. (
        λ e. let p = passes n (cycle_check n c) 31 room e in (p.range, p.good, p.fits),
        λ h. ap written_answer (writes_all n (cycle_check n c) 31 room (record { range = h.0; good = h.1; fits = h.2 })),
      );
    }

-- the buffer after a writer that wrote
module _ (line buffer : List ℕ) where
  filled : {a : Written} (k : ℕ) → a ≡ Ok k → left a line buffer ≡ line ++ drop k buffer
  filled k e = ap (λ (a : Written). left a line buffer) e

pub written_is_read : WrittenIsRead
unfolding write_header_of header_written write_stimulus_of stimulus_written write_trace_of trace_written
written_is_read =
    record {
      header_line = λ w n k buffer e.
          let p = wrote n (Ok tt) (length (header w n)) (length buffer) k e in
          ap (read_header_of w) (filled (header w n) buffer k e) ∙ rw p.1 (written_header_reads w n _ p.0.range);
      stimulus_line_lem = λ n x k pre buffer e.
          let p = wrote n (inputs_check n x) 16 (length buffer) k e in
          ap (λ (l : List ℕ). read_stimulus_of n (pre ++ l) (length pre)) (filled (stimulus_line x) buffer k e)
          ∙ rw p.1 (written_stimulus_line_reads n x pre _ p.0.range p.0.good);
      trace_line_lem = λ n c k pre buffer e.
          let p = wrote n (cycle_check n c) 31 (length buffer) k e in
          ap (λ (l : List ℕ). read_trace_of n (pre ++ l) (length pre)) (filled (trace_line c) buffer k e)
          ∙ rw p.1 (written_trace_line_reads n c pre _ p.0.range p.0.good);
    }

pub read_is_written : ReadIsWritten
unfolding write_header_of header_written write_stimulus_of stimulus_written write_trace_of trace_written
read_is_written =
    record {
      header_line = λ w s n next buffer e room.
          let r = read_header_writes w s n next e in
          let a : write_header_of w n (length buffer) ≡ Ok next =
          rw r.1 (writes_all n (Ok _) (length (header w n)) (length buffer) (record { range = r.0; good = refl; fits = rw r.1 at room })) in
          (a, filled (header w n) buffer next a ∙ ap (λ (l : List ℕ). l ++ drop next buffer) r.2);
      stimulus_line_lem = λ n s p x next buffer e room.
          let r = read_stimulus_line_writes n s p x next e in
          let a = writes_all n (inputs_check n x) 16 (length buffer) (record { range = r.0; good = r.1; fits = room }) in
          (a, filled (stimulus_line x) buffer 16 a ∙ ap (λ (l : List ℕ). l ++ drop 16 buffer) r.3);
      trace_line_lem = λ n s p c next buffer e room.
          let r = read_trace_line_writes n s p c next e in
          let a = writes_all n (cycle_check n c) 31 (length buffer) (record { range = r.0; good = r.1; fits = room }) in
          (a, filled (trace_line c) buffer 31 a ∙ ap (λ (l : List ℕ). l ++ drop 31 buffer) r.3);
    }
