-- The writers of a header and of a step: which tests they make, and what is read where they wrote.
--
--   header_passes, header_fits == a header is written exactly where its tests pass
--   step_passes, step_fits == and a step
--   refused_kept       == a refused writer leaves the buffer as it was
--   writes_all, written_reads, read_writes == the other promises of the writers
use Rattle.std.specs.Prelude.{Err, Ok, Some}
use Prim.Native.Nat.{ℕ, ◌+◌, ◌≤◌, ◌<◌}
use mathlib.Core.Path.{◌≡◌, refl, sym, ◌∙◌, ap}
use mathlib.Core.List.{List, ◌++◌}
use native.Mathlib.Omega.{arith}
use borrow.Author.Tests.{leb-false, lt-leb, le-ltb}
use lib.Dec.{leb}
use lib.ListN.{length, take, drop}
use Rattle.rules.specs.declared.Refusal.{Refusal}
use Rattle.rules.specs.declared.Refusal.TheVariants as refusal
use Rattle.rules.specs.Results.{Check}
use Rattle.rules.specs.declared.Cycle.{Cycle}
use Rattle.rules.specs.Codes.{most_cycles}
use Rattle.rules.specs.State.{masters_ok}
use Rattle.rules.specs.Valid.{cycle_check}
use Rattle.rules.proofs.Choice.{cond_elim}
use Rattle.formats.specs.Results.{Written}
use Rattle.formats.specs.Answers.{written_answer}
use Rattle.formats.specs.Lines.{fitted, for_masters, left}
use Rattle.formats.specs.Promises.{InRange, ValidCycle}
use Rattle.formats.proofs.Bytes.{below}
use Rattle.formats.proofs.Buffers.{writes}
use Rattle.formats.proofs.Limits.{range_ok, ok_range}
use Rattle.formats.proofs.Report.{refusal_some}
use Rattle.waves.specs.Header.{dump_header, write_dump_header_of, dump_header_written}
use Rattle.waves.specs.Steps.{dump_step, in_time, write_step_of, step_written}
use Rattle.waves.specs.Promises.{WritesTheValid, BuffersKept, WrittenIsRead, ReadIsWritten}
use Rattle.waves.proofs.Header.{header_reads, header_writes}
use Rattle.waves.proofs.Steps.{step_reads, step_writes}

-- a test that refuses answers no 0
never : {P : Type 0} (r : Refusal) → written_answer (Err r) ≡ 0 → P
never r e = absurd (omega (arith, refusal_some r, e))

fitted_passes : (k : Check) (size room : ℕ) → written_answer (fitted k size room) ≡ 0 → (k ≡ Ok tt) × (size ≤ room)
fitted_passes (Ok _) size room =
    below (λ a. written_answer a ≡ 0 → (◌≡◌ {A = Check} (Ok tt) (Ok tt)) × (size ≤ room)) room size
    (λ short e. never refusal.Short e)
    (λ fits e. (refl, fits))
fitted_passes (Err r) size room = never r

module _ {P : Type 0} where
  bad : (r : Refusal) → ◌≡◌ {A = Check} (Err r) (Ok tt) → P
  bad r e = let z : ◌≡◌ {A = ℕ} 0 1 = cc in absurd (omega arith)

  masters_pass : (n : ℕ) (k : Check) → for_masters n k ≡ Ok tt → (InRange n → k ≡ Ok tt → P) → P
  masters_pass n k =
      cond_elim (λ c. c ≡ Ok tt → (InRange n → k ≡ Ok tt → P) → P) (masters_ok n)
      (λ ok e go. go (ok_range n ok) e)
      (λ none e go. bad refusal.Masters e)

  time_passes : (t : ℕ) (k : Check) → in_time t k ≡ Ok tt → (t < most_cycles → k ≡ Ok tt → P) → P
  time_passes t k =
      cond_elim (λ c. c ≡ Ok tt → (t < most_cycles → k ≡ Ok tt → P) → P) (leb most_cycles t)
      (λ full e go. bad refusal.Full e)
      (λ early e go. go (leb-false most_cycles t early) e)

header_passes : (n room : ℕ) → written_answer (write_dump_header_of n room) ≡ 0 → InRange n × (length (dump_header n) ≤ room)
unfolding write_dump_header_of
header_passes n room e =
    let f = fitted_passes (for_masters n (Ok tt)) (length (dump_header n)) room e in
    masters_pass n (Ok tt) f.0 (λ range good. (range, f.1))

header_fits : (n room : ℕ) → InRange n → length (dump_header n) ≤ room → write_dump_header_of n room ≡ Ok (length (dump_header n))
unfolding write_dump_header_of
header_fits n room range fits = rw (range_ok n range, le-ltb room (length (dump_header n)) fits)

module _ (n t : ℕ) (prev c : Cycle) (room : ℕ) where
  step_passes : written_answer (write_step_of n t prev c room) ≡ 0
      → InRange n × (t < most_cycles) × ValidCycle n c × (length (dump_step prev t c) ≤ room)
  unfolding write_step_of
  step_passes e =
      let f = fitted_passes (for_masters n (in_time t (cycle_check n c))) (length (dump_step prev t c)) room e in
      masters_pass n (in_time t (cycle_check n c)) f.0
      (λ range time_in_range. time_passes t (cycle_check n c) time_in_range (λ time good. (range, time, good, f.1)))

  step_fits : InRange n → t < most_cycles → ValidCycle n c → length (dump_step prev t c) ≤ room
      → write_step_of n t prev c room ≡ Ok (length (dump_step prev t c))
  unfolding write_step_of
  step_fits range time good fits =
      rw (range_ok n range, lt-leb most_cycles t time, good, le-ltb room (length (dump_step prev t c)) fits)

pub writes_all : WritesTheValid
writes_all =
    record {
      header = λ n room. (header_passes n room, λ h. ap written_answer (header_fits n room h.0 h.1));
      step = λ n t prev c room. (
        step_passes n t prev c room,
        λ h. ap written_answer (step_fits n t prev c room h.0 h.1 h.2 h.3),
      );
    }

-- the buffer after a writer that wrote, and how many bytes that was
module _ (n : ℕ) (buffer : List ℕ) (k : ℕ) where
  header_done : write_dump_header_of n (length buffer) ≡ Ok k
      → (k ≡ length (dump_header n)) × (dump_header_written n buffer ≡ dump_header n ++ drop k buffer)
  unfolding write_dump_header_of dump_header_written
  header_done e =
      let d = (writes (for_masters n (Ok tt)) (dump_header n) buffer).done (ap written_answer e) in
      let size : k ≡ length (dump_header n) = cc in
      (size, ap (λ (a : Written). left a (dump_header n) buffer) e)

  step_done : (t : ℕ) (prev c : Cycle) → write_step_of n t prev c (length buffer) ≡ Ok k
      → (k ≡ length (dump_step prev t c)) × (step_written n t prev c buffer ≡ dump_step prev t c ++ drop k buffer)
  unfolding write_step_of step_written
  step_done t prev c e =
      let d = (writes (for_masters n (in_time t (cycle_check n c))) (dump_step prev t c) buffer).done (ap written_answer e) in
      let size : k ≡ length (dump_step prev t c) = cc in
      (size, ap (λ (a : Written). left a (dump_step prev t c) buffer) e)

pub written_reads : WrittenIsRead
written_reads =
    record {
      header = λ n k buffer e.
          let d = header_done n buffer k e in
          let p = header_passes n (length buffer) (ap written_answer e) in
          rw (d.1, d.0) (header_reads n (drop (length (dump_header n)) buffer) p.0);
      step = λ n t prev c k pre buffer e ends.
          let d = step_done n buffer k t prev c e in
          let p = step_passes n t prev c (length buffer) (ap written_answer e) in
          rw d.1
          (step_reads prev t c n pre (drop k buffer) p.0 p.1 p.2 ends
          ∙ ap (λ i. Ok (Some (c, length pre + i))) (sym d.0));
    }

pub read_writes : ReadIsWritten
read_writes =
    record {
      header = λ s n next buffer e room.
          let w = header_writes s n next e in
          let fits : length (dump_header n) ≤ length buffer = omega (arith, w.past) in
          let a : write_dump_header_of n (length buffer) ≡ Ok next = header_fits n (length buffer) w.range fits ∙ ap Ok (sym w.past) in
          (a, (header_done n buffer next a).1 ∙ ap (λ l. l ++ drop next buffer) w.bytes);
      step = λ n t prev s p c k buffer e room.
          let w = step_writes n t prev s p c (p + k) e in
          let size : length (dump_step prev t c) ≡ k = omega (arith, w.after) in
          let fits : length (dump_step prev t c) ≤ length buffer = omega arith in
          let a : write_step_of n t prev c (length buffer) ≡ Ok k =
          step_fits n t prev c (length buffer) w.masters w.time w.valid fits ∙ ap Ok size in
          let bytes : dump_step prev t c ≡ take k (drop p s) = w.bytes ∙ ap (λ i. take i (drop p s)) size in
          (a, (step_done n buffer k t prev c a).1 ∙ ap (λ l. l ++ drop k buffer) bytes);
    }

-- no bytes were written
left_kept : (a : Written) (bytes buffer : List ℕ) → (written_answer a ≡ 0 → ⊥) → left a bytes buffer ≡ buffer
left_kept (Ok k) bytes buffer h = absurd (h refl)
left_kept (Err r) bytes buffer h = refl

pub refused_kept : BuffersKept
unfolding dump_header_written step_written
refused_kept =
    record {
      header = λ n buffer h. left_kept (write_dump_header_of n (length buffer)) (dump_header n) buffer h;
      step = λ n t prev c buffer h. left_kept (write_step_of n t prev c (length buffer)) (dump_step prev t c) buffer h;
    }
