-- Reading a whole dump that is refused tells the refusal and its line.
--
--   steps_refuse   == good steps, and then one that is refused
--   refused_dumps_are_told == the promise of specs/Waves.antt
use Rattle.std.specs.Prelude.{Err, Ok, Some}
use Prim.Native.Nat.{ℕ, zero, suc, ◌+◌, ◌≤◌, ◌<◌}
use mathlib.Core.Path.{◌≡◌, sym, ◌∙◌, ap}
use mathlib.Core.List.{List, [], ◌∷◌, ◌++◌, append_assoc}
use native.Mathlib.Nat.{add-zero}
use native.Mathlib.Omega.{arith}
use lib.ListN.{length, length-append}
use lib.Seq.{take-append_seam}
use Rattle.rules.specs.declared.Refusal.{Refusal}
use Rattle.rules.specs.declared.Cycle.{Cycle}
use Rattle.rules.specs.Codes.{most_cycles}
use Rattle.formats.specs.Results.{HeaderRead}
use Rattle.formats.specs.Files.{refused_at}
use Rattle.formats.specs.Promises.{InRange, Each, ValidCycle}
use Rattle.waves.specs.Header.{dump_header, read_dump_header_of}
use Rattle.waves.specs.Steps.{dump_step}
use Rattle.waves.specs.Reading.{read_step_of}
use Rattle.waves.specs.Files.{no_cycle, steps_of, dump, lines_in, line_at, steps_from, after_header, read_dump}
use Rattle.waves.proofs.Promises.{written_step_reads, written_dump_header_reads}
use Rattle.promises.specs.AnyInput.{cut_after}
use Rattle.promises.specs.Waves.{last_of, Behind, HasDump, RefusedDumpsAreTold}
use Rattle.promises.proofs.Recalled.{steps_end, behind, steps_long}

module _ (n : ℕ) (range : InRange n) (s : List ℕ) where
  steps_refuse : (cs : List Cycle) (k t : ℕ) (prev : Cycle) (pre rest : List ℕ) (r : Refusal) → s ≡ pre ++ (steps_of prev t cs ++ rest)
      → Each (ValidCycle n) cs → t + length cs ≤ most_cycles → length cs < k → Behind cs rest
      → read_step_of n (t + length cs) (last_of prev cs) s (length pre + length (steps_of prev t cs)) ≡ Err r
      → steps_from k n t prev s (length pre) ≡ refused_at (line_at s (length pre + length (steps_of prev t cs))) r
  unfolding steps_from steps_of
  steps_refuse cs zero t prev pre rest r at valid room fuel ends e = absurd (omega arith)
  steps_refuse [] (suc k) t prev pre rest r at valid room fuel ends e =
      let f = rw (add-zero t, add-zero (length pre)) at e in
      rw (add-zero (length pre), f)
  steps_refuse (c ∷ cs) (suc k) t prev pre rest r at valid room fuel ends e =
      let step : List ℕ = dump_step prev t c in
      let post : List ℕ = steps_of c (suc t) cs in
      let there : s ≡ pre ++ (step ++ (post ++ rest)) = at ∙ ap (λ (l : List ℕ). pre ++ l) (append_assoc step post rest) in
      let first : read_step_of n t prev s (length pre) ≡ Ok (Some (c, length pre + length step)) =
      rw there (written_step_reads n t prev c pre (post ++ rest) range (omega arith) valid.0 (steps_end cs (suc t) c rest ends)) in
      let count : t + suc (length cs) ≡ suc t + length cs = omega arith in
      let place : length pre + length (step ++ post) ≡ length (pre ++ step) + length post =
      omega (arith, length-append step post, length-append pre step) in
      let next : length pre + length step ≡ length (pre ++ step) = sym (length-append pre step) in
      let later =
      steps_refuse cs k (suc t) c (pre ++ step) rest r (there ∙ sym (append_assoc pre step (post ++ rest))) valid.1 (omega arith) (omega arith)
      (behind cs rest ends) (rw (count, place) at e) in
      rw (first, place, next, later)

-- the lines of the bytes before the rest
line_after : (a b : List ℕ) → line_at (a ++ b) (length a) ≡ suc (lines_in a)
line_after a b = ap (λ (l : List ℕ). suc (lines_in l)) (take-append_seam a b)

dump_refused : (s : List ℕ) (n : ℕ) (cs : List Cycle) (r : Refusal) → HasDump s (cut_after n cs r) → read_dump s ≡ refused_at (suc (lines_in (dump n cs))) r
unfolding read_dump dump
dump_refused s n cs r h =
    let b = h.1 in
    let rest : List ℕ = h.0 in
    let steps : List ℕ = steps_of no_cycle 0 cs in
    let at : s ≡ dump_header n ++ (steps ++ rest) = b.bytes ∙ append_assoc (dump_header n) steps rest in
    let reads : read_dump_header_of s ≡ Ok (n, length (dump_header n)) = rw at (written_dump_header_reads n (steps ++ rest) b.masters) in
    let none : 0 + length cs ≡ length cs = omega arith in
    let size : length s ≡ length (dump_header n) + (length steps + length rest) =
    ap length at ∙ length-append (dump_header n) (steps ++ rest) ∙ ap (λ (k : ℕ). length (dump_header n) + k) (length-append steps rest) in
    let refused =
    steps_refuse n b.masters s cs (suc (length s)) 0 no_cycle (dump_header n) rest r at b.good (omega (arith, b.room))
    (omega (arith, size, steps_long cs 0 no_cycle (omega (arith, b.room)))) b.ends
    (rw (none, ← length-append (dump_header n) steps) h.2) in
    let line : line_at s (length (dump_header n ++ steps)) ≡ suc (lines_in (dump_header n ++ steps)) =
    ap (λ (l : List ℕ). line_at l (length (dump_header n ++ steps))) b.bytes ∙ line_after (dump_header n ++ steps) rest in
    ap (λ (a : HeaderRead). after_header a s) reads
    ∙ refused
    ∙ ap (λ (k : ℕ). refused_at (line_at s k) r) (sym (length-append (dump_header n) steps))
    ∙ ap (λ (k : ℕ). refused_at k r) line

pub refused_dumps_are_told : RefusedDumpsAreTold
refused_dumps_are_told = record { header = λ s r h. unfold read_dump in rw h; step = dump_refused }
