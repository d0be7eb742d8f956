-- Whole dumps: what is written reads back, and what is read writes back.
--
--   steps_read  == written steps read back, with fuel for one more
--   steps_write == steps that come to the end write back as the bytes from their start on, with fuel for every byte
--   dump_reads, dump_writes == the two round trips of a dump
use Rattle.std.specs.Prelude.{Err, None, Ok, Some}
use Prim.Native.Nat.{ℕ, zero, suc, ◌+◌, ◌≤◌, ◌<◌}
use mathlib.Core.Path.{◌≡◌, refl, sym, ◌∙◌, ap, ap₂}
use mathlib.Core.Logic.{inl, inr}
use mathlib.Core.Bool.{Bool, true, false, false≢true}
use mathlib.Core.List.{List, [], ◌∷◌, ◌++◌, append_assoc, append-nil}
use native.Mathlib.Omega.{arith}
use lib.ListN.{length, drop, length-append, take-append-drop, drop_of_length-le}
use lib.Seq.{drop-drop, drop-length}
use Rattle.rules.specs.declared.Cycle.{Cycle}
use Rattle.rules.specs.Codes.{most_cycles}
use Rattle.formats.specs.Results.{HeaderRead, TraceRead}
use Rattle.formats.specs.Files.{File, complete, refused_at}
use Rattle.formats.specs.Promises.{InRange, Each, ValidCycle}
use Rattle.waves.specs.Header.{dump_header, read_dump_header_of}
use Rattle.waves.specs.Steps.{dump_step}
use Rattle.waves.specs.Reading.{read_step_of}
use Rattle.waves.specs.Files.{no_cycle, steps_of, dump, before, onward, steps_from, after_header, read_dump}
use Rattle.waves.specs.Promises.{Ends}
use Rattle.waves.proofs.StepTexts.{step_long, step_head}
use Rattle.waves.proofs.Steps.{step_reads, step_writes}
use Rattle.waves.proofs.Near.{end_reads, end_read}
use Rattle.waves.proofs.Header.{header_reads, header_writes}

-- a step ends before the next, and before nothing
steps_end : (prev : Cycle) (t : ℕ) (cs : List Cycle) → Ends (steps_of prev t cs)
unfolding steps_of
steps_end prev t [] = inl refl
steps_end prev t (c ∷ cs) = inr (step_head prev t c (steps_of c (suc t) cs))

-- a step has bytes
steps_long : (prev : Cycle) (t : ℕ) (cs : List Cycle) → t + length cs ≤ most_cycles → length cs ≤ length (steps_of prev t cs)
unfolding steps_of
steps_long prev t [] h = omega arith
steps_long prev t (c ∷ cs) h =
    omega (
      arith,
      length-append (dump_step prev t c) (steps_of c (suc t) cs),
      step_long prev t c (omega arith),
      steps_long c (suc t) cs (omega arith),
    )

module _ (n : ℕ) (range : InRange n) (s : List ℕ) where
  pub steps_read : (cs : List Cycle) (k t : ℕ) (prev : Cycle) (pre : List ℕ) → s ≡ pre ++ steps_of prev t cs → Each (ValidCycle n) cs
      → t + length cs ≤ most_cycles → length cs < k → steps_from k n t prev s (length pre) ≡ complete n cs
  unfolding steps_from steps_of
  steps_read cs zero t prev pre e all few fuel = absurd (omega arith)
  steps_read [] (suc k) t prev pre e all few fuel =
      let last : s ≡ pre = e ∙ append-nil pre in
      rw (← last, end_reads n t prev s range)
  steps_read (c ∷ cs) (suc k) t prev pre e all few fuel =
      let step : List ℕ = dump_step prev t c in
      let post : List ℕ = steps_of c (suc t) cs in
      let first : read_step_of n t prev s (length pre) ≡ Ok (Some (c, length pre + length step)) =
      rw e (step_reads prev t c n pre post range (omega arith) all.0 (steps_end c (suc t) cs)) in
      let there : s ≡ (pre ++ step) ++ post = e ∙ sym (append_assoc pre step post) in
      let rest : steps_from k n (suc t) c s (length pre + length step) ≡ complete n cs =
      rw (← length-append pre step) (steps_read cs k (suc t) c (pre ++ step) there all.1 (omega arith) (omega arith)) in
      rw (first, rest)

pub dump_reads : (n : ℕ) (cs : List Cycle) → InRange n → Each (ValidCycle n) cs → length cs ≤ most_cycles → read_dump (dump n cs) ≡ complete n cs
unfolding dump read_dump
dump_reads n cs range all few =
    let steps : List ℕ = steps_of no_cycle 0 cs in
    let s : List ℕ = dump_header n ++ steps in
    let fuel : length cs < suc (length s) = omega (arith, steps_long no_cycle 0 cs (omega arith), length-append (dump_header n) steps) in
    rw (header_reads n steps range) (steps_read n range s cs (suc (length s)) 0 no_cycle (dump_header n) refl all (omega arith) fuel)

abbrev is_complete : File Cycle → Bool
is_complete (complete n cs) = true
is_complete (refused_at k r) = false

before_elim : {P : Type 0} (c : Cycle) (f : File Cycle) (n : ℕ) (cs : List Cycle) → before c f ≡ complete n cs
    → ((ds : List Cycle) → f ≡ complete n ds → cs ≡ c ∷ ds → P) → P
before_elim c (complete m ds) n cs e go = go ds (cc) (cc)
before_elim c (refused_at k r) n cs e go = absurd (false≢true (ap is_complete e))

-- steps that come to the end begin with a step, or there is none
onward_elim : {P : Type 0} (r : TraceRead) (m : ℕ) (s : List ℕ) (p : ℕ) (more : Cycle → ℕ → File Cycle) (n : ℕ) (cs : List Cycle)
    → onward r m s p more ≡ complete n cs
    → ((c : Cycle) (next : ℕ) (ds : List Cycle) → r ≡ Ok (Some (c, next)) → more c next ≡ complete n ds → cs ≡ c ∷ ds → P)
    → (r ≡ Ok None → m ≡ n → cs ≡ [] → P) → P
onward_elim (Ok (Some (c, next))) m s p more n cs e go end = before_elim c (more c next) n cs e (λ ds q l. go c next ds refl q l)
onward_elim (Ok None) m s p more n cs e go end = end refl (cc) (cc)
onward_elim (Err r) m s p more n cs e go end = absurd (false≢true (ap is_complete e))

pub record StepsWrote (n t : ℕ) (prev : Cycle) (s : List ℕ) (p m : ℕ) (cs : List Cycle) : Type 0 where
  pub masters : n ≡ m
  pub bytes : steps_of prev t cs ≡ drop p s
  pub valid : Each (ValidCycle n) cs
  pub few : t + length cs ≤ most_cycles

pub steps_write : (k n t : ℕ) (prev : Cycle) (s : List ℕ) (p m : ℕ) (cs : List Cycle) → length s < k + p → t ≤ most_cycles
    → steps_from k n t prev s p ≡ complete m cs → StepsWrote n t prev s p m cs
unfolding steps_from steps_of
steps_write zero n t prev s p m cs fuel early e =
    let none : [] ≡ cs = cc in
    rw (← none)
    (record { masters = cc; bytes = sym (drop_of_length-le s {i = p} (omega arith)); valid = tt; few = omega arith })
steps_write (suc k) n t prev s p m cs fuel early e =
    onward_elim (read_step_of n t prev s p) n s p (λ c next. steps_from k n (suc t) c s next) m cs e
    (λ c next ds first rest l.
    let w = step_writes n t prev s p c next first in
    let size = step_long prev t c w.time in
    let r = steps_write k n (suc t) c s next m ds (omega (arith, w.after)) w.time rest in
    let k : ℕ = length (dump_step prev t c) in
    let past : drop next s ≡ drop k (drop p s) = ap (λ i. drop i s) w.after ∙ sym (drop-drop k p s) in
    let bytes : dump_step prev t c ++ steps_of c (suc t) ds ≡ drop p s =
    ap₂ ◌++◌ w.bytes (r.bytes ∙ past) ∙ take-append-drop k (drop p s) in
    rw l (record { masters = r.masters; bytes = bytes; valid = (w.valid, r.valid); few = omega (arith, r.few) }))
    (λ last same l.
    rw (l, end_read n t prev s p last)
    (record { masters = same; bytes = sym (drop-length s); valid = tt; few = omega arith }))

header_elim : {P : Type 0} (h : HeaderRead) (s : List ℕ) (n : ℕ) (cs : List Cycle) → after_header h s ≡ complete n cs
    → ((m p : ℕ) → h ≡ Ok (m, p) → steps_from (suc (length s)) m 0 no_cycle s p ≡ complete n cs → P) → P
header_elim (Ok (m, p)) s n cs e go = go m p refl e
header_elim (Err r) s n cs e go = absurd (false≢true (ap is_complete e))

pub record DumpWrote (s : List ℕ) (n : ℕ) (cs : List Cycle) : Type 0 where
  pub masters : InRange n
  pub valid : Each (ValidCycle n) cs
  pub few : length cs ≤ most_cycles
  pub bytes : dump n cs ≡ s

pub dump_writes : (s : List ℕ) (n : ℕ) (cs : List Cycle) → read_dump s ≡ complete n cs → DumpWrote s n cs
unfolding read_dump dump
dump_writes s n cs e =
    header_elim (read_dump_header_of s) s n cs e
    (λ m p first rest.
    let h = header_writes s m p first in
    let r = steps_write (suc (length s)) m 0 no_cycle s p n cs (omega arith) (omega arith) rest in
    let same : m ≡ n = r.masters in
    let bytes : dump_header m ++ steps_of no_cycle 0 cs ≡ s = rw (h.bytes, r.bytes) (take-append-drop p s) in
    record {
      masters = rw same at h.range;
      valid = rw same at r.valid;
      few = omega (arith, r.few);
      bytes = rw same at bytes;
    })
