-- Every input of vcd2trace has exactly one form.
--
--   Stand pre t prev cs == the good steps cs stand after pre, from the time t on, and end at no more or at a refusal
--   steps_found == there are such steps, whatever stands before them
--   steps_same  == and no others
--   every_dump_has_one_form == the promise
use Rattle.std.specs.Prelude.{Err, None, Ok, Some}
use Prim.Native.Nat.{ℕ, zero, suc, ◌+◌, ◌≤◌, ◌<◌}
use mathlib.Core.Path.{◌≡◌, refl, sym, ◌∙◌, ap, subst}
use mathlib.Core.Bool.{Bool, true, false, true≢false}
use mathlib.Core.List.{List, [], ◌∷◌, ◌++◌, append_assoc, append-nil}
use native.Mathlib.Nat.{add-zero}
use native.Mathlib.Omega.{arith}
use lib.ListN.{length, take, drop, length-append, length-drop, take-append-drop}
use lib.Seq.{drop-append_seam}
use Rattle.rules.proofs.Parts.{line_parts, ok_parts}
use Rattle.rules.specs.declared.Refusal.{Refusal}
use Rattle.rules.specs.declared.Cycle.{Cycle}
use Rattle.rules.specs.Codes.{most_cycles}
use Rattle.formats.specs.Results.{HeaderRead, TraceRead}
use Rattle.formats.specs.Promises.{InRange, Each, ValidCycle}
use Rattle.waves.specs.Header.{dump_header, read_dump_header_of}
use Rattle.waves.specs.Steps.{dump_step}
use Rattle.waves.specs.Reading.{read_step_of}
use Rattle.waves.specs.Files.{no_cycle, steps_of, dump}
use Rattle.waves.specs.Promises.{Ends}
use Rattle.waves.proofs.StepTexts.{step_long}
use Rattle.waves.proofs.Near.{end_reads, end_read}
use Rattle.waves.proofs.Promises.{written_step_reads, read_step_writes, written_dump_header_reads, read_dump_header_writes}
use Rattle.promises.specs.AnyInput.{Form, no_header, cut_after, whole}
use Rattle.promises.specs.Waves.{last_of, Behind, DumpBegins, HasDump, EveryDumpHasOneForm}
use Rattle.promises.proofs.Recalled.{steps_end, behind}

-- what ends the good steps is no step
abbrev is_step : TraceRead → Bool
is_step (Ok (Some (c, next))) = true
is_step (Ok None) = false
is_step (Err r) = false

module _ (n : ℕ) (range : InRange n) (s : List ℕ) where
  abbrev after : List ℕ → ℕ → Cycle → List Cycle → TraceRead
  after pre t prev cs = read_step_of n (t + length cs) (last_of prev cs) s (length pre + length (steps_of prev t cs))

  record Stand (pre : List ℕ) (t : ℕ) (prev : Cycle) (cs : List Cycle) : Type 0 where
    good : Each (ValidCycle n) cs
    few : t + length cs ≤ most_cycles
    rest : List ℕ
    bytes : s ≡ pre ++ (steps_of prev t cs ++ rest)
    ends : Behind cs rest
    end : is_step (after pre t prev cs) ≡ false

  after_none : (pre : List ℕ) (t : ℕ) (prev : Cycle) → after pre t prev [] ≡ read_step_of n t prev s (length pre)
  unfolding steps_of
  after_none pre t prev = rw (add-zero t, add-zero (length pre))

  after_more : (pre : List ℕ) (t : ℕ) (prev c : Cycle) (cs : List Cycle) → after (pre ++ dump_step prev t c) (suc t) c cs ≡ after pre t prev (c ∷ cs)
  unfolding steps_of
  after_more pre t prev c cs =
      let count : suc t + length cs ≡ t + suc (length cs) = omega arith in
      let place : length (pre ++ dump_step prev t c) + length (steps_of c (suc t) cs) ≡ length pre + length (dump_step prev t c ++ steps_of c (suc t) cs) =
      omega (arith, length-append pre (dump_step prev t c), length-append (dump_step prev t c) (steps_of c (suc t) cs)) in
      rw (count, place)

  regroup : (pre a l rest : List ℕ) → pre ++ ((a ++ l) ++ rest) ≡ (pre ++ a) ++ (l ++ rest)
  regroup pre a l rest = simp append_assoc

  stand_none : (pre rest : List ℕ) (t : ℕ) (prev : Cycle) → s ≡ pre ++ rest → t ≤ most_cycles
      → is_step (read_step_of n t prev s (length pre)) ≡ false → Stand pre t prev []
  unfolding steps_of
  stand_none pre rest t prev at room e =
      record { good = tt; few = omega arith; rest = rest; bytes = at; ends = tt; end = ap is_step (after_none pre t prev) ∙ e }

  -- the last of the steps ends before the rest
  last_ends : (pre : List ℕ) (t : ℕ) (prev : Cycle) (cs : List Cycle) → Ends (drop (length pre) s) → (r : Stand pre t prev cs) → Ends r.rest
  unfolding steps_of
  last_ends pre t prev [] ends r = rw (ap (drop (length pre)) r.bytes ∙ drop-append_seam pre r.rest) at ends
  last_ends pre t prev (c ∷ cs) ends r = r.ends

  stand_more : (pre : List ℕ) (t : ℕ) (prev c : Cycle) (cs : List Cycle) → ValidCycle n c → Ends (drop (length (pre ++ dump_step prev t c)) s)
      → Stand (pre ++ dump_step prev t c) (suc t) c cs → Stand pre t prev (c ∷ cs)
  unfolding steps_of
  stand_more pre t prev c cs good ends r =
      record {
        good = (good, r.good);
        few = omega (arith, r.few);
        rest = r.rest;
        bytes = r.bytes ∙ sym (regroup pre (dump_step prev t c) (steps_of c (suc t) cs) r.rest);
        ends = last_ends (pre ++ dump_step prev t c) (suc t) c cs ends r;
        end = ap is_step (sym (after_more pre t prev c cs)) ∙ r.end;
      }

  first_stands : (pre : List ℕ) (t : ℕ) (prev c : Cycle) (cs : List Cycle) → Stand pre t prev (c ∷ cs)
      → read_step_of n t prev s (length pre) ≡ Ok (Some (c, length pre + length (dump_step prev t c)))
  unfolding steps_of
  first_stands pre t prev c cs r =
      rw (r.bytes, append_assoc (dump_step prev t c) (steps_of c (suc t) cs) r.rest)
      (written_step_reads n t prev c pre (steps_of c (suc t) cs ++ r.rest) range (omega (arith, r.few)) r.good.0 (steps_end cs (suc t) c r.rest r.ends))

  others_stand : (pre : List ℕ) (t : ℕ) (prev c : Cycle) (cs : List Cycle) → Stand pre t prev (c ∷ cs) → Stand (pre ++ dump_step prev t c) (suc t) c cs
  unfolding steps_of
  others_stand pre t prev c cs r =
      record {
        good = r.good.1;
        few = omega (arith, r.few);
        rest = r.rest;
        bytes = r.bytes ∙ regroup pre (dump_step prev t c) (steps_of c (suc t) cs) r.rest;
        ends = behind cs r.rest r.ends;
        end = ap is_step (after_more pre t prev c cs) ∙ r.end;
      }

  -- the good steps from a position on, where a step begins or nothing is left
  steps_found : (k t : ℕ) (prev : Cycle) (pre rest : List ℕ) → s ≡ pre ++ rest → length rest < k → t ≤ most_cycles
      → (cs : List Cycle) × Stand pre t prev cs
  steps_found zero t prev pre rest at fuel room = absurd (omega arith)
  steps_found (suc k) t prev pre rest at fuel room = go (read_step_of n t prev s (length pre)) refl (steps_found k)
    where
      go : (r : TraceRead) → read_step_of n t prev s (length pre) ≡ r
          → ((t : ℕ) (prev : Cycle) (pre rest : List ℕ) → s ≡ pre ++ rest → length rest < k → t ≤ most_cycles → (cs : List Cycle) × Stand pre t prev cs)
          → (cs : List Cycle) × Stand pre t prev cs
      go (Ok None) e later = ([], stand_none pre rest t prev at room (ap is_step e))
      go (Err r) e later = ([], stand_none pre rest t prev at room (ap is_step e))
      go (Ok (Some (c, next))) e later =
          let w = read_step_writes n t prev s (length pre) c next e in
          let size : ℕ = length (dump_step prev t c) in
          let here : drop (length pre) s ≡ rest = ap (drop (length pre)) at ∙ drop-append_seam pre rest in
          let step : dump_step prev t c ≡ take size rest = w.bytes ∙ ap (take size) here in
          let split : rest ≡ dump_step prev t c ++ drop size rest =
          sym (take-append-drop size rest) ∙ ap (λ (l : List ℕ). l ++ drop size rest) (sym step) in
          let place : next ≡ length (pre ++ dump_step prev t c) = w.after ∙ sym (length-append pre (dump_step prev t c)) in
          let total = ap length at ∙ length-append pre rest in
          let f =
          later (suc t) c (pre ++ dump_step prev t c) (drop size rest)
          (at ∙ ap (λ (l : List ℕ). pre ++ l) split ∙ sym (append_assoc pre (dump_step prev t c) (drop size rest)))
          (omega (arith, length-drop size rest, step_long prev t c w.time, w.inside, w.after, total))
          (omega (arith, w.time)) in
          (c ∷ f.0, stand_more pre t prev c f.0 w.valid (rw place at w.ends) f.1)

  -- and no others
  steps_same : (cs ds : List Cycle) (pre : List ℕ) (t : ℕ) (prev : Cycle) → Stand pre t prev cs → Stand pre t prev ds → cs ≡ ds
  steps_same [] [] pre t prev f g = refl
  steps_same [] (d ∷ ds) pre t prev f g =
      absurd (true≢false (sym (ap is_step (first_stands pre t prev d ds g)) ∙ sym (ap is_step (after_none pre t prev)) ∙ f.end))
  steps_same (c ∷ cs) [] pre t prev f g =
      absurd (true≢false (sym (ap is_step (first_stands pre t prev c cs f)) ∙ sym (ap is_step (after_none pre t prev)) ∙ g.end))
  steps_same (c ∷ cs) (d ∷ ds) pre t prev f g =
      let e = first_stands pre t prev c cs f in
      let e' = first_stands pre t prev d ds g in
      let same = sym (line_parts (sym e ∙ e')).0 in
      let others = others_stand pre t prev d ds g in
      let rest : cs ≡ ds = steps_same cs ds (pre ++ dump_step prev t c) (suc t) c (others_stand pre t prev c cs f) (rw same at others) in
      cc

nothing : (l : List ℕ) → length l ≡ 0 → l ≡ []
nothing [] e = refl
nothing (b ∷ l) e = absurd (omega arith)

module _ (s : List ℕ) where
  -- a header, good steps, and what ends them
  record Stepped (n : ℕ) (cs : List Cycle) : Type 0 where
    range : InRange n
    reads : read_dump_header_of s ≡ Ok (n, length (dump_header n))
    stand : Stand n range s (dump_header n) 0 no_cycle cs

  -- where the step after the good ones stands
  place : (n : ℕ) (cs : List Cycle) → length (dump n cs) ≡ length (dump_header n) + length (steps_of no_cycle 0 cs)
  unfolding dump
  place n cs = length-append (dump_header n) (steps_of no_cycle 0 cs)

  stepped : (n : ℕ) (cs : List Cycle) (rest : List ℕ) → DumpBegins s n cs rest
      → is_step (read_step_of n (length cs) (last_of no_cycle cs) s (length (dump n cs))) ≡ false → Stepped n cs
  unfolding dump
  stepped n cs rest b e =
      let at : s ≡ dump_header n ++ (steps_of no_cycle 0 cs ++ rest) = b.bytes ∙ append_assoc (dump_header n) (steps_of no_cycle 0 cs) rest in
      let none : 0 + length cs ≡ length cs = omega arith in
      record {
        range = b.masters;
        reads = rw at (written_dump_header_reads n (steps_of no_cycle 0 cs ++ rest) b.masters);
        stand =
            record {
              good = b.good;
              few = omega (arith, b.room);
              rest = rest;
              bytes = at;
              ends = b.ends;
              end = rw (none, ← length-append (dump_header n) (steps_of no_cycle 0 cs)) e;
            };
      }

  cut_stepped : (n : ℕ) (cs : List Cycle) (r : Refusal) → HasDump s (cut_after n cs r) → Stepped n cs
  cut_stepped n cs r h = stepped n cs h.0 h.1 (ap is_step h.2)

  -- at the end of a whole dump there is no more step
  whole_end : (n : ℕ) (cs : List Cycle) → HasDump s (whole n cs) → read_step_of n (length cs) (last_of no_cycle cs) s (length (dump n cs)) ≡ Ok None
  whole_end n cs h =
      let at : s ≡ dump n cs = h.bytes ∙ append-nil (dump n cs) in
      ap (λ (l : List ℕ). read_step_of n (length cs) (last_of no_cycle cs) s (length l)) (sym at)
      ∙ end_reads n (length cs) (last_of no_cycle cs) s h.masters

  whole_stepped : (n : ℕ) (cs : List Cycle) → HasDump s (whole n cs) → Stepped n cs
  whole_stepped n cs h = stepped n cs [] h (ap is_step (whole_end n cs h))

  agree : (n m : ℕ) (cs ds : List Cycle) → Stepped n cs → Stepped m ds → (n ≡ m) × (cs ≡ ds)
  agree n m cs ds f g =
      let same = sym (ok_parts (sym f.reads ∙ g.reads)).0 in
      (sym same, go m same ds g.range g.stand)
    where
      go : (m : ℕ) → m ≡ n → (ds : List Cycle) (range : InRange m) → Stand m range s (dump_header m) 0 no_cycle ds → cs ≡ ds
      go m same ds range stand = again (subst (λ (i : ℕ). (r : InRange i) × Stand i r s (dump_header i) 0 no_cycle ds) same (range, stand))
        where
          again : (r : InRange n) × Stand n r s (dump_header n) 0 no_cycle ds → cs ≡ ds
          again p = steps_same n f.range s cs ds (dump_header n) 0 no_cycle f.stand (moved p.1)
            where
              moved : Stand n p.0 s (dump_header n) 0 no_cycle ds → Stand n f.range s (dump_header n) 0 no_cycle ds
              moved t = record { good = t.good; few = t.few; rest = t.rest; bytes = t.bytes; ends = t.ends; end = t.end }

  unread : {P : Type 0} (r : Refusal) (n : ℕ) (cs : List Cycle) → HasDump s (no_header r) → Stepped n cs → P
  unread r n cs h f = let e = f.reads in let z : ◌≡◌ {A = ℕ} 0 1 = cc in absurd (omega arith)

  -- what is cut is not whole
  uncut : {P : Type 0} (n m : ℕ) (cs ds : List Cycle) (r : Refusal) → HasDump s (cut_after n cs r) → HasDump s (whole m ds) → P
  uncut n m cs ds r h g =
      let e = agree n m cs ds (cut_stepped n cs r h) (whole_stepped m ds g) in
      let x : read_step_of n (length cs) (last_of no_cycle cs) s (length (dump n cs)) ≡ (Ok None) = rw (e.0, e.1) (whole_end m ds g) in
      let y = h.2 in
      let z : ◌≡◌ {A = ℕ} 0 1 = cc in
      absurd (omega arith)

  forms_same : (f g : Form Cycle) → HasDump s f → HasDump s g → f ≡ g
  forms_same (no_header r) (no_header q) h k = let e : r ≡ q = cc in ap no_header e
  forms_same (no_header r) (cut_after n l q) h k = unread r n l h (cut_stepped n l q k)
  forms_same (no_header r) (whole n l) h k = unread r n l h (whole_stepped n l k)
  forms_same (cut_after n l r) (no_header q) h k = unread q n l k (cut_stepped n l r h)
  forms_same (cut_after n l r) (cut_after m j q) h k =
      let e = agree n m l j (cut_stepped n l r h) (cut_stepped m j q k) in
      let x : read_step_of n (length l) (last_of no_cycle l) s (length (dump n l)) ≡ Err q = rw (e.0, e.1) k.2 in
      let y = h.2 in
      let same : r ≡ q = cc in
      cc
  forms_same (cut_after n l r) (whole m j) h k = uncut n m l j r h k
  forms_same (whole n l) (no_header q) h k = unread q n l k (whole_stepped n l h)
  forms_same (whole n l) (cut_after m j q) h k = uncut m n j l q k h
  forms_same (whole n l) (whole m j) h k =
      let e = agree n m l j (whole_stepped n l h) (whole_stepped m j k) in
      cc

  -- the form of an input whose header is read, by what ends its good steps
  step_form : (n : ℕ) (cs : List Cycle) (range : InRange n) → Stand n range s (dump_header n) 0 no_cycle cs → (f : Form Cycle) × HasDump s f
  unfolding dump
  step_form n cs range t = go (read_step_of n (length cs) (last_of no_cycle cs) s (length (dump n cs))) refl
    where
      begins : DumpBegins s n cs t.rest
      begins =
          record {
            masters = range;
            good = t.good;
            room = omega (arith, t.few);
            bytes = t.bytes ∙ sym (append_assoc (dump_header n) (steps_of no_cycle 0 cs) t.rest);
            ends = t.ends;
          }

      end : is_step (read_step_of n (length cs) (last_of no_cycle cs) s (length (dump n cs))) ≡ false
      end =
          let none : 0 + length cs ≡ length cs = omega arith in
          rw (length-append (dump_header n) (steps_of no_cycle 0 cs)) (rw none at t.end)

      go : (x : TraceRead) → read_step_of n (length cs) (last_of no_cycle cs) s (length (dump n cs)) ≡ x → (f : Form Cycle) × HasDump s f
      go (Ok None) e =
          let size = ap length begins.bytes ∙ length-append (dump n cs) t.rest in
          let none : t.rest ≡ [] = nothing t.rest (omega (arith, end_read n (length cs) (last_of no_cycle cs) s (length (dump n cs)) e)) in
          (whole n cs, subst (DumpBegins s n cs) none begins)
      go (Err r) e = (cut_after n cs r, (t.rest, begins, e))
      go (Ok (Some (c, next))) e = absurd (true≢false (sym (ap is_step e) ∙ end))

  form_of : (f : Form Cycle) × HasDump s f
  form_of = go (read_dump_header_of s) refl
    where
      go : (h : HeaderRead) → read_dump_header_of s ≡ h → (f : Form Cycle) × HasDump s f
      go (Err r) e = (no_header r, e)
      go (Ok (n, next)) e =
          let h = read_dump_header_writes s n next e in
          let at : s ≡ dump_header n ++ drop next s =
          sym (take-append-drop next s) ∙ ap (λ (l : List ℕ). l ++ drop next s) (sym h.2) in
          let f = steps_found n h.0 s (suc (length (drop next s))) 0 no_cycle (dump_header n) (drop next s) at (omega arith) (omega arith) in
          step_form n f.0 h.0 f.1

pub every_dump_has_one_form : EveryDumpHasOneForm
every_dump_has_one_form s =
    let f = form_of s in
    (f.0, f.1, λ g h. forms_same s g f.0 h f.1)
