-- The promises of specs/JudgeCalls.antt, each under its name.
--
--   mask_read == the mask that a step leaves, read again, and its bits
--   Stepped, stepped == what a step that answered 0 did
--   RunOf, run_of_calls == calls from the bytes of the judge of a history judge what follows it
--   calls_of  == and every list of cycles that the judge takes has such calls
use Rattle.std.specs.Prelude.{Err, Ok}
use Prim.Native.Nat.{ℕ, zero, suc, ◌≤◌, ◌<◌}
use mathlib.Core.Path.{◌≡◌, refl, sym, ◌∙◌, ap, subst}
use mathlib.Core.Bool.{Bool}
use mathlib.Core.List.{List, [], ◌∷◌, ◌++◌, map}
use native.Mathlib.Omega.{arith}
use lib.ListN.{length, get_or, drop, length-append}
use lib.Seq.{drop-append_seam}
use Rattle.rules.specs.declared.Cycle.{Cycle}
use Rattle.rules.proofs.Choice.{order}
use Rattle.rulebook.specs.declared.Rule.{Rule}
use Rattle.rulebook.specs.declared.Rule.TheVariants.{A1}
use Rattle.rulebook.specs.declared.Judge.{Judge}
use Rattle.rulebook.specs.declared.Judgement.{Judgement}
use Rattle.rulebook.specs.declared.Started.{Started}
use Rattle.rulebook.specs.Results.{Verdict}
use Rattle.rulebook.specs.Traces.{so_far_after}
use Rattle.rulebook.specs.Rules.{rules, broken, broken_at}
use Rattle.rulebook.specs.State.{start_of}
use Rattle.rulebook.specs.Charges.{next_judge, charges}
use Rattle.rulebook.specs.Named.{mask_of}
use Rattle.rulebook.specs.Step.{number_of, taken_of, judge_of, Judging, ends, takes}
use Rattle.rulebook.specs.Kept.{kept_of, Sound}
use Rattle.rulebook.specs.Recounted.{with_count}
use Rattle.rulebook.proofs.Counts.{list_length}
use Rattle.rulebook.proofs.Exact.{kept_start, kept_step, exact}
use Rattle.rulebook.proofs.Soundness.{start_sound, step_sound}
use Rattle.rulebook.proofs.WellFormed.{facts_of}
use Rattle.rulebook.proofs.Answers.{taken as step_taken, next_judge_lem, begun}
use Rattle.rulebook.proofs.Named.{mask_bit, mask_below}
use Rattle.rulebook.proofs.Promises.{every_valid_trace_is_judged}
use Rattle.rulebook.proofs.Recounted.{exact_at_any_length}
use Rattle.formats.proofs.Report.{refusal_some}
use Rattle.words.specs.Words.{number_low}
use Rattle.docketing.specs.Bytes.{judge_size, judge_bytes}
use Rattle.docketing.specs.Calls.{mask_size, ruling_of, of_docket, judge_step, judge_number, judge_stored, mask_stored, judge_after, broken_after, start_after, JudgeStepCall, JudgeStartCall}
use Rattle.docketing.proofs.Bytes.{judge_fits, judge_length, read_again}
use Rattle.docketing.proofs.Calls.{flag_at, short_broken, short_start, long_enough, plain_start, refused_steps_keep}
use Rattle.promises.specs.JudgeCalls.{bit_of, Calls, none, taken, refused, CallsJudgeTheRun, EveryCycleIsTaken, LongRunsAreJudged}

-- the mask that a step leaves
module _ (f : Rule → Bool) (buffer : List ℕ) where
  mask_again : number_low 4 (mask_stored (mask_of (map f rules)) buffer) 0 ≡ mask_of (map f rules)
  unfolding mask_stored
  mask_again = let h : mask_of (map f rules) < 2097152 = mask_below (map f rules) in omega arith

  mask_read : (i : ℕ) → i < length rules → bit_of (mask_stored (mask_of (map f rules)) buffer) i ≡ f (get_or rules i A1)
  mask_read i h = rw mask_again (mask_bit (map f rules) i ∙ flag_at f rules i h)

-- the bytes of a judge, and what was lent behind them
rest_of : (j : Judge) (rest : List ℕ) → Sound j → drop judge_size (judge_bytes j ++ rest) ≡ rest
rest_of j rest s = subst (λ (k : ℕ). drop k (judge_bytes j ++ rest) ≡ rest) (judge_length j (judge_fits j s)) (drop-append_seam (judge_bytes j) rest)

bytes_room : (j : Judge) (rest : List ℕ) → Sound j → judge_size ≤ length (judge_bytes j ++ rest)
bytes_room j rest s = omega (arith, length-append (judge_bytes j) rest, judge_length j (judge_fits j s))

-- a step over them
module _ (j : Judge) (c : Cycle) (rest buffer : List ℕ) (s : Sound j) where
  abbrev lent : List ℕ
  lent = judge_bytes j ++ rest

  ruling : mask_size ≤ length buffer → judge_step lent buffer c ≡ ruling_of (judge_of j c)
  unfolding of_docket
  ruling space = long_enough lent buffer c (bytes_room j rest s) space ∙ rw (read_again j rest s)

  record Stepped (judge' mask : List ℕ) : Type 0 where
    verdict : (judge_of j c).verdict ≡ Ok tt
    bytes : judge' ≡ judge_bytes (judge_of j c).judge ++ rest
    writes : mask ≡ mask_stored (mask_of (judge_of j c).charged) buffer

  stepped : (judge' mask : List ℕ) → JudgeStepCall c lent buffer 0 judge' mask → Stepped judge' mask
  unfolding judge_stored
  stepped judge' mask call =
      order mask_size (length buffer)
      (λ space. go (judge_of j c).verdict refl (rw (ruling space) at call))
      (λ short. let e = short_broken lent buffer c (bytes_room j rest s) short in absurd (omega (arith, call.0 ∙ ap judge_number e)))
    where
      go : (v : Verdict) → (judge_of j c).verdict ≡ v
          → (0 ≡ judge_number (ruling_of (judge_of j c)))
          × (judge' ≡ judge_after (ruling_of (judge_of j c)) lent)
          × (mask ≡ broken_after (ruling_of (judge_of j c)) buffer)
          → Stepped judge' mask
      go (Ok _) q m =
          let e = rw q at m in
          record {
            verdict = q;
            bytes = e.1 ∙ ap (λ (l : List ℕ). judge_bytes (judge_of j c).judge ++ l) (rest_of j rest s);
            writes = e.2;
          }
      go (Err r) q m = let e = rw q at m in absurd (omega (arith, refusal_some r, e.0))

-- a call that is taken is a cycle that the judge takes, and says what is broken at it: j is the judge of the history h
module _ (n : ℕ) (pos : 0 < n) (j : Judge) (c : Cycle) (h : List Cycle) (kept : j ≡ kept_of n h) (e : (judge_of j c).verdict ≡ Ok tt) where
  next_kept : (judge_of j c).judge ≡ kept_of n (c ∷ h)
  next_kept = next_judge_lem j c (step_taken j c e) ∙ ap (λ (k : Judge). next_judge k c) kept ∙ kept_step n h c pos

  charged_is : (judge_of j c).charged ≡ map (charges j c) rules
  unfolding taken_of
  charged_is = ap (λ (a : Judgement). a.charged) (step_taken j c e).is

  told : (buffer mask : List ℕ) → mask ≡ mask_stored (mask_of (judge_of j c).charged) buffer
      → (i : ℕ) → i < length rules → bit_of mask i ≡ broken n (get_or rules i A1) (c ∷ h)
  told buffer mask m i below =
      let r = get_or rules i A1 in
      rw (m, charged_is)
      (mask_read (charges j c) buffer i below ∙ ap (λ (k : Judge). charges k c r) kept ∙ exact n h c pos r)

next_sound : (j : Judge) (c : Cycle) → Sound j → (judge_of j c).verdict ≡ Ok tt → Sound (judge_of j c).judge
next_sound j c s e = let t = step_taken j c e in rw (next_judge_lem j c t) (step_sound j c s t.good t.room)

-- the names of a first cycle and of those that follow
named : (n : ℕ) → 0 < n → (h : List Cycle) (j : Judge) (c : Cycle) (cs : List Cycle) (masks : List (List ℕ)) (buffer mask : List ℕ) → j ≡ kept_of n h
    → (judge_of j c).verdict ≡ Ok tt → mask ≡ mask_stored (mask_of (judge_of j c).charged) buffer
    → ((t i : ℕ) → t < length cs → i < length rules → bit_of (get_or masks t []) i ≡ broken n (get_or rules i A1) (so_far_after (c ∷ h) cs t))
    → (t i : ℕ) → t < length (c ∷ cs) → i < length rules → bit_of (get_or (mask ∷ masks) t []) i ≡ broken n (get_or rules i A1) (so_far_after h (c ∷ cs) t)
unfolding so_far_after
named n pos h j c cs masks buffer mask kept v m later zero i below inside = told n pos j c h kept v buffer mask m i inside
named n pos h j c cs masks buffer mask kept v m later (suc t) i below inside = later t i (omega arith) inside

-- the run from j over cs, and what it leaves
record RunOf (n : ℕ) (h : List Cycle) (j : Judge) (rest : List ℕ) (cs : List Cycle) (masks : List (List ℕ)) (last : List ℕ) : Type 0 where
  end : Judge
  run : Judging j cs end
  bytes : last ≡ judge_bytes end ++ rest
  as_many : length masks ≡ length cs
  names : (t i : ℕ) → t < length cs → i < length rules → bit_of (get_or masks t []) i ≡ broken n (get_or rules i A1) (so_far_after h cs t)

run_of_calls : {judge last : List ℕ} {cs : List Cycle} {masks : List (List ℕ)} → Calls judge cs masks last
    → (n : ℕ) → 0 < n → (h : List Cycle) (j : Judge) (rest : List ℕ) → Sound j → j ≡ kept_of n h → judge ≡ judge_bytes j ++ rest
    → RunOf n h j rest cs masks last
unfolding so_far_after
run_of_calls none n pos h j rest s kept at =
    record { end = j; run = ends; bytes = at; as_many = refl; names = λ t i below inside. absurd (omega arith) }
run_of_calls (taken {c = c} {judge' = judge'} {mask = mask} {cs = cs} {masks = masks} buffer call more) n pos h j rest s kept at =
    let p = stepped j c rest buffer s judge' mask (rw at at call) in
    let v = p.verdict in
    let r = run_of_calls more n pos (c ∷ h) (judge_of j c).judge rest (next_sound j c s v) (next_kept n pos j c h kept v) p.bytes in
    record {
      end = r.end;
      run = takes v r.run;
      bytes = r.bytes;
      as_many = ap suc r.as_many;
      names = named n pos h j c cs masks buffer mask kept v p.writes r.names;
    }
run_of_calls (refused {judge = judge} {judge' = judge'} c buffer mask number some call more) n pos h j rest s kept at =
    run_of_calls more n pos h j rest s kept ((refused_steps_keep c judge buffer judge' mask number some call).0 ∙ at)

-- a start that answered 0
started : (n : ℕ) (lent judge : List ℕ) → JudgeStartCall n lent 0 judge
    → ((start_of n).verdict ≡ Ok tt) × (judge ≡ judge_bytes (start_of n).judge ++ drop judge_size lent)
unfolding judge_stored
started n lent judge call =
    order judge_size (length lent)
    (λ room. go (start_of n).verdict refl (rw (plain_start n lent room) at call))
    (λ short. let e = short_start n lent short in absurd (omega (arith, call.0 ∙ ap (λ (a : Started). number_of a.verdict) e)))
  where
    go : (v : Verdict) → (start_of n).verdict ≡ v
        → (0 ≡ number_of (start_of n).verdict) × (judge ≡ start_after (start_of n) lent)
        → ((start_of n).verdict ≡ Ok tt) × (judge ≡ judge_bytes (start_of n).judge ++ drop judge_size lent)
    go (Ok _) q m = let e = rw q at m in (q, e.1)
    go (Err r) q m = let e = rw q at m in absurd (omega (arith, refusal_some r, e.0))

pub calls_judge_the_run : CallsJudgeTheRun
unfolding broken_at
calls_judge_the_run n lent judge last cs masks call calls =
    let b = started n lent judge call in
    let g = begun n b.0 in
    let s : Sound (start_of n).judge = rw g.is (start_sound n g.few g.many) in
    let pos : 0 < n = omega (arith, g.few) in
    let r = run_of_calls calls n pos [] (start_of n).judge (drop judge_size lent) s (g.is ∙ sym (kept_start n)) b.1 in
    record {
      end = r.end;
      run = record { begun = b.0; run = r.run };
      bytes = r.bytes;
      as_many = r.as_many;
      names = r.names;
    }

-- each cycle that the judge takes is a call
call_of : (j : Judge) (c : Cycle) (rest buffer : List ℕ) → Sound j → mask_size ≤ length buffer → (judge_of j c).verdict ≡ Ok tt
    → JudgeStepCall c (judge_bytes j ++ rest) buffer 0 (judge_bytes (judge_of j c).judge ++ rest) (mask_stored (mask_of (judge_of j c).charged) buffer)
unfolding judge_stored
call_of j c rest buffer s space v =
    let kept_rest : judge_bytes (judge_of j c).judge ++ drop judge_size (judge_bytes j ++ rest) ≡ judge_bytes (judge_of j c).judge ++ rest =
    ap (λ (l : List ℕ). judge_bytes (judge_of j c).judge ++ l) (rest_of j rest s) in
    rw (ruling j c rest buffer s space, v) (refl, sym kept_rest, refl)

calls_of : {j k : Judge} {cs : List Cycle} → Judging j cs k → (rest buffer : List ℕ) → Sound j → mask_size ≤ length buffer
    → (masks : List (List ℕ)) × (last : List ℕ) × Calls (judge_bytes j ++ rest) cs masks last
calls_of {j = j} ends rest buffer s space = ([], judge_bytes j ++ rest, none)
calls_of (takes {j = j} {c = c} v r) rest buffer s space =
    let later = calls_of r rest buffer (next_sound j c s v) space in
    (mask_stored (mask_of (judge_of j c).charged) buffer ∷ later.0, later.1, taken buffer (call_of j c rest buffer s space v) later.2)

pub every_cycle_is_taken : EveryCycleIsTaken
unfolding judge_stored
every_cycle_is_taken n lent buffer cs few many valid room enough space =
    let d = (every_valid_trace_is_judged n cs few many room valid).1 in
    let v = d.begun in
    let s : Sound (start_of n).judge = rw (begun n v).is (start_sound n few many) in
    let calls = calls_of d.run (drop judge_size lent) buffer s space in
    (judge_bytes (start_of n).judge ++ drop judge_size lent, calls.0, calls.1, rw (plain_start n lent enough, v) (refl, refl), calls.2)

pub long_runs_are_judged : LongRunsAreJudged
unfolding kept_of
long_runs_are_judged n k c p h rest buffer few many valid more room space =
    let j : Judge = with_count k (kept_of n (p ∷ h)) in
    let e = exact_at_any_length n k c p h few many valid more room in
    let v : (judge_of j c).verdict ≡ (Ok tt) = ap (λ (a : Judgement). a.verdict) e in
    let s = facts_of j (step_taken j c v).sound (list_length 0 16 _) in
    let f : Rule → Bool = λ r. broken n r (c ∷ (p ∷ h)) in (
      mask_stored (mask_of (map f rules)) buffer,
      rw e at (call_of j c rest buffer s space v),
      mask_read f buffer,
    )
