-- The bytes of a written step: how many they are, and where they end.
--
--   step_text_lem == they are one text, which ends with LF
--   step_short    == of a time below 1,000,000 they are at most 104
--   step_long     == and at least 3
--   step_head     == the first is `#`, whatever follows them
--   step_whole    == they are the step that an input begins with, where a step ends after them
use Prim.Native.Nat.{ℕ, ◌≤◌, ◌<◌}
use mathlib.Core.Path.{◌≡◌, refl}
use mathlib.Core.Bool.{Bool, not, ◌||◌}
use mathlib.Core.List.{List, [], ◌∷◌, ◌++◌, append_assoc, append-nil}
use native.Mathlib.Omega.{arith}
use lib.Dec.{eqb}
use lib.ListN.{length, get_or, length-append}
use Rattle.rules.specs.declared.Cycle.{Cycle}
use Rattle.rules.specs.Codes.{most_cycles}
use Rattle.rules.proofs.Choice.{cond_elim}
use Rattle.formats.specs.Digits.{lf, decimal}
use Rattle.formats.specs.Columns.{cycle_values}
use Rattle.formats.proofs.Bytes.{Not, each_append}
use Rattle.formats.proofs.Decimal.{in_decimal}
use Rattle.waves.specs.Variables.{Variable, variables, change, size_of}
use Rattle.waves.specs.Steps.{hash, time_line, changes, dump_step}
use Rattle.waves.specs.Reading.{most_bytes, step_text}
use Rattle.waves.specs.Promises.{Ends}
use Rattle.waves.proofs.Ends.{Text, plain_text, text_append, up_to_text}
use Rattle.waves.proofs.Times.{time_plain, time_length}
use Rattle.waves.proofs.Changes.{front, change_is, front_plain, front_head}
use Rattle.waves.proofs.Shapes.{Coded, total, changes_length}
use Rattle.waves.proofs.Columns.{codes_rise}

change_text : (x : Variable) (v : ℕ) → (x.code ≡ lf → ⊥) → Text (change x v)
change_text x v other =
    rw (change_is x v, ← append_assoc (front x v) (x.code ∷ []) (lf ∷ []))
    (plain_text (front x v ++ (x.code ∷ [])) (each_append (Not lf) (front x v) (x.code ∷ []) (front_plain x v) (other, tt)))

change_head : (x : Variable) (v : ℕ) → get_or (change x v) 0 0 ≡ hash → ⊥
change_head x v = rw (change_is x v) (front_head x v (x.code ∷ (lf ∷ [])))

changes_text : (a : List ℕ) (all : Bool) (xs : List Variable) (vs us : List ℕ) → Text a → Coded xs → Text (a ++ changes all xs vs us)
unfolding changes
changes_text a all [] vs us h codes = rw (append-nil a) h
changes_text a all (x ∷ xs) [] us h codes = rw (append-nil a) h
changes_text a all (x ∷ xs) (v ∷ vs) [] h codes = rw (append-nil a) h
changes_text a all (x ∷ xs) (v ∷ vs) (u ∷ us) h codes =
    cond_elim (λ l. Text (a ++ (l ++ changes all xs vs us))) (all || not (eqb u v))
    (λ e.
    let line : Text (a ++ change x u) = text_append a (change x u) h (change_text x u (λ q. omega arith)) (change_head x u) in
    rw (← append_assoc a (change x u) (changes all xs vs us)) (changes_text (a ++ change x u) all xs vs us line codes.3))
    (λ e. changes_text a all xs vs us h codes.3)

pub step_text_lem : (prev : Cycle) (t : ℕ) (c : Cycle) → Text (dump_step prev t c)
unfolding dump_step time_line
step_text_lem prev t c =
    changes_text (time_line t) (eqb t 0) variables (cycle_values prev) (cycle_values c)
    (plain_text (hash ∷ decimal t) (time_plain t))
    codes_rise

pub step_short : (prev : Cycle) (t : ℕ) (c : Cycle) → t < most_cycles → length (dump_step prev t c) ≤ 104
unfolding dump_step total size_of
step_short prev t c h =
    omega (
      arith,
      length-append (time_line t) (changes (eqb t 0) variables (cycle_values prev) (cycle_values c)),
      time_length t h,
      changes_length (eqb t 0) variables (cycle_values prev) (cycle_values c),
    )

pub step_long : (prev : Cycle) (t : ℕ) (c : Cycle) → t < most_cycles → 3 ≤ length (dump_step prev t c)
unfolding dump_step time_line
step_long prev t c h =
    omega (
      arith,
      length-append (decimal t ++ (lf ∷ [])) (changes (eqb t 0) variables (cycle_values prev) (cycle_values c)),
      length-append (decimal t) (lf ∷ []),
      (in_decimal t (omega arith)).some,
    )

pub step_head : (prev : Cycle) (t : ℕ) (c : Cycle) (post : List ℕ) → get_or (dump_step prev t c ++ post) 0 0 ≡ hash
unfolding dump_step time_line
step_head prev t c post = refl

pub step_whole : (prev : Cycle) (t : ℕ) (c : Cycle) (post : List ℕ) → t < most_cycles → Ends post
    → step_text (dump_step prev t c ++ post) ≡ dump_step prev t c
step_whole prev t c post h ends =
    up_to_text most_bytes (dump_step prev t c) post (step_text_lem prev t c) (omega (arith, step_short prev t c h)) ends
