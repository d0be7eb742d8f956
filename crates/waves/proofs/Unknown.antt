-- A written step has no value of an unknown variable.
--
--   unknown_skips == nothing is unknown in the rest of a line whose start was passed
--   code_in_lem   == the code of a written line is found
--   changes_known == no line of a value that was written has an unknown code
--   step_known    == nor has the step
use Prim.Native.Nat.{ℕ, zero, suc, ◌+◌, ◌/◌, ◌%◌, ◌^◌, ◌≤◌}
use mathlib.Core.Path.{◌≡◌, refl, ◌∙◌, ap}
use mathlib.Core.Bool.{Bool, true, false, not, ◌||◌, and-false}
use mathlib.Core.List.{List, [], ◌∷◌, ◌++◌, append_assoc}
use native.Mathlib.Omega.{arith}
use borrow.Author.Tests.{eqb-true, le-leb, ne_eqb}
use lib.Dec.{eqb}
use Rattle.rules.proofs.Choice.{either, cond_elim}
use Rattle.formats.specs.Digits.{lf, decimal}
use Rattle.formats.proofs.Bytes.{Not, each_append}
use Rattle.formats.proofs.Ends.{Plain}
use Rattle.waves.specs.Variables.{Variable, space, bits, change}
use Rattle.waves.specs.Steps.{hash, time_line, changes}
use Rattle.waves.specs.Reading.{is_printed, after_space, code_in, unknown_code, unknown_from, unknown_in}
use Rattle.waves.proofs.Bits.{bit_is}
use Rattle.waves.proofs.Times.{time_parts, time_plain}
use Rattle.waves.proofs.Changes.{front, change_parts, front_plain}
use Rattle.waves.proofs.Shapes.{Coded}

unknown_skips : (l r : List ℕ) → Plain l → unknown_from false (l ++ (lf ∷ r)) ≡ unknown_from true r
unfolding unknown_from
unknown_skips [] r h = refl
unknown_skips (b ∷ l) r h = rw (ne_eqb b lf h.0) (unknown_skips l r h.1)

-- a known code passes the start
known_skips : (s : List ℕ) → unknown_code (code_in s) ≡ false → unknown_from true s ≡ unknown_from false s
unfolding unknown_from
known_skips [] e = refl
known_skips (b ∷ s) e = rw e

after_bits : (w v : ℕ) (q : List ℕ) → after_space (bits w v ++ (space ∷ q)) ≡ q
unfolding after_space
after_bits zero v q = refl
after_bits (suc w) v q =
    let b : ℕ = 48 + v / 2 ^ w % 2 in
    rw (ne_eqb b lf (λ e. omega arith), ne_eqb b space (λ e. omega arith)) (after_bits w v q)

code_in_lem : (x : Variable) (v : ℕ) (q : List ℕ) → code_in (front x v ++ q) ≡ q
unfolding front code_in
code_in_lem x v q =
    either (eqb x.width 1)
    (λ one. rw (one, eqb-true x.width 1 one, bit_is (48 + v / 2 ^ 0 % 2) (omega arith) (omega arith)))
    (λ more. rw (more, append_assoc (bits x.width v) (space ∷ []) q) (after_bits x.width v q))

code_known : (k : ℕ) (r : List ℕ) → k ≤ 43 → unknown_code (k ∷ (lf ∷ r)) ≡ false
unfolding unknown_code
code_known k r h = rw (le-leb k 43 h) (and-false (is_printed k))

change_known : (x : Variable) (v : ℕ) (r : List ℕ) → 33 ≤ x.code → x.code ≤ 43
    → unknown_from true (change x v ++ r) ≡ unknown_from true r
change_known x v r few many =
    let k : ℕ = x.code in
    let s : List ℕ = front x v ++ (k ∷ (lf ∷ r)) in
    let known : unknown_code (code_in s) ≡ false = rw (code_in_lem x v (k ∷ (lf ∷ r))) (code_known k r many) in
    let plain : Plain (front x v ++ (k ∷ [])) =
    each_append (Not lf) (front x v) (k ∷ []) (front_plain x v) (λ e. omega arith, tt) in
    ap (unknown_from true) (change_parts x v r)
    ∙ known_skips s known
    ∙ rw (append_assoc (front x v) (k ∷ []) (lf ∷ r)) at (unknown_skips (front x v ++ (k ∷ [])) r plain)

pub changes_known : (all : Bool) (xs : List Variable) (vs us : List ℕ) → Coded xs → unknown_from true (changes all xs vs us) ≡ false
unfolding changes unknown_from
changes_known all [] vs us coded = refl
changes_known all (x ∷ xs) [] us coded = refl
changes_known all (x ∷ xs) (v ∷ vs) [] coded = refl
changes_known all (x ∷ xs) (v ∷ vs) (u ∷ us) coded =
    let more : unknown_from true (changes all xs vs us) ≡ false = changes_known all xs vs us coded.3 in
    cond_elim (λ l. unknown_from true (l ++ changes all xs vs us) ≡ false) (all || not (eqb u v))
    (λ e. change_known x u (changes all xs vs us) coded.0 coded.1 ∙ more)
    (λ e. more)

pub step_known : (t : ℕ) (all : Bool) (xs : List Variable) (vs us : List ℕ) → Coded xs
    → unknown_in (time_line t ++ changes all xs vs us) ≡ false
step_known t all xs vs us coded =
    rw (time_parts t (changes all xs vs us))
    (unknown_skips (hash ∷ decimal t) (changes all xs vs us) (time_plain t) ∙ changes_known all xs vs us coded)
