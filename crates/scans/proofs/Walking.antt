-- The walk over the lines of a step.
--
--   value_one, value_more == the value of a line, by the width of its variable
--   walk_absent, stray_absent, walk_placed, stray_placed == one variable: its line is there, or not, and may be
--   then_walk, then_stray, more_stray == one walk after the other
--   walk_whole == the whole step
use Rattle.std.proofs.Common.{◌≡◌, ℕ, ◌+◌, ◌-◌, ◌≤◌, Bool, true, false, not, cond, ◌&&◌, ◌||◌, eqb, List, [], ◌∷◌, ◌++◌, length, take, drop, refl, sym, ap, ◌∙◌, arith, eq-eqb, ne_eqb, append_assoc, length-take-le, length-drop}
use Rattle.rules.specs.declared.Inputs.{Inputs}
use Rattle.rules.specs.declared.Outputs.{Outputs}
use Rattle.rules.specs.declared.Cycle.{Cycle}
use Rattle.formats.specs.Columns.{input_columns, output_columns, input_values, output_values, cycle_values}
use Rattle.waves.specs.Variables.{Variable, variables, size_of, coded}
use Rattle.waves.specs.Reading.{placed, bits_in, value_in, shaped, values_in, cycle_of}
use Rattle.scans.specs.Walks.{variable, Walk, Stray}
use Rattle.scans.proofs.Bits.{bits_taken}

module _ (w k : ℕ) (s : List ℕ) (r : ℕ) (room : w + 1 ≤ length s) where
  pub value_one : w ≡ 1 → r ≡ bits_in (length (take w s)) (take w s) → r ≡ value_in (variable w k) s
  unfolding value_in
  value_one e h =
      let n : length (take w s) ≡ w = length-take-le w s (omega arith) in
      h ∙ rw (n, bits_taken w s, eq-eqb w 1 e)

  pub value_more : (w ≡ 1 → ⊥) → r ≡ bits_in (length (take (w + 1 - 1) (drop 1 s))) (take (w + 1 - 1) (drop 1 s)) → r ≡ value_in (variable w k) s
  unfolding value_in
  value_more e h =
      let j : w + 1 - 1 ≡ w = omega arith in
      let n : length (take w (drop 1 s)) ≡ w = length-take-le w (drop 1 s) (omega (arith, length-drop 1 s)) in
      h ∙ rw (j, n, bits_taken w (drop 1 s), ne_eqb w 1 e)

module _ (all : Bool) (w k v : ℕ) (s : List ℕ) (found : Bool) (ef : found ≡ placed (variable w k) s) where
  pub stray_absent : found ≡ false → all ≡ true → Stray all (variable w k ∷ []) (v ∷ []) s
  unfolding shaped
  stray_absent t a = record { shape = λ xs vs. rw (← ef, t, a) }

  pub walk_absent : found ≡ false → all ≡ false → Walk all (variable w k ∷ []) (v ∷ []) (v ∷ []) s s
  unfolding shaped values_in
  walk_absent t a = record { shape = λ xs vs. rw (← ef, t) (ap (λ q. not q && shaped all xs vs s) a); values = λ xs vs. rw (← ef, t) }

  module _ (u size : ℕ) (eu : u ≡ value_in (variable w k) s) (es : size ≡ cond (eqb w 1) (w + 2) (w + 4)) (t : found ≡ true) where
    pub walk_placed : (all || not (eqb u v)) ≡ true → Walk all (variable w k ∷ []) (v ∷ []) (u ∷ []) s (drop size s)
    unfolding shaped values_in size_of
    walk_placed a =
        record { shape = λ xs vs. rw (← ef, t, ← eu, ← es, a); values = λ xs vs. rw (← ef, t, ← eu, ← es) }

    pub stray_placed : (all || not (eqb u v)) ≡ false → Stray all (variable w k ∷ []) (v ∷ []) s
    unfolding shaped
    stray_placed a = record { shape = λ xs vs. rw (← ef, t, ← eu, a) }

module _ {all : Bool} {ys : List Variable} {ws us s t : List ℕ} (a : Walk all ys ws us s t) where
  pub then_walk : {zs : List Variable} {vs qs r : List ℕ} → Walk all zs vs qs t r → Walk all (ys ++ zs) (ws ++ vs) (us ++ qs) s r
  then_walk {zs} {vs} {qs} {r} b =
      record {
        shape = λ xs ps. rw (append_assoc ys zs xs, append_assoc ws vs ps) (a.shape (zs ++ xs) (vs ++ ps) ∙ b.shape xs ps);
        values = λ xs ps.
            rw (append_assoc ys zs xs, append_assoc ws vs ps, append_assoc us qs (values_in xs ps r))
            (a.values (zs ++ xs) (vs ++ ps) ∙ ap (λ l. us ++ l) (b.values xs ps));
      }

  pub then_stray : {zs : List Variable} {vs : List ℕ} → Stray all zs vs t → Stray all (ys ++ zs) (ws ++ vs) s
  then_stray {zs} {vs} b =
      record { shape = λ xs ps. rw (append_assoc ys zs xs, append_assoc ws vs ps) (a.shape (zs ++ xs) (vs ++ ps) ∙ b.shape xs ps) }

pub more_stray : {all : Bool} {ys : List Variable} {ws s : List ℕ} → Stray all ys ws s → (zs : List Variable) (vs : List ℕ) → Stray all (ys ++ zs) (ws ++ vs) s
more_stray {all} {ys} {ws} {s} a zs vs =
    record { shape = λ xs ps. rw (append_assoc ys zs xs, append_assoc ws vs ps) (a.shape (zs ++ xs) (vs ++ ps)) }

shape_end : (all : Bool) (t : List ℕ) → shaped all [] [] t ≡ eqb (length t) 0
unfolding shaped
shape_end all t = refl

values_end : (t : List ℕ) → values_in [] [] t ≡ []
unfolding values_in
values_end t = refl

module _ (all : Bool) (prev : Cycle) (s : List ℕ) where
  pub no_inputs : Stray all (coded 33 input_columns) (input_values prev.inputs) s → shaped all variables (cycle_values prev) s ≡ false
  no_inputs a = a.shape (coded 38 output_columns) (output_values prev.outputs)

  module _ (x : Inputs) (t : List ℕ) (a : Walk all (coded 33 input_columns) (input_values prev.inputs) (input_values x) s t) where
    pub no_outputs : Stray all (coded 38 output_columns) (output_values prev.outputs) t → shaped all variables (cycle_values prev) s ≡ false
    no_outputs b = a.shape (coded 38 output_columns) (output_values prev.outputs) ∙ b.shape [] []

    module _ (y : Outputs) (r : List ℕ) (b : Walk all (coded 38 output_columns) (output_values prev.outputs) (output_values y) t r) where
      pub shape_is : (f : Bool) → f ≡ eqb (length r) 0 → shaped all variables (cycle_values prev) s ≡ f
      shape_is f e = a.shape (coded 38 output_columns) (output_values prev.outputs) ∙ b.shape [] [] ∙ shape_end all r ∙ sym e

      pub cycle_is : record { inputs = x; outputs = y } ≡ cycle_of (values_in variables (cycle_values prev) s)
      unfolding cycle_of
      cycle_is =
          sym (ap cycle_of (a.values (coded 38 output_columns) (output_values prev.outputs) ∙ ap (λ l. input_values x ++ l) (b.values [] [] ∙ ap (λ l. output_values y ++ l) (values_end r))))
