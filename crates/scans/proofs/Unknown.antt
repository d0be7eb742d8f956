-- The codes of a step's lines, byte by byte.
--
--   here        == the byte at a position inside a text, and what follows it
--   first_there == the first byte of what follows a position
--   space_none, space_found, space_on == the search for a space at a LF, at a space, and at another byte
--   scalar, vector, no_change == where the code of a line stands
--   one_unknown, looking_on   == the search for an unknown code, from one byte to the next
use Rattle.std.proofs.Common.{◌≡◌, ℕ, ◌+◌, ◌-◌, ◌<◌, ◌≤◌, Bool, true, false, not, ◌&&◌, ◌||◌, eqb, leb, List, [], ◌∷◌, length, get_or, take, drop, refl, ◌∙◌, arith, length-drop, eq-eqb, ne_eqb, add-one, drop-cons, get_or-drop}
use lib.ListN.{drop_of_length-le}
use lib.Seq.{take_all}
use native.Mathlib.Numerals.{unary_clauses}
use Rattle.waves.specs.Reading.{is_scalar, is_vector, is_printed, after_space, code_in, unknown_code, unknown_from}

pub here : (s : List ℕ) (i : ℕ) → i < length s → drop i s ≡ get_or s i 0 ∷ drop (i + 1) s
here s i h = rw add-one (drop-cons s i 0 h)

pub first_there : (s : List ℕ) (i : ℕ) → get_or (drop i s) 0 0 ≡ get_or s i 0
first_there s i = simp unary_clauses at (get_or-drop i s 0 0)

pub rest : (s : List ℕ) (p : ℕ) → take (length s - p) (drop p s) ≡ drop p s
rest s p = take_all (length s - p) (drop p s) (simp length-drop (omega arith))

pub space_end : (s : List ℕ) (i : ℕ) → after_space s ≡ after_space (drop i s) → length s ≤ i → [] ≡ after_space s
unfolding after_space
space_end s i e h = rw (e, drop_of_length-le s h)

module _ (s : List ℕ) (i : ℕ) (e : after_space s ≡ after_space (drop i s)) (more : i < length s) where
  pub space_none : get_or s i 0 ≡ 10 → [] ≡ after_space s
  unfolding after_space
  space_none t = rw e (simp (here s i more, eq-eqb (get_or s i 0) 10 t))

  module _ (not_lf : get_or s i 0 ≡ 10 → ⊥) where
    pub space_found : get_or s i 0 ≡ 32 → drop (i + 1) s ≡ after_space s
    unfolding after_space
    space_found t = rw e (simp (here s i more, ne_eqb (get_or s i 0) 10 not_lf, eq-eqb (get_or s i 0) 32 t))

    pub space_on : (get_or s i 0 ≡ 32 → ⊥) → after_space s ≡ after_space (drop (i + 1) s)
    unfolding after_space
    space_on t = e ∙ simp (here s i more, ne_eqb (get_or s i 0) 10 not_lf, ne_eqb (get_or s i 0) 32 t)

-- the code of the line that s begins with
pub no_line : (s : List ℕ) → length s ≡ 0 → [] ≡ code_in s
unfolding code_in
no_line [] h = refl
no_line (b ∷ s) h = absurd (omega arith)

module _ (s : List ℕ) (b : ℕ) (r : List ℕ) (e : s ≡ b ∷ r) (f : Bool) (ef : f ≡ is_scalar b) where
  pub scalar : f ≡ true → r ≡ code_in s
  unfolding code_in
  scalar t = simp (e, ← ef, t)

  module _ (no : f ≡ false) (g : Bool) (eg : g ≡ is_vector b) where
    pub vector : (t : List ℕ) → g ≡ true → t ≡ after_space r → t ≡ code_in s
    unfolding code_in
    vector t h k = k ∙ simp (e, ← ef, no, ← eg, h)

    pub no_change : g ≡ false → [] ≡ code_in s
    unfolding code_in
    no_change h = simp (e, ← ef, no, ← eg, h)

pub code_known : (s code : List ℕ) (a b : ℕ) (f g : Bool) → code ≡ code_in s → a ≡ get_or code 0 0 → b ≡ get_or code 1 0 → f ≡ is_printed a → g ≡ is_printed b
    → (f && not (leb a 43 && not g)) ≡ unknown_code (code_in s)
unfolding unknown_code
code_known s code a b f g e ea eb ef eg = rw (← e, ← ea, ← eb, ← ef, ← eg)

pub none_unknown : (s : List ℕ) (starts : Bool) (i : ℕ) → unknown_from false s ≡ unknown_from starts (drop i s) → length s ≤ i → false ≡ unknown_from false s
unfolding unknown_from
none_unknown s starts i e h = rw (e, drop_of_length-le s h)

module _ (s : List ℕ) (starts : Bool) (i : ℕ) (e : unknown_from false s ≡ unknown_from starts (drop i s)) (more : i < length s)
    (u : Bool) (told : u ≡ unknown_code (code_in (take (length s - i) (drop i s))))
  where
    eu : u ≡ unknown_code (code_in (drop i s))
    eu = rw (rest s i) at told

    from_here : (f : Bool) → (starts && u) ≡ f → unknown_from starts (drop i s) ≡ (f || unknown_from (eqb (get_or s i 0) 10) (drop (i + 1) s))
    unfolding unknown_from
    from_here f t = let q : u ≡ unknown_code (code_in (get_or s i 0 ∷ drop (i + 1) s)) = rw (← here s i more) eu in rw (here s i more, ← q, t)

    pub one_unknown : (starts && u) ≡ true → true ≡ unknown_from false s
    one_unknown t = rw (e, from_here true t)

    pub looking_on : (starts && u) ≡ false → unknown_from false s ≡ unknown_from (eqb (get_or s i 0) 10) (drop (i + 1) s)
    looking_on t = e ∙ from_here false t
