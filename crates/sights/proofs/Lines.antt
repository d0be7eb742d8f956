-- The line of a variable, from its bytes.
--
--   here        == the byte at a position, and what stands after it
--   flag_line   == the line of a variable of one bit
--   vector_line == that of a variable of several
use Rattle.std.proofs.Common.{◌≡◌, ℕ, ◌+◌, ◌-◌, ◌%◌, ◌<◌, ◌≤◌, true, ◌&&◌, eqb, List, [], ◌∷◌, ◌++◌, length, get_or, take, drop, sym, ◌∙◌, arith, add-one, drop-cons, drop-drop, take-append-drop, length-drop, eqb-true}
use lib.ListN.{drop_of_length-le}
use lib.Seq.{length-take-le}
use Rattle.rules.proofs.Choice.{and_left, and_right}
use Rattle.waves.specs.Variables.{bits, change}
use Rattle.dumps.proofs.Bits.{scalar_line, vector_line as line_of}
use Rattle.sights.specs.Sights.{variable, LineOf}

here : (s : List ℕ) (i : ℕ) → i < length s → drop i s ≡ get_or s i 0 ∷ drop (i + 1) s
here s i h = rw add-one (drop-cons s i 0 h)

pub flag_line : (k u : ℕ) (s line rest : List ℕ) → 3 ≤ length s → line ≡ take 3 s → rest ≡ drop 3 s → length line ≡ 3
    → get_or line 0 0 ≡ 48 + u % 2 → get_or line 1 0 ≡ k → get_or line 2 0 ≡ 10 → LineOf 1 k s u rest
flag_line k u s line rest room front back size bit code lf =
    let none : drop 3 line ≡ [] = drop_of_length-le line {i = 3} (omega arith) in
    let two : drop 2 line ≡ 10 ∷ [] = rw (lf, none) at (here line 2 (omega arith)) in
    let one : drop 1 line ≡ k ∷ 10 ∷ [] = rw (code, two) at (here line 1 (omega arith)) in
    let whole : line ≡ change (variable 1 k) u = rw (scalar_line k u) (rw (bit, one) at (here line 0 (omega arith))) in
    sym (take-append-drop 3 s) ∙ rw (← front, ← back, whole)

module _ (w k u : ℕ) (s line rest : List ℕ) (few : 2 ≤ w) (room : w + 4 ≤ length s) (front : line ≡ take (w + 4) s) (back : rest ≡ drop (w + 4) s)
    (size : length line ≡ w + 4)
  where
    pub vector_line : get_or line (w + 2) 0 ≡ k → (eqb (get_or line 0 0) 98 && eqb (get_or line (w + 1) 0) 32 && eqb (get_or line (w + 3) 0) 10) ≡ true
        → take (w + 1 - 1) (drop 1 line) ≡ bits (length (take (w + 1 - 1) (drop 1 line))) u → LineOf w k s u rest
    vector_line code round characters =
        let tests = and_left (eqb (get_or line 0 0) 98 && eqb (get_or line (w + 1) 0) 32) (eqb (get_or line (w + 3) 0) 10) round in
        let first = eqb-true _ _ (and_left (eqb (get_or line 0 0) 98) (eqb (get_or line (w + 1) 0) 32) tests) in
        let space = eqb-true _ _ (and_right (eqb (get_or line 0 0) 98) (eqb (get_or line (w + 1) 0) 32) tests) in
        let lf = eqb-true _ _ (and_right (eqb (get_or line 0 0) 98 && eqb (get_or line (w + 1) 0) 32) (eqb (get_or line (w + 3) 0) 10) round) in
        let e : w + 1 - 1 ≡ w = omega arith in
        let f : 1 + w ≡ w + 1 = omega arith in
        let a : w + 1 + 1 ≡ w + 2 = omega arith in
        let b : w + 2 + 1 ≡ w + 3 = omega arith in
        let none : drop (w + 3 + 1) line ≡ [] = drop_of_length-le line (omega arith) in
        let three : drop (w + 3) line ≡ 10 ∷ [] = rw (lf, none) at (here line (w + 3) (omega arith)) in
        let two : drop (w + 2) line ≡ k ∷ 10 ∷ [] = rw (code, b, three) at (here line (w + 2) (omega arith)) in
        let last : drop (w + 1) line ≡ 32 ∷ k ∷ 10 ∷ [] = rw (space, a, two) at (here line (w + 1) (omega arith)) in
        let n : length (take w (drop 1 line)) ≡ w = length-take-le w (drop 1 line) (omega (arith, length-drop 1 line)) in
        let middle : drop 1 line ≡ bits w u ++ (32 ∷ k ∷ 10 ∷ []) =
        sym (take-append-drop w (drop 1 line)) ∙ rw (drop-drop w 1 line, f, last, rw (e, n) at characters) in
        let whole : line ≡ change (variable w k) u = rw (line_of k u w few) (rw (first, middle) at (here line 0 (omega arith))) in
        sym (take-append-drop (w + 4) s) ∙ rw (← front, ← back, whole)
