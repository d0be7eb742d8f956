-- The bytes of a line, one by one.
--
--   size_found, size_on, size_end == at its LF, at another byte, and at the end of the text
use Rattle.std.proofs.Common.{◌≡◌, ℕ, suc, ◌+◌, ◌<◌, ◌≤◌, List, length, get_or, drop, arith, eq-eqb, ne_eqb}
use lib.ListN.{drop_of_length-le}
use Rattle.waves.specs.Reading.{line_size}
use Rattle.scans.proofs.Unknown.{here}

module _ (s : List ℕ) (i : ℕ) (e : line_size s ≡ i + line_size (drop i s)) where
  pub size_end : length s ≤ i → i ≡ line_size s
  unfolding line_size
  size_end h = let z : line_size (drop i s) ≡ 0 = rw (drop_of_length-le s h) in omega arith

  module _ (more : i < length s) where
    pub size_found : get_or s i 0 ≡ 10 → i ≡ line_size s
    unfolding line_size
    size_found t = let z : line_size (drop i s) ≡ 0 = simp (here s i more, eq-eqb (get_or s i 0) 10 t) in omega arith

    pub size_on : (get_or s i 0 ≡ 10 → ⊥) → line_size s ≡ i + 1 + line_size (drop (i + 1) s)
    unfolding line_size
    size_on t =
        let z : line_size (drop i s) ≡ suc (line_size (drop (i + 1) s)) = simp (here s i more, ne_eqb (get_or s i 0) 10 t) in omega arith
