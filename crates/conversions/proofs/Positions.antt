-- A position that is well formed.
--
--   facts_of, test_of == a position passes its test exactly if it has the facts
use Prim.Native.Nat.{◌+◌, ◌*◌, ◌≤◌}
use mathlib.Core.Path.{◌≡◌}
use mathlib.Core.Bool.{true}
use borrow.Author.Tests.{leb-true, le-leb}
use lib.Dec.{leb}
use Rattle.rules.specs.Codes.{most_cycles}
use Rattle.rules.specs.State.{masters_ok}
use Rattle.rules.proofs.Choice.{and_left, and_right, and_both}
use Rattle.conversions.specs.declared.Position.{Position}
use Rattle.conversions.specs.Positions.{position_formed}

abbrev pub Formed : Position → Type 0
Formed p = position_formed p ≡ true

pub record Facts (p : Position) : Type 0 where
  pub masters : masters_ok p.n ≡ true
  pub room : p.count ≤ most_cycles
  pub lines : p.line ≤ 12 * p.count + 17

pub facts_of : (p : Position) → Formed p → Facts p
unfolding position_formed
facts_of p e =
    let m : masters_ok p.n ≡ true = search (and_left, and_right) depth 4 in
    let r : leb p.count most_cycles ≡ true = search (and_left, and_right) depth 4 in
    let l : leb p.line (12 * p.count + 17) ≡ true = search (and_left, and_right) depth 4 in
    record { masters = m; room = leb-true _ _ r; lines = leb-true _ _ l }

pub test_of : (p : Position) → Facts p → Formed p
unfolding position_formed
test_of p f = and_both (and_both f.masters (le-leb _ _ f.room)) (le-leb _ _ f.lines)
