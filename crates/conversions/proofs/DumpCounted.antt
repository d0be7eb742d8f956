-- The program trace2vcd counts its cycles, and the lines of its input.
--
--   dump_counts == a turn that goes on has counted its cycle
--   Level p q   == from p to q as many lines went by as cycles
--   stays_level == so it is after any stretch
use Prim.Native.Nat.{ℕ, zero, suc, ◌+◌}
use mathlib.Core.Path.{◌≡◌, refl}
use mathlib.Core.List.{List, [], ◌∷◌}
use native.Mathlib.Omega.{arith}
use lib.ListN.{drop}
use Rattle.streams.specs.Streams.{Turn, goes, stops, Stretch, on, done, before, step, stretch}
use Rattle.streams.specs.Stays.{kept}
use Rattle.streams.proofs.Counted.{Counting}
use Rattle.conversions.specs.declared.Position.{Position}
use Rattle.conversions.specs.Positions.{after}
use Rattle.conversions.specs.Dumping.{dump_turn}
use Rattle.conversions.proofs.DumpNear.{dump_goes}

pub dump_counts : Counting (λ (p : Position). p.count) dump_turn
dump_counts p rest bytes t k e =
    let d = dump_goes p rest bytes t k e in
    rw d.next (refl, omega (arith, d.room))

abbrev pub Level : Position → Position → Type 0
Level p q = q.line + p.count ≡ p.line + q.count

level_before : (p : Position) (bytes : List ℕ) (t : Stretch Position) → Level p (kept t) → Level p (kept (before bytes t))
level_before p bytes (on more q) l = l
level_before p bytes (done more q) l = l

pub stays_level : (k : ℕ) (p : Position) (block : List ℕ) → Level p (kept (stretch dump_turn k p block))
unfolding stretch
stays_level zero p block = refl
stays_level (suc k) p [] = refl
stays_level (suc k) p (b ∷ block) = go (dump_turn p (b ∷ block)) refl (λ t n. stays_level k t (drop n (b ∷ block)))
  where
    go : (a : Turn Position) → dump_turn p (b ∷ block) ≡ a → ((t : Position) (n : ℕ) → Level t (kept (stretch dump_turn k t (drop n (b ∷ block)))))
        → Level p (kept (step p (dump_turn p (b ∷ block)) (λ t n. stretch dump_turn k t (drop n (b ∷ block)))))
    go (goes bytes t n) e later =
        let d = dump_goes p (b ∷ block) bytes t n e in
        let x = stretch dump_turn k t (drop n (b ∷ block)) in
        let l : Level t (kept x) = later t n in
        rw e (level_before p bytes x (moved d.cycle t (kept x) d.next l))
      where
        moved : (c : _) (t q : Position) → t ≡ after p c 1 → Level t q → Level p q
        moved c t q is l = let m = rw is at l in omega (arith, m)
    go (stops bytes) e later = rw e
