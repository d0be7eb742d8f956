-- The charges as flags, one for each rule, and as one number.
--
--   Counted l left m == the flags l but for those that are left have the number m
--   mask_next, mask_small, mask_whole == such a number takes one flag more; it is small; it has taken all
--   at_first, later == the flags that the code finds, in the order of the report: at the first cycle, and at another
use Prim.Native.Nat.{ℕ, ◌+◌, ◌*◌, ◌^◌, ◌≤◌, ◌<◌}
use mathlib.Core.Path.{◌≡◌, sym, ◌∙◌}
use mathlib.Core.Bool.{Bool, false, ◌&&◌}
use mathlib.Core.List.{List, [], ◌∷◌, ◌++◌, append_assoc, map}
use native.Mathlib.Omega.{arith}
use lib.Dec.{eqb}
use borrow.Author.Tests.{eq-eqb, ne_eqb}
use lib.ListN.{length, length-append}
use Rattle.std.proofs.lemmas.List.{nil_from_length}
use lib.Pow.{pow_mono}
use Rattle.rules.specs.declared.Cycle.{Cycle}
use Rattle.rules.specs.Step.{flag_of}
use Rattle.rulebook.specs.declared.Judge.{Judge}
use Rattle.rulebook.specs.Columns.{owners_request, handover, some_master}
use Rattle.rulebook.specs.Rules.{locked_incr, waits, a3, a4, a5, a6, a7, a8, a9, g1, g4, g5, g6, g7, g8, g9, g10, g12, rules}
use Rattle.rulebook.specs.Charges.{after_decision, reaches, on_g2, on_g3, charges}
use Rattle.rulebook.specs.Named.{mask_of}
use Rattle.rulebook.proofs.Named.{mask_below}

-- the flags l but for those that are left have the number m
pub record Counted (l left : List Bool) (m : ℕ) : Type 0 where
  pub size : length l ≡ 21
  pub done : List Bool
  pub split : l ≡ left ++ done
  pub is : m ≡ mask_of done

pub mask_next : {l left next : List Bool} {m : ℕ} (b : Bool) (v : ℕ) → Counted l left m → left ≡ next ++ (b ∷ []) → v ≡ flag_of b → Counted l next (2 * m + v)
unfolding mask_of
mask_next {l} {left} {next} {m} b v c e f =
    record {
      size = c.size;
      done = b ∷ c.done;
      split = c.split ∙ rw e (append_assoc next (b ∷ []) c.done);
      is = rw (← c.is, f) (omega arith);
    }

pub mask_small : {l left : List Bool} {m : ℕ} → Counted l left m → m < 2097152
mask_small {l} {left} {m} c =
    let size : length left + length c.done ≡ 21 = sym (length-append left c.done) ∙ (rw c.split at c.size) in
    let low : 2 ^ length c.done ≤ 2 ^ 21 = pow_mono {i = length c.done} {j = 21} (omega arith) in
    omega (arith, c.is, mask_below c.done)

pub mask_whole : {l left : List Bool} {m : ℕ} → Counted l left m → length left ≡ 0 → m ≡ mask_of l
mask_whole {l} {left} {m} c e = rw (c.split, nil_from_length left e) (c.is)

module _ (j : Judge) (c : Cycle) (b1 b8 h1 g2w g3w over request : Bool)
    (e1 : over ≡ handover c) (e2 : request ≡ owners_request c) (e3 : g2w ≡ on_g2 j.watch) (e4 : g3w ≡ on_g3 j.watch)
    (d1 : b1 ≡ locked_incr c) (d8 : b8 ≡ a8 c) (f1 : h1 ≡ g1 c) where
  pub at_first : (b9 h12 : Bool) → j.count ≡ 0 → b9 ≡ a9 c → h12 ≡ g12 c
      → (b1 && eqb (j.locked + 1) 1024) ∷ (waits c && eqb (j.waited + 1) 17) ∷ false ∷ false ∷ false ∷ false ∷ false ∷ b8 ∷ b9
      ∷ h1 ∷ (over && g2w && request) ∷ (over && g3w) ∷ false ∷ false ∷ false ∷ false ∷ false ∷ false ∷ false ∷ false ∷ h12 ∷ []
      ≡ map (charges j c) rules
  unfolding charges
  at_first b9 h12 e d9 f12 = rw (e1, e2, e3, e4, d1, d8, d9, f1, f12, eq-eqb j.count 0 e)

  pub later : (b3 b4 b5 b6 b7 h4 h5 h6 h7 h8 h9 h10 h11 : Bool) → (j.count ≡ 0 → ⊥)
      → b3 ≡ a3 j.previous c → b4 ≡ a4 j.previous c → b5 ≡ a5 j.previous c → b6 ≡ a6 j.previous c → b7 ≡ a7 j.previous c
      → h4 ≡ g4 j.previous c → h5 ≡ g5 j.previous c → h6 ≡ g6 j.previous c → h7 ≡ g7 j.previous c → h8 ≡ g8 j.previous c → h9 ≡ g9 j.previous c → h10 ≡ g10 j.previous c
      → h11 ≡ (after_decision j && some_master (reaches j c))
      → (b1 && eqb (j.locked + 1) 1024) ∷ (waits c && eqb (j.waited + 1) 17) ∷ b3 ∷ b4 ∷ b5 ∷ b6 ∷ b7 ∷ b8 ∷ false
      ∷ h1 ∷ (over && g2w && request) ∷ (over && g3w) ∷ h4 ∷ h5 ∷ h6 ∷ h7 ∷ h8 ∷ h9 ∷ h10 ∷ h11 ∷ false ∷ []
      ≡ map (charges j c) rules
  unfolding charges
  later b3 b4 b5 b6 b7 h4 h5 h6 h7 h8 h9 h10 h11 e d3 d4 d5 d6 d7 f4 f5 f6 f7 f8 f9 f10 f11 =
      rw (e1, e2, e3, e4, d1, d3, d4, d5, d6, d7, d8, f1, f4, f5, f6, f7, f8, f9, f10, f11, ne_eqb j.count 0 e)
