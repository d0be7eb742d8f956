-- The rules that ask for some master, as one comparison of whole masks; and G6, whose owner is a bit of a mask.
--
--   some_beyond == some master is in the mask l and in none of a, b, c
--   a3_whole, g7_whole, g10_whole == the rule from the masks of the cycles p and t
--   g6_whole    == the rule from the owner's bit
use Prim.Native.Nat.{ℕ, zero, suc, ◌^◌, ◌<◌}
use mathlib.Core.Path.{◌≡◌, refl, sym, ◌∙◌, ap}
use mathlib.Core.Bool.{Bool, true, false, not, ◌&&◌, ◌||◌, cond}
use native.Mathlib.Omega.{arith}
use borrow.Author.Tests.{lt-ltb}
use lib.Dec.{eqb, ltb, eqb-zero-suc, eqb-suc-zero}
use lib.Bits.{bit_and, bit_or}
use Rattle.rules.specs.declared.Cycle.{Cycle}
use Rattle.rules.specs.Masks.{high, single}
use Rattle.rules.proofs.Masks.{high_single}
use Rattle.rulebook.specs.Columns.{some_below, is_ready, mastlocked, decided, requested, handover}
use Rattle.rulebook.specs.Rules.{differ, a3, g6, g7, g10}
use Rattle.charging.specs.Ready.{Fits}
use Rattle.keeping.proofs.Masks.{high_or, some_same, some_common, some_outside}

some_beyond : (k a b c l : ℕ) → l < 2 ^ k
    → some_below k (λ i. high l i && not (high a i || high b i || high c i)) ≡ not (eqb (bit_and l (bit_or (bit_or a b) c)) l)
some_beyond k a b c l h =
    some_same k _ _ (λ i. rw (high_or (bit_or a b) c i, high_or a b i)) ∙ some_outside k l (bit_or (bit_or a b) c) h

-- HLOCK is excused by HBUSREQ or HLOCK at p, or HBUSREQ at t
abbrev excused : Cycle → Cycle → ℕ
excused p t = bit_or (bit_or p.inputs.hbusreq p.inputs.hlock) t.inputs.hbusreq

pub a3_whole : (p t : Cycle) → Fits t → not (eqb (bit_and t.inputs.hlock (excused p t)) t.inputs.hlock) ≡ a3 p t
a3_whole p t fits =
    sym (some_same 16 _ _ (λ i. law (high p.inputs.hbusreq i) (high p.inputs.hlock i) (high t.inputs.hlock i) (high t.inputs.hbusreq i))
    ∙ some_beyond 16 p.inputs.hbusreq p.inputs.hlock t.inputs.hbusreq t.inputs.hlock fits.hlock)
  where
    law : (a b l c : Bool) → (not a && not b && l && not c) ≡ (l && not (a || b || c))
    law true b true c = refl
    law true b false c = refl
    law false true true c = refl
    law false true false c = refl
    law false false true c = refl
    law false false false c = refl

pub g6_whole : (p t : Cycle) (owner : ℕ) → Fits t → owner ≡ cond (ltb t.outputs.hmaster 32) (single t.outputs.hmaster) 0
    → (is_ready p && differ p.outputs.hgrant owner) ≡ g6 p t
g6_whole p t owner fits e =
    let h = fits.hmaster in
    let s : owner ≡ single t.outputs.hmaster = e ∙ rw (lt-ltb t.outputs.hmaster 32 (omega arith)) in
    rw s

pub g7_whole : (p t : Cycle) (over : Bool) → Fits p → over ≡ handover p
    → (over && not (eqb (bit_and p.inputs.hlock p.outputs.hgrant) 0) && not (mastlocked t)) ≡ g7 p t
g7_whole p t over fits e =
    rw (e, some_common 16 p.inputs.hlock p.outputs.hgrant fits.hlock)

-- the mask 1 names master 0
high_first : (i : ℕ) → high 1 i ≡ eqb i 0
high_first zero = high_single 0 0
high_first (suc i) = high_single 0 (suc i) ∙ eqb-zero-suc i ∙ sym (eqb-suc-zero i)

-- HGRANT is lawful where it was there at p, was asked for, or is that of master 0
abbrev lawful : Cycle → ℕ
lawful p = bit_or (bit_or p.outputs.hgrant p.inputs.hbusreq) 1

pub g10_whole : (p t : Cycle) (first : Bool) → Fits t → first ≡ high t.outputs.hgrant 0
    → (not (eqb (bit_and t.outputs.hgrant (lawful p)) t.outputs.hgrant) || decided p && not (requested p) && not first) ≡ g10 p t
g10_whole p t first fits e =
    rw e (ap (λ (b : Bool). b || decided p && not (requested p) && not (high t.outputs.hgrant 0)) (sym some))
  where
    law : (z a b l : Bool) → (not z && not a && not b && l) ≡ (l && not (a || b || z))
    law true true b true = refl
    law true true b false = refl
    law true false true true = refl
    law true false true false = refl
    law true false false true = refl
    law true false false false = refl
    law false true b true = refl
    law false true b false = refl
    law false false true true = refl
    law false false true false = refl
    law false false false true = refl
    law false false false false = refl

    some : some_below 16 (λ i. not (eqb i 0) && not (high p.outputs.hgrant i) && not (high p.inputs.hbusreq i) && high t.outputs.hgrant i)
        ≡ not (eqb (bit_and t.outputs.hgrant (lawful p)) t.outputs.hgrant)
    some =
        some_same 16 _ _ (λ i. rw (← high_first i) (law (high 1 i) (high p.outputs.hgrant i) (high p.inputs.hbusreq i) (high t.outputs.hgrant i)))
        ∙ some_beyond 16 p.outputs.hgrant p.inputs.hbusreq 1 t.outputs.hgrant fits.hgrant
