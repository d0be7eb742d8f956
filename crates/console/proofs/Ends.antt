-- How a program ends, case by case.
--
--   met_on    == where the program goes on, its stretch did
--   met_came  == where it ends, that is what comes of its stretch
--   ends_last, ends_stopped == the same at the end of the input
use Rattle.std.specs.Prelude.{Err, Ok}
use Prim.Native.Nat.{ℕ}
use mathlib.Core.Path.{◌≡◌, refl, ap}
use mathlib.Core.Bool.{Bool, true, false, cond}
use mathlib.Core.List.{List}
use native.Mathlib.Omega.{arith}
use Rattle.streams.specs.Streams.{Stretch, on, done}
use Rattle.console.specs.declared.Ending.{Ending}
use Rattle.console.specs.declared.Ending.TheVariants.{Unwritten}
use Rattle.console.specs.Ends.{ends_of, outcome, Met, EndsAfter, Came}

module _ {S : Type 0} where
  pub met_on : (x : Stretch S) (t : S) → Met x (Ok t) → (bytes : List ℕ) × (x ≡ on bytes t)
  met_on x t m = go x m.0 m.1
    where
      go : (x : Stretch S) (given : Bool) → Ok t ≡ cond given (outcome x) (Err Unwritten) → (bytes : List ℕ) × (x ≡ on bytes t)
      go (on bytes s) true e = let same : s ≡ t = cc in (bytes, ap (on bytes) same)
      go (done bytes s) true e = let z : ◌≡◌ {A = ℕ} 0 1 = cc in absurd (omega arith)
      go x false e = let z : ◌≡◌ {A = ℕ} 0 1 = cc in absurd (omega arith)

module _ {S : Type 0} (breaches : S → ℕ) where
  pub met_came : (x : Stretch S) (e : Ending) → Met x (Err e) → Came breaches x false e
  met_came x e m = go x m.0 m.1
    where
      go : (x : Stretch S) (given : Bool) → Err e ≡ cond given (outcome x) (Err Unwritten) → Came breaches x false e
      go (on bytes s) true q = let z : ◌≡◌ {A = ℕ} 0 1 = cc in absurd (omega arith)
      go (done bytes s) true q = record { given = true; flow = refl; ending = cc }
      go x false q = record { given = false; flow = refl; ending = cc }

  pub ends_stopped : (x : Stretch S) (e : Ending) → Met x (Err e) → EndsAfter breaches x e
  ends_stopped x e m = let c = met_came x e m in (c.given, c.ending)

  pub ends_last : (x : Stretch S) (t : S) (e : Ending) → Met x (Ok t) → (given : Bool) × (e ≡ ends_of given (breaches t)) → EndsAfter breaches x e
  ends_last x t e m h = let o = met_on x t m in rw o.1 h
