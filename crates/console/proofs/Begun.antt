-- Where a program begins.
--
--   begun_by, refused_by == a header that is accepted begins the program, and one that is refused ends it
--   begun_formed         == what is kept after one that is accepted is well formed
--   not_given            == a program ends so where a write failed
use Rattle.std.specs.Prelude.{Err, Ok}
use Prim.Native.Nat.{ℕ}
use mathlib.Core.Path.{◌≡◌, refl}
use mathlib.Core.Bool.{Bool, true, false, cond}
use mathlib.Core.List.{List}
use native.Mathlib.Omega.{arith}
use Rattle.formats.specs.Results.{HeaderRead}
use Rattle.streams.specs.Streams.{Turn}
use Rattle.console.specs.declared.Ending.{Ending}
use Rattle.console.specs.declared.Ending.TheVariants.{Refused, Unwritten}
use Rattle.console.specs.Ends.{Given}
use Rattle.console.specs.Ran.{Ran, Begins, begun, refused}
use Rattle.console.specs.Programs.{Headed, Laws}

module _ {S : Type 0} {breaches : S → ℕ} {turn : S → List ℕ → Turn S} {Cut : List ℕ → List ℕ → Type 0} {begin : ℕ → S} where
  pub begun_by : (h : HeaderRead) (written : ℕ) (s : S) (e : Ending) → Headed begin h (Ok (written, s)) → Ran breaches turn Cut s e
      → Begins breaches turn Cut begin e h
  begun_by (Ok (n, next)) written s e h ran = begun (rw h at ran)
  begun_by (Err r) written s e h ran = absurd h

  pub refused_by : (h : HeaderRead) (written : ℕ) → Headed begin h (Err written) → Begins breaches turn Cut begin Refused h
  refused_by (Ok (n, next)) written h = absurd h
  refused_by (Err r) written h = refused refl

module _ {S : Type 0} {turn : S → List ℕ → Turn S} {formed : S → Type 0} {count : S → ℕ} {header : List ℕ → HeaderRead} {begin : ℕ → S} {Cut : List ℕ → List ℕ → Type 0}
    {rest least : ℕ} (L : Laws turn formed count header begin Cut rest least) where
  pub begun_formed : (head : List ℕ) (written : ℕ) (s : S) → Headed begin (header head) (Ok (written, s)) → formed s
  begun_formed head written s = go (header head) refl
    where
      go : (h : HeaderRead) → header head ≡ h → Headed begin h (Ok (written, s)) → formed s
      go (Ok (n, next)) e h = rw h (L.begins head n next e)
      go (Err r) e h = absurd h

pub not_given : (e : Ending) → Given (Err e) → e ≡ Unwritten
not_given e g = go g.0 g.1
  where
    go : (given : Bool) → Err e ≡ cond given (Ok (tt {0})) (Err Unwritten) → e ≡ Unwritten
    go true q = let z : ◌≡◌ {A = ℕ} 0 1 = cc in absurd (omega arith)
    go false q = cc
