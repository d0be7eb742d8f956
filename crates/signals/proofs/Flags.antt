-- Numbers that stand for flags: what `&`, `|` and `1 -` make of them.
--
--   binary          == what holds of 0 and of 1 holds of a number that is at most 1
--   as_flag         == a number that is 0 or 1 stands for a flag
--   digit           == so does a binary digit
--   small           == a number that stands for a flag is 0 or 1
--   both, any, none == `&`, `|` and `1 -`
--   by              == a flag by another name
--   not_by          == a flag that is not another, by another name of that
--   low             == a number that is 0 stands for a low flag
--   high            == a number that stands for a flag, compared with 1
--   low_number      == a number that is 0 or 1, compared with 0
--   same            == a flag compared as a number
use Prim.Native.Nat.{ℕ, zero, suc, ◌-◌, ◌%◌, ◌≤◌}
use mathlib.Core.Path.{◌≡◌, refl, sym, ◌∙◌, ap}
use mathlib.Core.Bool.{Bool, true, false, not, ◌&&◌, ◌||◌, beq}
use native.Mathlib.Omega.{arith}
use lib.Dec.{eqb}
use lib.Bits.{bit_and, bit_or}
use Rattle.rules.specs.Step.{flag_of}
use Rattle.rules.proofs.Flags.{flag_most, flag_again}
use Rattle.signals.specs.Flags.{Stands}

pub binary : (P : ℕ → Type 0) → P 0 → P 1 → (x : ℕ) → x ≤ 1 → P x
binary P a b zero h = a
binary P a b (suc zero) h = b
binary P a b (suc (suc x)) h = absurd (omega arith)

pub as_flag : (x : ℕ) → x ≤ 1 → Stands x (eqb x 1)
as_flag x h = record { is = binary (λ x. x ≡ flag_of (eqb x 1)) refl refl x h }

pub digit : (m : ℕ) → Stands (m % 2) (eqb (m % 2) 1)
digit m = as_flag (m % 2) (omega arith)

pub small : {x : ℕ} {b : Bool} → Stands x b → x ≤ 1
small {x} {b} s = rw s.is (flag_most b)

and_flags : (a b : Bool) → bit_and (flag_of a) (flag_of b) ≡ flag_of (a && b)
and_flags true true = refl
and_flags true false = refl
and_flags false true = refl
and_flags false false = refl

or_flags : (a b : Bool) → bit_or (flag_of a) (flag_of b) ≡ flag_of (a || b)
or_flags true true = refl
or_flags true false = refl
or_flags false true = refl
or_flags false false = refl

not_flag : (a : Bool) → 1 - flag_of a ≡ flag_of (not a)
not_flag true = refl
not_flag false = refl

pub both : {x y : ℕ} {a b : Bool} → Stands x a → Stands y b → Stands (bit_and x y) (a && b)
both {x} {y} {a} {b} p q = record { is = rw (p.is, q.is) (and_flags a b) }

pub any : {x y : ℕ} {a b : Bool} → Stands x a → Stands y b → Stands (bit_or x y) (a || b)
any {x} {y} {a} {b} p q = record { is = rw (p.is, q.is) (or_flags a b) }

pub none : {x : ℕ} {a : Bool} → Stands x a → Stands (1 - x) (not a)
none {x} {a} p = record { is = rw p.is (not_flag a) }

pub by : {x : ℕ} {a b : Bool} → a ≡ b → Stands x a → Stands x b
by e s = record { is = s.is ∙ ap flag_of e }

pub not_by : {x : ℕ} {a b : Bool} → a ≡ b → x ≡ flag_of (not a) → Stands x (not b)
not_by e h = record { is = h ∙ ap (λ (b : Bool). flag_of (not b)) e }

low_flag : (b : Bool) → flag_of b ≡ 0 → b ≡ false
low_flag true e = absurd (omega arith)
low_flag false e = refl

pub low : {x : ℕ} {b : Bool} → Stands x b → x ≡ 0 → b ≡ false
low {x} {b} s e = low_flag b (sym s.is ∙ e)

flags_same : (b : Bool) (x : ℕ) → x ≤ 1 → eqb x (flag_of b) ≡ beq (eqb x 1) b
flags_same true = binary (λ x. eqb x 1 ≡ beq (eqb x 1) true) refl refl
flags_same false = binary (λ x. eqb x 0 ≡ beq (eqb x 1) false) refl refl

pub same : {x y : ℕ} {b : Bool} → x ≤ 1 → Stands y b → eqb x y ≡ beq (eqb x 1) b
same {x} {y} {b} h s = rw s.is (flags_same b x h)

pub high : {x : ℕ} {b : Bool} → Stands x b → eqb x 1 ≡ b
high {x} {b} s = rw s.is (flag_again b)

pub low_number : (x : ℕ) → x ≤ 1 → eqb x 0 ≡ not (eqb x 1)
low_number = binary (λ x. eqb x 0 ≡ not (eqb x 1)) refl refl
