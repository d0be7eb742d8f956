-- The contracts leave no choice: two results that meet the contract of a call are equal.
-- `Post` is the contract as the prover reads it: arguments, result, and the arguments at exit.
--
--   same_bus        == two buses that fit and stand for one state are equal
--   bus_of_unique, state_unique, advance_unique == each call
use Prim.Native.Nat.{ℕ, zero, suc, ◌≤◌}
use mathlib.Core.Path.{◌≡◌, refl, sym, ◌∙◌, ap}
use native.Mathlib.Omega.{arith}
use lib.Dec.{eqb}
use Rattle.rules.specs.declared.State.{State}
use Rattle.rules.proofs.Parts.{ok_parts}
use Rattle.rules.specs.declared.Inputs.{Inputs}
use Rattle.rules.specs.Step.{flag_of}
use Rattle.signals.proofs.Flags.{as_flag}
use Rattle.buses.specs.declared.Bus.{Bus}
use Rattle.buses.specs.declared.Went.{Went}
use Rattle.buses.specs.Buses.{phase_from, phase_number, state_from, Fit}
use Rattle.buses.proofs.bus_of.Reads as bus_of
use Rattle.buses.proofs.state.Reads as state
use Rattle.buses.proofs.advance.Reads as advance

number_again : (k : ℕ) → k ≤ 5 → phase_number (phase_from k) ≡ k
unfolding phase_from
number_again zero h = refl
number_again (suc zero) h = refl
number_again (suc (suc zero)) h = refl
number_again (suc (suc (suc zero))) h = refl
number_again (suc (suc (suc (suc zero)))) h = refl
number_again (suc (suc (suc (suc (suc zero))))) h = refl
number_again (suc (suc (suc (suc (suc (suc k)))))) h = absurd (omega arith)

same_phase : (i j : ℕ) → i ≤ 5 → j ≤ 5 → phase_from i ≡ phase_from j → i ≡ j
same_phase i j h l e = sym (number_again i h) ∙ ap phase_number e ∙ number_again j l

same_flag : (i j : ℕ) → i ≤ 1 → j ≤ 1 → eqb i 1 ≡ eqb j 1 → i ≡ j
same_flag i j h l e = (as_flag i h).is ∙ ap flag_of e ∙ sym (as_flag j l).is

pub same_bus : (n : ℕ) (b b' : Bus) → Fit b → Fit b' → state_from n b ≡ state_from n b' → b ≡ b'
same_bus n b b' f f' e =
    let g : b.g ≡ b'.g = ap (λ (s : State). s.g) e in
    let m : b.m ≡ b'.m = ap (λ (s : State). s.m) e in
    let l = same_flag b.hmastlock b'.hmastlock f.lock f'.lock (ap (λ (s : State). s.hmastlock) e) in
    let r = same_flag b.granted b'.granted f.granted f'.granted (ap (λ (s : State). s.granted) e) in
    let p = same_phase b.phase b'.phase f.phase f'.phase (ap (λ (s : State). s.phase) e) in
    let c : b.count ≡ b'.count = ap (λ (s : State). s.count) e in
    rw (g, m, l, r, p, c)

pub bus_of_unique : (s : State) (b b' : Bus) → bus_of.Post tt (s, tt) b (s, tt) → bus_of.Post tt (s, tt) b' (s, tt) → b ≡ b'
bus_of_unique s b b' p q = same_bus s.n b b' p.1 q.1 (p.0 ∙ sym q.0)

pub state_unique : (n : ℕ) (b : Bus) (s s' : State) → state.Post tt (n, (b, tt)) s (n, (b, tt)) → state.Post tt (n, (b, tt)) s' (n, (b, tt)) → s ≡ s'
state_unique n b s s' p q = p ∙ sym q

pub advance_unique : (n : ℕ) (b : Bus) (x : Inputs) (r r' : Went)
    → advance.Post tt (n, (b, (x, tt))) r (n, (b, (x, tt))) → advance.Post tt (n, (b, (x, tt))) r' (n, (b, (x, tt))) → r ≡ r'
advance_unique n b x r r' p q =
    let same = ok_parts (sym p.0 ∙ q.0) in
    rw (same_bus n r.bus r'.bus p.1 q.1 same.0, same.1)
