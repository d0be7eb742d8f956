-- The arbiter's state: what reset gives, and which states are well formed.
--
--   masters_ok n  == n is a number of masters that is served
--   reset_state n, reset_of n == the state after a reset, and the answer of reset
--   phase_ok p granted locked == the phase fits GRANTED and HMASTLOCK
--   well_formed s == s is well formed
--   WellFormed s  == the same, as facts
use Rattle.std.specs.Prelude.{ℕ, ◌-◌, ◌≤◌, ◌<◌, ◌≡◌, Bool, true, false, not, ◌&&◌, ◌||◌, cond, eqb, ltb, leb, Err, Ok}
use Rattle.rules.specs.declared.Refusal.TheVariants.{Masters}
use Rattle.rules.specs.declared.Phase.{Phase}
use Rattle.rules.specs.declared.Phase.TheVariants.{Fresh, Fixed, Open, Done}
use Rattle.rules.specs.declared.State.{State}
use Rattle.rules.specs.Results.{Start}
use Rattle.rules.specs.Codes.{fewest_masters, most_masters, most_cycles, longest_burst}

-- n from 2 to 16
abbrev pub masters_ok : ℕ → Bool
masters_ok n = leb fewest_masters n && leb n most_masters

-- "Reset: g = m = 0, both flags low, Fresh, count 0."
abbrev pub reset_state : ℕ → State
reset_state n =
    record { n = n; g = 0; m = 0; hmastlock = false; granted = false; phase = Fresh; count = 0 }

unfoldable pub reset_of : ℕ → Start
reset_of n = cond (masters_ok n) (Ok (reset_state n)) (Err Masters)

-- k from 1 to 3; Fresh or Done when GRANTED is high; HMASTLOCK high when Open
unfoldable pub phase_ok : Phase → Bool → Bool → Bool
phase_ok Fresh granted locked = true
phase_ok (Fixed k) granted locked = leb 1 k && leb k (longest_burst - 1) && not granted
phase_ok Open granted locked = not granted && locked
phase_ok Done granted locked = true

-- n from 2 to 16; g and m below n; g = m when GRANTED is low; the phase as above; count at most 1,000,000. No other condition.
unfoldable pub well_formed : State → Bool
well_formed s =
    masters_ok s.n
    && ltb s.g s.n
    && ltb s.m s.n
    && (s.granted || eqb s.g s.m)
    && phase_ok s.phase s.granted s.hmastlock
    && leb s.count most_cycles

-- the same condition as facts, for the proofs (proofs/WellFormed.antt shows that the two agree)
pub record WellFormed (s : State) : Type 0 where
  pub few : fewest_masters ≤ s.n
  pub many : s.n ≤ most_masters
  pub grant : s.g < s.n
  pub owner : s.m < s.n
  pub together : s.granted ≡ false → s.g ≡ s.m
  pub phase : phase_ok s.phase s.granted s.hmastlock ≡ true
  pub room : s.count ≤ most_cycles
