-- The state that plain numbers stand for, and what a cycle makes of them.
--
--   phase_from k    == the phase of the number k: 0 Done, 1 to 3 Fixed, 4 Open, 5 Fresh
--   phase_number p  == the number of the phase p
--   Numbers p k     == k is a number from 0 to 5, and p is its phase
--   Begun p k       == k is a number from 0 to 4, and p is its phase: any but Fresh
--   state_from n b  == the state of n masters that b stands for
--   Fit b           == a bus whose numbers stand for a phase and for flags
--   Due n b x       == a cycle that a step takes, with facts of its numbers
--   decide_of n b x == DECIDE
--   low_after n b x == the phase after a cycle with GRANTED low
--   Runs n b x busy k == k is the number of that phase, and busy is 0 exactly where the owner's burst lets a decision fall
--   Chooses n b x d g granted decide == g, GRANTED and DECIDE as numbers, where d says whether a decision falls
--   Moves n b x decide r == r is the bus after the cycle, and decide is DECIDE in it
use Rattle.std.specs.Prelude.{ℕ, ◌^◌, ◌≤◌, ◌<◌, ◌≡◌, Bool, not, ◌&&◌, cond, eqb, leb, Some}
use Rattle.rules.specs.declared.Phase.{Phase}
use Rattle.rules.specs.declared.Phase.TheVariants.{Fresh, Fixed, Open, Done}
use Rattle.rules.specs.declared.State.{State}
use Rattle.rules.specs.declared.Inputs.{Inputs}
use Rattle.rules.specs.Codes.{most_masters, most_cycles}
use Rattle.rules.specs.Phase.{seen, phase_low, settled, opens_later, decides}
use Rattle.rules.specs.Step.{chosen, granted_after, moved}
use Rattle.signals.specs.Flags.{Stands}
use Rattle.buses.specs.declared.Bus.{Bus}

unfoldable pub phase_from : ℕ → Phase
phase_from k = cond (eqb k 0) Done (cond (leb k 3) (Fixed k) (cond (eqb k 4) Open Fresh))

abbrev pub phase_number : Phase → ℕ
phase_number Fresh = 5
phase_number (Fixed k) = k
phase_number Open = 4
phase_number Done = 0

pub record Numbers (p : Phase) (k : ℕ) : Type 0 where
  pub is : phase_from k ≡ p
  pub small : k ≤ 5

pub record Begun (p : Phase) (k : ℕ) : Type 0 where
  pub is : phase_from k ≡ p
  pub small : k ≤ 4

abbrev pub state_from : ℕ → Bus → State
state_from n b =
    record {
      n = n;
      g = b.g;
      m = b.m;
      hmastlock = eqb b.hmastlock 1;
      granted = eqb b.granted 1;
      phase = phase_from b.phase;
      count = b.count;
    }

pub record Fit (b : Bus) : Type 0 where
  pub phase : b.phase ≤ 5
  pub lock : b.hmastlock ≤ 1
  pub granted : b.granted ≤ 1

pub record Due (n : ℕ) (b : Bus) (x : Inputs) : Type 0 where
  pub many : n ≤ most_masters
  pub grant : b.g < n
  pub owner : b.m < n
  pub room : b.count < most_cycles
  pub requests : x.hbusreq < 2 ^ n
  pub ready : x.hready ≤ 1
  pub fit : Fit b

abbrev pub decide_of : ℕ → Bus → Inputs → Bool
decide_of n b x = decides (state_from n b) (seen (state_from n b) x)

abbrev pub low_after : ℕ → Bus → Inputs → Phase
low_after n b x = phase_low (phase_from b.phase) (eqb b.hmastlock 1) (seen (state_from n b) x)

pub record Runs (n : ℕ) (b : Bus) (x : Inputs) (busy k : ℕ) : Type 0 where
  pub phase : Numbers (low_after n b x) k
  pub free : (settled (low_after n b x) && not (opens_later (state_from n b) (seen (state_from n b) x))) ≡ eqb busy 0

pub record Chooses (n : ℕ) (b : Bus) (x : Inputs) (d : Bool) (g granted decide : ℕ) : Type 0 where
  pub grant : chosen (state_from n b) x d ≡ Some g
  pub grants : Stands granted (granted_after (state_from n b) x d)
  pub decides : Stands decide d

pub record Moves (n : ℕ) (b : Bus) (x : Inputs) (decide : ℕ) (r : Bus) : Type 0 where
  pub decides : Stands decide (decide_of n b x)
  pub grant : chosen (state_from n b) x (decide_of n b x) ≡ Some r.g
  pub after : state_from n r ≡ moved (state_from n b) x (decide_of n b x) r.g
  pub fit : Fit r
