-- One cycle of the arbiter: what it shows, what follows, and the order of refusals.
--
--   chosen s x d     == the grant after a cycle in which DECIDE is d
--   granted_after, owner_after, lock_after == GRANTED, HMASTER and HMASTLOCK after a cycle
--   moved s x d w    == the state after a cycle in which DECIDE is d and w is the grant that follows
--   flag_of b        == a flag as its column has it
--   shown s v d      == what the arbiter drives in a cycle in which DECIDE is d
--   answered f d s x == the answer where the choice found f: 11 where it found nobody
--   accepted s x     == the answer to inputs that are valid
--   checked k s x    == the answer by what the tests 4, 5 and 6 found
--   step_of s x      == the answer of a step
use Rattle.std.specs.Prelude.{ℕ, ◌+◌, Bool, true, false, not, ◌||◌, cond, eqb, leb, Err, None, Ok, Some}
use Rattle.rules.specs.declared.Refusal.TheVariants as refusal
use Rattle.rules.specs.Results.{Check, Found, Answer}
use Rattle.rules.specs.declared.State.{State}
use Rattle.rules.specs.declared.Inputs.{Inputs}
use Rattle.rules.specs.declared.Outputs.{Outputs}
use Rattle.rules.specs.declared.Seen.{Seen}
use Rattle.rules.specs.Codes.{most_cycles}
use Rattle.rules.specs.Masks.{high, some_high, single}
use Rattle.rules.specs.Valid.{inputs_check}
use Rattle.rules.specs.Winner.{winner}
use Rattle.rules.specs.State.{well_formed}
use Rattle.rules.specs.Phase.{seen, handover, phase_after, decides}

-- After a cycle with DECIDE: if some HBUSREQ is high, g becomes the first requester met walking round; if none is high, g becomes 0.
-- Nothing else changes g.
unfoldable pub chosen : State → Inputs → Bool → Found
chosen s x d =
    cond d (cond (some_high x.hbusreq) (winner s.n s.g x.hbusreq) (Some 0)) (Some s.g)

-- After a cycle with DECIDE: with a request, GRANTED goes high; with none, it goes high exactly if m is not 0.
-- After a handover GRANTED goes low.
unfoldable pub granted_after : State → Inputs → Bool → Bool
granted_after s x d =
    cond d (some_high x.hbusreq || not (eqb s.m 0)) (cond (handover s x) false s.granted)

-- After a handover: m becomes g, HMASTLOCK becomes HLOCK of g in that cycle.
unfoldable pub owner_after : State → Inputs → ℕ
owner_after s x = cond (handover s x) s.g s.m

unfoldable pub lock_after : State → Inputs → Bool
lock_after s x = cond (handover s x) (high x.hlock s.g) s.hmastlock

-- "Nothing else changes; the count grows by one."
unfoldable pub moved : State → Inputs → Bool → ℕ → State
moved s x d w =
    record {
      n = s.n;
      g = w;
      m = owner_after s x;
      hmastlock = lock_after s x;
      granted = granted_after s x d;
      phase = phase_after s (seen s x);
      count = s.count + 1;
    }

-- a flag as its column has it
abbrev pub flag_of : Bool → ℕ
flag_of true = 1
flag_of false = 0

-- "BUSREQ is HBUSREQ of m. HGRANT has the single bit g."
unfoldable pub shown : State → Seen → Bool → Outputs
shown s v d =
    record {
      hgrant = single s.g;
      hmaster = s.m;
      hmastlock = flag_of s.hmastlock;
      decide = flag_of d;
      granted = flag_of s.granted;
      busreq = flag_of v.request;
    }

-- 11 where the choice finds no master
abbrev pub answered : Found → Bool → State → Inputs → Answer
answered None d s x = Err (refusal.Nobody, s)
answered (Some w) d s x = Ok (moved s x d w, shown s (seen s x) d)

unfoldable pub accepted : State → Inputs → Answer
accepted s x =
    answered (chosen s x (decides s (seen s x))) (decides s (seen s x)) s x

-- 4, 5, 6
abbrev pub checked : Check → State → Inputs → Answer
checked (Ok _) s x = accepted s x
checked (Err r) s x = Err (r, s)

-- "A step of arbiter or judge: 10, 8, 4, 5, 6, 7, 11." A stimulus has no HMASTER, so 7 is never given here.
unfoldable pub step_of : State → Inputs → Answer
step_of s x =
    cond (not (well_formed s)) (Err (refusal.State, s))
    (cond (leb most_cycles s.count) (Err (refusal.Full, s)) (checked (inputs_check s.n x) s x))
