-- The arbiter's state as the host lends it.
--
--   byte | 0 | 1 | 2 | 3         | 4       | 5     | 6 | 7 | 8 to 11
--        | n | g | m | HMASTLOCK | GRANTED | phase | k | 0 | count, low byte first
--
-- The phase is 0 Fresh, 1 Fixed, 2 Open, 3 Done; k is 0 unless Fixed; a flag is 0 or 1.
--
--   state_size    == the bytes of a state
--   state_bytes s == the bytes of the state s
--   is_state b    == b begins with the bytes of a state, well formed or not
--   bytes_state b == the state whose bytes b begins with, if there is one
use Rattle.std.specs.Prelude.{ℕ, Bool, ◌&&◌, ◌||◌, cond, List, ◌∷◌, eqb, leb, get_or, None, Some}
use Rattle.rules.specs.declared.Phase.{Phase}
use Rattle.rules.specs.declared.Phase.TheVariants.{Fresh, Fixed, Open, Done}
use Rattle.rules.specs.declared.State.{State}
use Rattle.rules.specs.Step.{flag_of}
use Rattle.words.specs.Words.{low_first, number_low}
use Rattle.hosting.specs.Results.{Lent}

abbrev pub state_size : ℕ
state_size = 12

abbrev pub phase_byte : Phase → ℕ
phase_byte Fresh = 0
phase_byte (Fixed k) = 1
phase_byte Open = 2
phase_byte Done = 3

abbrev pub left_byte : Phase → ℕ
left_byte Fresh = 0
left_byte (Fixed k) = k
left_byte Open = 0
left_byte Done = 0

-- "n, g, m, HMASTLOCK, GRANTED, phase .., k .., 0, then the count, low byte first"
unfoldable pub state_bytes : State → List ℕ
state_bytes s =
    s.n
    ∷ s.g
    ∷ s.m
    ∷ flag_of s.hmastlock
    ∷ flag_of s.granted
    ∷ phase_byte s.phase
    ∷ left_byte s.phase
    ∷ 0
    ∷ low_first 4 s.count

-- the phase that the bytes p and k write
unfoldable pub phase_of : ℕ → ℕ → Phase
phase_of p k = cond (eqb p 0) Fresh (cond (eqb p 1) (Fixed k) (cond (eqb p 2) Open Done))

-- a flag above 1, a phase above 3, k not 0 outside Fixed, or the spare byte not 0: no state has such bytes
unfoldable pub is_state : List ℕ → Bool
is_state b =
    leb (get_or b 3 0) 1
    && leb (get_or b 4 0) 1
    && leb (get_or b 5 0) 3
    && (eqb (get_or b 5 0) 1 || eqb (get_or b 6 0) 0)
    && eqb (get_or b 7 0) 0

unfoldable pub state_in : List ℕ → State
state_in b =
    record {
      n = get_or b 0 0;
      g = get_or b 1 0;
      m = get_or b 2 0;
      hmastlock = eqb (get_or b 3 0) 1;
      granted = eqb (get_or b 4 0) 1;
      phase = phase_of (get_or b 5 0) (get_or b 6 0);
      count = number_low 4 b 8;
    }

unfoldable pub bytes_state : List ℕ → Lent
bytes_state b = cond (is_state b) (Some (state_in b)) None
