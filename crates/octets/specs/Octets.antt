-- What lent bytes hold, in plain numbers. HMASTLOCK, GRANTED, the phase and k are read as one number v, in which each has a byte.
--
--   sound_in b      == b begins with the bytes of a well-formed state
--   small v         == in v the flags are below 2, and the phase and k below 4
--   place_of v      == the four of v side by side, in bits of 1, 1, 2 and 2: 64 places
--   fitting l a p k == a well-formed state may have the bytes l, a, p and k there
--   Holds b h       == b begins with the bytes of a well-formed state, and h is that state
use Rattle.std.specs.Prelude.{ℕ, ◌+◌, ◌*◌, ◌/◌, ◌%◌, ◌≡◌, Bool, true, ◌&&◌, ◌||◌, List, eqb, leb}
use Rattle.rules.specs.State.{phase_ok, well_formed}
use Rattle.buses.specs.Buses.{state_from, Fit}
use Rattle.hosting.specs.Bytes.{phase_of, is_state, state_in}
use Rattle.octets.specs.declared.Held.{Held}

unfoldable pub sound_in : List ℕ → Bool
sound_in b = is_state b && well_formed (state_in b)

unfoldable pub small : ℕ → Bool
small v = leb (v % 256) 1 && leb (v / 256 % 256) 1 && leb (v / 65536 % 256) 3 && leb (v / 16777216) 3

abbrev pub place_of : ℕ → ℕ
place_of v = v % 256 + 2 * (v / 256 % 256) + 4 * (v / 65536 % 256) + 16 * (v / 16777216)

unfoldable pub fitting : ℕ → ℕ → ℕ → ℕ → Bool
fitting l a p k = (eqb p 1 || eqb k 0) && phase_ok (phase_of p k) (eqb a 1) (eqb l 1)

pub record Holds (b : List ℕ) (h : Held) : Type 0 where
  pub sound : sound_in b ≡ true
  pub known : state_from h.n h.bus ≡ state_in b
  pub fit : Fit h.bus
