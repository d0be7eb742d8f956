-- The bytes of some states, to be read beside the page: "n, g, m, HMASTLOCK, GRANTED, phase (0 Fresh, 1 Fixed, 2 Open, 3 Done), k (0 unless
-- Fixed), 0, then the count, low byte first".
--
--   states, written  == states, and the twelve bytes of each; a state has another byte in every place where two could be swapped
--   outputs, numbers == what two cycles show, and the eight bytes of each
use Rattle.std.specs.Prelude.{ℕ, Bool, true, false, List, [], ◌∷◌}
use Rattle.rules.specs.declared.Phase.{Phase}
use Rattle.rules.specs.declared.Phase.TheVariants.{Fresh, Fixed, Open, Done}
use Rattle.rules.specs.declared.State.{State}
use Rattle.rules.specs.declared.Outputs.{Outputs}

abbrev state : ℕ → ℕ → ℕ → Bool → Bool → Phase → ℕ → State
state n g m hmastlock granted phase count =
    record { n = n; g = g; m = m; hmastlock = hmastlock; granted = granted; phase = phase; count = count }

-- 1,000,000 is 0x0f4240
abbrev pub states : List State
states =
    state 3 0 0 false false Fresh 0
    ∷ state 16 5 7 true false (Fixed 3) 1000000
    ∷ state 9 8 8 true false Open 0x010203
    ∷ state 4 2 1 false true Done 256
    ∷ []

abbrev pub written : List (List ℕ)
written =
    (3 ∷ 0 ∷ 0 ∷ 0 ∷ 0 ∷ 0 ∷ 0 ∷ 0 ∷ 0 ∷ 0 ∷ 0 ∷ 0 ∷ [])
    ∷ (16 ∷ 5 ∷ 7 ∷ 1 ∷ 0 ∷ 1 ∷ 3 ∷ 0 ∷ 0x40 ∷ 0x42 ∷ 0x0f ∷ 0 ∷ [])
    ∷ (9 ∷ 8 ∷ 8 ∷ 1 ∷ 0 ∷ 2 ∷ 0 ∷ 0 ∷ 3 ∷ 2 ∷ 1 ∷ 0 ∷ [])
    ∷ (4 ∷ 2 ∷ 1 ∷ 0 ∷ 1 ∷ 3 ∷ 0 ∷ 0 ∷ 0 ∷ 1 ∷ 0 ∷ 0 ∷ [])
    ∷ []

abbrev shows : ℕ → ℕ → ℕ → ℕ → ℕ → ℕ → Outputs
shows hgrant hmaster hmastlock decide granted busreq =
    record { hgrant = hgrant; hmaster = hmaster; hmastlock = hmastlock; decide = decide; granted = granted; busreq = busreq }

abbrev pub outputs : List Outputs
outputs = shows 0x8000 0xf 1 0 1 0 ∷ shows 0x0004 0x1 0 1 0 1 ∷ shows 0x0102 0x0 0 0 0 1 ∷ []

-- HGRANT low byte first, HMASTER, HMASTLOCK, DECIDE, GRANTED, BUSREQ, 0
abbrev pub numbers : List (List ℕ)
numbers =
    (0x00 ∷ 0x80 ∷ 15 ∷ 1 ∷ 0 ∷ 1 ∷ 0 ∷ 0 ∷ [])
    ∷ (0x04 ∷ 0x00 ∷ 1 ∷ 0 ∷ 1 ∷ 0 ∷ 1 ∷ 0 ∷ [])
    ∷ (0x02 ∷ 0x01 ∷ 0 ∷ 0 ∷ 0 ∷ 0 ∷ 1 ∷ 0 ∷ [])
    ∷ []
