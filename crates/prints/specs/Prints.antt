-- What a trace line is made of, where it is written by words.
--
--   digits_low m    == the four hex digits of the mask m, lowest first
--   letters_of l    == for each byte of l whether 16 is in it
--   backwards l     == l in the other order
--   inputs_bytes x  == the text of the inputs, up to the last of them
--   grant_bytes h m == the text of HGRANT and HMASTER, with the tabs round them
--   Fits x, FitsOut o == each input, and each output, fits its column
use Rattle.std.specs.Prelude.{ℕ, ◌+◌, ◌/◌, ◌%◌, ◌≤◌, ◌<◌, List, [], ◌∷◌, ◌++◌}
use Rattle.rules.specs.declared.Inputs.{Inputs}
use Rattle.rules.specs.declared.Outputs.{Outputs}
use Rattle.formats.specs.Digits.{tab, hex}

abbrev pub digits_low : ℕ → List ℕ
digits_low m = m % 16 ∷ m / 16 % 16 ∷ m / 16 / 16 % 16 ∷ m / 16 / 16 / 16 % 16 ∷ []

abbrev pub letters_of : List ℕ → List ℕ
letters_of [] = []
letters_of (x ∷ l) = x / 16 % 2 ∷ letters_of l

abbrev pub backwards : List ℕ → List ℕ
backwards [] = []
backwards (x ∷ l) = backwards l ++ (x ∷ [])

abbrev pub inputs_bytes : Inputs → List ℕ
inputs_bytes x =
    hex 4 x.hbusreq
    ++ (tab ∷ hex 4 x.hlock ++ (tab ∷ (48 + x.hready) ∷ tab ∷ (48 + x.htrans) ∷ tab ∷ (48 + x.hburst) ∷ []))

abbrev pub grant_bytes : ℕ → ℕ → List ℕ
grant_bytes h m = tab ∷ hex 4 h ++ (tab ∷ hex 1 m ++ (tab ∷ []))

pub record Fits (x : Inputs) : Type 0 where
  pub requests : x.hbusreq < 65536
  pub locks : x.hlock < 65536
  pub ready : x.hready ≤ 1
  pub trans : x.htrans ≤ 3
  pub burst : x.hburst ≤ 3

pub record FitsOut (o : Outputs) : Type 0 where
  pub grant : o.hgrant < 65536
  pub owner : o.hmaster < 16
  pub lock : o.hmastlock ≤ 1
  pub decide : o.decide ≤ 1
  pub granted : o.granted ≤ 1
  pub request : o.busreq ≤ 1
