-- What a glance finds in a line, column by column, and what the arbiter's line is made of.
--
--   digit_of b        == the hex digit that the byte b writes, and 65,536 where it writes none
--   Digits t          == t has for each of four places the digit of each byte, times 16 ^ place
--   MaskSeen s p m    == m is the mask that stands at p, and too large for any where none does
--   unbuilt htrans hburst == one of the codes, of two bits each, is not built
--   ValidCodes c, ValidFlags f == numbers that the columns of a good line have
--   codes_bytes, flags_bytes == the text of the codes from the tab before them to the byte after them, and of the flags from the first to LF
--   CodesAt s after c == HREADY, HTRANS and HBURST of the line s are those of c, with tabs between them and the byte after behind
--   FlagsAt s f       == HMASTLOCK, DECIDE, GRANTED and BUSREQ of the line s are those of f, with tabs between them and LF behind
--   CodesSeen s after c, FlagsSeen s f == nothing is bad exactly where valid ones stand in the line, and then they are these
--   Driven g o        == outputs of an arbiter whose grant is g
use Rattle.std.specs.Prelude.{◌≡◌, ℕ, ◌+◌, ◌*◌, ◌^◌, ◌<◌, ◌≤◌, Bool, false, cond, ◌||◌, List, [], ◌∷◌, length, ◌==◌, nat_lt, slice_index, slice_index_or}
use Rattle.rules.specs.declared.Outputs.{Outputs}
use Rattle.rules.specs.Masks.{single}
use Rattle.formats.specs.Digits.{tab, lf, hex_digit, number_at}
use Rattle.glances.specs.declared.codes.Codes.{Codes}
use Rattle.glances.specs.declared.codes.Flags.{Flags}

abbrev pub digit_of : ℕ → ℕ
digit_of b = cond (nat_lt (hex_digit b) 16) (hex_digit b) 65536

pub record Digits (t : List ℕ) : Type 0 where
  pub size : length t ≡ 1024
  pub at : (place b : ℕ) → place < 4 → b < 256 → slice_index t (place * 256 + b) ≡ digit_of b * 16 ^ place

pub record MaskSeen (s : List ℕ) (p m : ℕ) : Type 0 where
  pub found : m < 65536 → m ≡ number_at 4 s p
  pub sure : number_at 4 s p < 65536 → m ≡ number_at 4 s p

-- of the codes up to 3, BUSY is 1, and the burst that is not built is 2
abbrev pub unbuilt : ℕ → ℕ → Bool
unbuilt htrans hburst = htrans == 1 || hburst == 2

pub record ValidCodes (c : Codes) : Type 0 where
  pub ready : c.hready ≤ 1
  pub trans : c.htrans ≤ 3
  pub burst : c.hburst ≤ 3
  pub built : unbuilt c.htrans c.hburst ≡ false

abbrev pub codes_bytes : ℕ → ℕ → ℕ → ℕ → List ℕ
codes_bytes hready htrans hburst after =
    tab ∷ (48 + hready) ∷ tab ∷ (48 + htrans) ∷ tab ∷ (48 + hburst) ∷ after ∷ []

pub record CodesAt (s : List ℕ) (after : ℕ) (c : Codes) : Type 0 where
  pub before : slice_index_or s 9 0 ≡ tab
  pub ready : slice_index_or s 10 0 ≡ 48 + c.hready
  pub between : slice_index_or s 11 0 ≡ tab
  pub trans : slice_index_or s 12 0 ≡ 48 + c.htrans
  pub between_2 : slice_index_or s 13 0 ≡ tab
  pub burst : slice_index_or s 14 0 ≡ 48 + c.hburst
  pub behind : slice_index_or s 15 0 ≡ after

pub record CodesSeen (s : List ℕ) (after : ℕ) (c : Codes) : Type 0 where
  pub found : c.bad ≡ 0 → ValidCodes c × CodesAt s after c
  pub sure : (d : Codes) → ValidCodes d → CodesAt s after d → c.bad ≡ 0

pub record ValidFlags (f : Flags) : Type 0 where
  pub lock : f.hmastlock ≤ 1
  pub decide : f.decide ≤ 1
  pub granted : f.granted ≤ 1
  pub request : f.busreq ≤ 1

abbrev pub flags_bytes : ℕ → ℕ → ℕ → ℕ → List ℕ
flags_bytes hmastlock decide granted busreq =
    (48 + hmastlock) ∷ tab ∷ (48 + decide) ∷ tab ∷ (48 + granted) ∷ tab ∷ (48 + busreq) ∷ lf ∷ []

pub record FlagsAt (s : List ℕ) (f : Flags) : Type 0 where
  pub lock : slice_index_or s 23 0 ≡ 48 + f.hmastlock
  pub between : slice_index_or s 24 0 ≡ tab
  pub decide : slice_index_or s 25 0 ≡ 48 + f.decide
  pub between_2 : slice_index_or s 26 0 ≡ tab
  pub granted : slice_index_or s 27 0 ≡ 48 + f.granted
  pub between_3 : slice_index_or s 28 0 ≡ tab
  pub request : slice_index_or s 29 0 ≡ 48 + f.busreq
  pub behind : slice_index_or s 30 0 ≡ lf

pub record FlagsSeen (s : List ℕ) (f : Flags) : Type 0 where
  pub found : f.bad ≡ 0 → ValidFlags f × FlagsAt s f
  pub sure : (d : Flags) → ValidFlags d → FlagsAt s d → f.bad ≡ 0

pub record Driven (g : ℕ) (o : Outputs) : Type 0 where
  pub below : g < 16
  pub grant : o.hgrant ≡ single g
  pub owner : o.hmaster < 16
  pub lock : o.hmastlock ≤ 1
  pub decide : o.decide ≤ 1
  pub granted : o.granted ≤ 1
  pub request : o.busreq ≤ 1
