-- LF ends each line, and stands nowhere else in it.
--
--   Plain l       == no byte of l is LF
--   bare, after   == LF alone is a line, and so is a line after plain bytes
--   hex_plain, decimal_plain, name_plain, prefix_plain == numbers and names are plain
--   Closed fs     == tabs part the fields and LF ends the line
--   fields_closed == the fields of columns are so
--   write_ends    == what is written into such fields is one line
--   number_ends, number_then == a number before LF, and before a tab and a line
use Prim.Native.Nat.{ℕ, zero, suc, ◌/◌, ◌%◌, ◌<◌}
use mathlib.Core.Path.{◌≡◌, refl}
use mathlib.Core.List.{List, [], ◌∷◌, ◌++◌, append_assoc}
use native.Mathlib.Nat.{suc_inj}
use native.Mathlib.Omega.{arith}
use lib.ListN.{length}
use Rattle.rulebook.specs.declared.Rule.{Rule}
use Rattle.formats.specs.declared.Word.{Word}
use Rattle.formats.specs.declared.Word.TheVariants.{Stim, Trace}
use Rattle.formats.specs.Digits.{tab, lf, hex_char, hex, decimal}
use Rattle.formats.specs.Columns.{Column}
use Rattle.formats.specs.Fields.{Field, fields, write}
use Rattle.formats.specs.Headers.{prefix}
use Rattle.formats.specs.Report.{index_of, rule_name}
use Rattle.formats.specs.Promises.{Each, OneLine}
use Rattle.formats.proofs.Hex.{char_bound}
use Rattle.formats.proofs.Bytes.{Not, each_append}
use Rattle.formats.proofs.Decimal.{decimal_not}
use Rattle.formats.proofs.Report.{letter_bound}

abbrev pub Plain : List ℕ → Type 0
Plain l = Each (Not lf) l

pub bare : OneLine (lf ∷ [])
bare = record { body = []; ends = refl; plain = tt }

pub after : (b l : List ℕ) → Plain b → OneLine l → OneLine (b ++ l)
after b l h o =
    record {
      body = b ++ o.body;
      ends = rw (o.ends, append_assoc);
      plain = each_append (Not lf) b o.body h o.plain;
    }

pub hex_plain : (w v : ℕ) → Plain (hex w v)
hex_plain zero v = tt
hex_plain (suc w) v =
    each_append (Not lf) (hex w (v / 16)) (hex_char (v % 16) ∷ []) (hex_plain w (v / 16))
    (λ e. omega (arith, char_bound (v % 16)), tt)

pub decimal_plain : (v : ℕ) → Plain (decimal v)
decimal_plain v = decimal_not lf v (omega arith)

pub name_plain : (r : Rule) → Plain (rule_name r)
name_plain r = (λ e. omega (arith, letter_bound r), decimal_plain (index_of r))

abbrev pub Closed : List Field → Type 0
Closed [] = ⊥
Closed (f ∷ []) = f.after ≡ lf
Closed (f ∷ (g ∷ fs)) = (f.after ≡ tab) × Closed (g ∷ fs)

pub fields_closed : (cs : List Column) → 0 < length cs → Closed (fields cs)
fields_closed [] h = absurd (omega arith)
fields_closed (c ∷ []) h = refl
fields_closed (c ∷ (d ∷ [])) h = (refl, refl)
fields_closed (c ∷ (d ∷ (e ∷ cs))) h = (refl, fields_closed (d ∷ (e ∷ cs)) (omega arith))

pub write_ends : (fs : List Field) (vs : List ℕ) → Closed fs → length vs ≡ length fs → OneLine (write fs vs)
write_ends [] vs h e = absurd h
write_ends (f ∷ []) [] h e = absurd (omega arith)
write_ends (f ∷ []) (v ∷ vs) h e =
    after (hex f.digits v) (f.after ∷ []) (hex_plain f.digits v) (rw h bare)
write_ends (f ∷ (g ∷ fs)) [] h e = absurd (omega arith)
write_ends (f ∷ (g ∷ fs)) (v ∷ vs) h e =
    after (hex f.digits v) (f.after ∷ write (g ∷ fs) vs) (hex_plain f.digits v)
    (after (f.after ∷ []) (write (g ∷ fs) vs) (λ q. omega (arith, h.0), tt)
    (write_ends (g ∷ fs) vs h.1 (suc_inj e)))

-- a number, and then LF, or tab and a line
pub number_ends : (v : ℕ) → OneLine (decimal v ++ (lf ∷ []))
number_ends v = after (decimal v) (lf ∷ []) (decimal_plain v) bare

pub number_then : (v : ℕ) (l : List ℕ) → OneLine l → OneLine (decimal v ++ (tab ∷ l))
number_then v l o =
    after (decimal v) (tab ∷ l) (decimal_plain v) (after (tab ∷ []) l (λ e. omega arith, tt) o)

pub prefix_plain : (w : Word) → Plain (prefix w)
prefix_plain Stim = omega arith
prefix_plain Trace = omega arith
