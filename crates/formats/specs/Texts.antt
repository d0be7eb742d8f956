-- Headers, lines and names as texts, to be read beside the page.
--
--   bytes t == the bytes of a text of plain characters
--   numbers == what may stand after a header's word and version, and the refusal that it gives, or 0
--   heads   == whole headers of the word `trace`, likewise
--   names   == the names of the rules, in the order of the report
--   printed == headers and lines, and the text of each
use Rattle.std.specs.Prelude.{ℕ, List, [], ◌∷◌}
use Prim.Native.Char.{code}
use Prim.Native.String.{String, [] as empty, ◌∷◌ as ◌followed◌}
use Rattle.rules.specs.declared.Refusal.TheVariants as refusal
use Rattle.rules.specs.declared.Cycle.{Cycle}
use Rattle.rulebook.specs.declared.Rule.TheVariants.{G6, G9}
use Rattle.formats.specs.declared.Word.TheVariants.{Stim, Trace}
use Rattle.formats.specs.Headers.{header}
use Rattle.formats.specs.Lines.{stimulus_line, trace_line}
use Rattle.formats.specs.Report.{breach_line, end_line, refused_line}

unfoldable pub bytes : String → List ℕ
bytes empty = []
bytes (c followed t) = code c ∷ bytes t

pub record Row : Type 0 where
  pub text : String
  pub answer : ℕ

abbrev row : String → ℕ → Row
row text answer = record { text = text; answer = answer }

-- "n in decimal (one or two digits, no leading zero; `0` alone is refusal 1), LF"
abbrev pub numbers : List Row
numbers =
    row "2\n" 0
    ∷ row "9\n" 0
    ∷ row "10\n" 0
    ∷ row "16\n" 0
    ∷ row "0\n" 1
    ∷ row "1\n" 1
    ∷ row "17\n" 1
    ∷ row "99\n" 1
    ∷ row "00\n" 2
    ∷ row "02\n" 2
    ∷ row "003\n" 2
    ∷ row "100\n" 2
    -- no digit
    ∷ row "\n" 2
    ∷ row "a\n" 2
    -- CR before LF, no LF
    ∷ row "3\r\n" 2
    ∷ row "3" 2
    ∷ row "16" 2
    ∷ row "" 2
    ∷ []

-- another version, the other word, another shape, the empty input
abbrev pub heads : List Row
heads =
    row "trace\t1\t3\n" 0
    ∷ row "trace\t2\t3\n" 2
    ∷ row "trace\t11\t3\n" 2
    ∷ row "trace\t\t3\n" 2
    ∷ row "stim\t1\t3\n" 2
    ∷ row "Trace\t1\t3\n" 2
    ∷ row "trace 1 3\n" 2
    ∷ row "trace\n" 2
    ∷ row "\n" 2
    ∷ row "" 2
    ∷ []

abbrev pub names : List String
names =
    "A1" ∷ "A2" ∷ "A3" ∷ "A4" ∷ "A5" ∷ "A6" ∷ "A7" ∷ "A8" ∷ "A9"
    ∷ "G1" ∷ "G2" ∷ "G3" ∷ "G4" ∷ "G5" ∷ "G6" ∷ "G7" ∷ "G8" ∷ "G9" ∷ "G10" ∷ "G11" ∷ "G12" ∷ []

-- a line's bytes, and the text that they are
pub record Print : Type 0 where
  pub line : List ℕ
  pub shown : String

abbrev print : List ℕ → String → Print
print line shown = record { line = line; shown = shown }

-- cycle 3 of the page's run
abbrev third : Cycle
third =
    record {
      inputs = record { hbusreq = 0x0006; hlock = 0x0000; hready = 1; htrans = 2; hburst = 3 };
      outputs = record { hgrant = 0x0002; hmaster = 1; hmastlock = 0; decide = 0; granted = 0; busreq = 1 };
    }

-- columns side by side differ, and every hex digit stands somewhere
abbrev digits : Cycle
digits =
    record {
      inputs = record { hbusreq = 0x89ab; hlock = 0xcdef; hready = 1; htrans = 2; hburst = 3 };
      outputs = record { hgrant = 0x4567; hmaster = 0xf; hmastlock = 1; decide = 0; granted = 1; busreq = 0 };
    }

abbrev pub printed : List Print
printed =
    print (header Stim 3) "stim\t1\t3\n"
    ∷ print (header Trace 16) "trace\t1\t16\n"
    ∷ print (stimulus_line third.inputs) "0006\t0000\t1\t2\t3\n"
    ∷ print (trace_line third) "0006\t0000\t1\t2\t3\t0002\t1\t0\t0\t0\t1\n"
    ∷ print (trace_line digits) "89ab\tcdef\t1\t2\t3\t4567\tf\t1\t0\t1\t0\n"
    ∷ print (breach_line 9 G6) "9\tG6\n"
    ∷ print (breach_line 999999 G9) "999999\tG9\n"
    ∷ print (end_line 10 2) "end\t10\t2\n"
    ∷ print (end_line 0 0) "end\t0\t0\n"
    ∷ print (refused_line 1000002 refusal.Full) "refused\t1000002\t8\n"
    ∷ print (refused_line 1 refusal.Header) "refused\t1\t2\n"
    ∷ []
