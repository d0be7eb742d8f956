-- The lines of the report. The only refusal of their writers is 9.
--
--   rule_name r      == the rule's name
--   breach_line t r  == `cycle`, tab, rule name
--   end_line k b     == `end`, tab, cycles, tab, breaches
--   refused_line l r == `refused`, tab, line number, tab, refusal number
--   write_of bytes room, written_of bytes buffer == the answer of writing one of them, and the buffer afterwards
use Rattle.std.specs.Prelude.{ℕ, List, [], ◌∷◌, ◌++◌, length, Ok}
use Rattle.rules.specs.declared.Refusal.{Refusal}
use Rattle.rules.specs.Refusals.{number_of}
use Rattle.rulebook.specs.declared.Rule.{Rule}
use Rattle.rulebook.specs.declared.Rule.TheVariants.{A1, A2, A3, A4, A5, A6, A7, A8, A9, G1, G2, G3, G4, G5, G6, G7, G8, G9, G10, G11, G12}
use Rattle.formats.specs.Results.{Written}
use Rattle.formats.specs.Digits.{tab, lf, decimal}
use Rattle.formats.specs.Lines.{fitted, left}

-- 'A' is 65 and 'G' is 71
abbrev pub letter_of : Rule → ℕ
letter_of A1 = 65
letter_of A2 = 65
letter_of A3 = 65
letter_of A4 = 65
letter_of A5 = 65
letter_of A6 = 65
letter_of A7 = 65
letter_of A8 = 65
letter_of A9 = 65
letter_of G1 = 71
letter_of G2 = 71
letter_of G3 = 71
letter_of G4 = 71
letter_of G5 = 71
letter_of G6 = 71
letter_of G7 = 71
letter_of G8 = 71
letter_of G9 = 71
letter_of G10 = 71
letter_of G11 = 71
letter_of G12 = 71

abbrev pub index_of : Rule → ℕ
index_of A1 = 1
index_of A2 = 2
index_of A3 = 3
index_of A4 = 4
index_of A5 = 5
index_of A6 = 6
index_of A7 = 7
index_of A8 = 8
index_of A9 = 9
index_of G1 = 1
index_of G2 = 2
index_of G3 = 3
index_of G4 = 4
index_of G5 = 5
index_of G6 = 6
index_of G7 = 7
index_of G8 = 8
index_of G9 = 9
index_of G10 = 10
index_of G11 = 11
index_of G12 = 12

abbrev pub rule_name : Rule → List ℕ
rule_name r = letter_of r ∷ decimal (index_of r)

-- "The report has one line a breach, `cycle`, tab, rule name"
unfoldable pub breach_line : ℕ → Rule → List ℕ
breach_line t r = decimal t ++ (tab ∷ (rule_name r ++ (lf ∷ [])))

-- `end`, tab, and `refused`, tab
abbrev pub end_word : List ℕ
end_word = 101 ∷ 110 ∷ 100 ∷ tab ∷ []

abbrev pub refused_word : List ℕ
refused_word = 114 ∷ 101 ∷ 102 ∷ 117 ∷ 115 ∷ 101 ∷ 100 ∷ tab ∷ []

-- "then `end`, tab, cycles, tab, breaches."
unfoldable pub end_line : ℕ → ℕ → List ℕ
end_line cycles breaches = end_word ++ (decimal cycles ++ (tab ∷ (decimal breaches ++ (lf ∷ []))))

-- "On a refusal the programs write `refused`, tab, line number (header is 1), tab, refusal number, LF"
unfoldable pub refused_line : ℕ → Refusal → List ℕ
refused_line line r = refused_word ++ (decimal line ++ (tab ∷ (decimal (number_of r) ++ (lf ∷ []))))

abbrev pub write_of : List ℕ → ℕ → Written
write_of bytes room = fitted (Ok tt) (length bytes) room

abbrev pub written_of : List ℕ → List ℕ → List ℕ
written_of bytes buffer = left (write_of bytes (length buffer)) bytes buffer
