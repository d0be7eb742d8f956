-- Whole dumps: a header and a step for each cycle, written and read.
--
--   dump n cs   == the bytes of the dump of the cycles cs
--   read_dump s == what reading a dump from its start to its end finds
--   line_at s p == the line of the file in which the position p stands, the first being 1
use Rattle.std.specs.Prelude.{ℕ, zero, suc, cond, List, [], ◌∷◌, ◌++◌, eqb, length, take, Err, None, Ok, Some}
use Rattle.rules.specs.declared.Cycle.{Cycle}
use Rattle.formats.specs.Results.{HeaderRead, TraceRead}
use Rattle.formats.specs.Digits.{lf}
use Rattle.formats.specs.Files.{File, complete, refused_at}
use Rattle.waves.specs.Header.{dump_header, read_dump_header_of}
use Rattle.waves.specs.Steps.{dump_step}
use Rattle.waves.specs.Reading.{read_step_of}

-- before cycle 0 there is none: the first step does not look at it
abbrev pub no_cycle : Cycle
no_cycle =
    record {
      inputs = record { hbusreq = 0; hlock = 0; hready = 0; htrans = 0; hburst = 0 };
      outputs = record { hgrant = 0; hmaster = 0; hmastlock = 0; decide = 0; granted = 0; busreq = 0 };
    }

-- the steps of the cycles from t on, after the cycle prev
unfoldable pub steps_of : Cycle → ℕ → List Cycle → List ℕ
steps_of prev t [] = []
steps_of prev t (c ∷ cs) = dump_step prev t c ++ steps_of c (suc t) cs

unfoldable pub dump : ℕ → List Cycle → List ℕ
dump n cs = dump_header n ++ steps_of no_cycle 0 cs

unfoldable pub lines_in : List ℕ → ℕ
lines_in [] = 0
lines_in (b ∷ s) = cond (eqb b lf) (suc (lines_in s)) (lines_in s)

abbrev pub line_at : List ℕ → ℕ → ℕ
line_at s p = suc (lines_in (take p s))

abbrev pub before : Cycle → File Cycle → File Cycle
before c (complete n cs) = complete n (c ∷ cs)
before c (refused_at line r) = refused_at line r

abbrev pub onward : TraceRead → ℕ → List ℕ → ℕ → (Cycle → ℕ → File Cycle) → File Cycle
onward (Ok (Some (c, next))) n s p more = before c (more c next)
onward (Ok None) n s p more = complete n []
onward (Err r) n s p more = refused_at (line_at s p) r

-- a step has bytes, so as many of them as the input has bytes come to its end
unfoldable pub steps_from : ℕ → ℕ → ℕ → Cycle → List ℕ → ℕ → File Cycle
steps_from zero n t prev s p = complete n []
steps_from (suc k) n t prev s p = onward (read_step_of n t prev s p) n s p (λ c next. steps_from k n (suc t) c s next)

abbrev pub after_header : HeaderRead → List ℕ → File Cycle
after_header (Ok (n, p)) s = steps_from (suc (length s)) n 0 no_cycle s p
after_header (Err r) s = refused_at 1 r

unfoldable pub read_dump : List ℕ → File Cycle
read_dump s = after_header (read_dump_header_of s) s
