-- The judging program: trace in, report out.
--
--   breach_lines t rs == the breach lines of cycle t
--   judge_turn b rest == one trace line: it is read, the judge takes it, and its breaches are written
--   judge_program s   == all that the program writes for the input s
use Rattle.std.specs.Prelude.{ℕ, suc, ◌+◌, List, [], ◌∷◌, ◌++◌, length, drop, Err, None, Ok, Some}
use Rattle.rulebook.specs.declared.Rule.{Rule}
use Rattle.rulebook.specs.Results.{Verdict}
use Rattle.rulebook.specs.declared.Judgement.{Judgement}
use Rattle.rulebook.specs.State.{start_judge}
use Rattle.rulebook.specs.Step.{judge_of, charged_rules}
use Rattle.formats.specs.declared.Word.TheVariants.{Trace}
use Rattle.formats.specs.Results.{HeaderRead, TraceRead}
use Rattle.formats.specs.Lines.{read_trace_of}
use Rattle.formats.specs.Headers.{read_header_of}
use Rattle.formats.specs.Report.{breach_line, end_line, refused_line}
use Rattle.streams.specs.declared.Tally.{Tally}
use Rattle.streams.specs.Streams.{Turn, goes, stops, written}

-- "one line a breach, .. by cycle and then in the order above"
unfoldable pub breach_lines : ℕ → List Rule → List ℕ
breach_lines t [] = []
breach_lines t (r ∷ l) = breach_line t r ++ breach_lines t l

abbrev pub judged_to : Verdict → Judgement → Tally → ℕ → Turn Tally
judged_to (Ok _) a b next =
    goes (breach_lines b.judge.count (charged_rules a))
    (record { judge = a.judge; breaches = b.breaches + length (charged_rules a) })
    next
judged_to (Err r) a b next = stops (refused_line (b.judge.count + 2) r)

-- "then `end`, tab, cycles, tab, breaches"; a refusal stands in its place
abbrev pub traced : TraceRead → Tally → Turn Tally
traced (Ok (Some (c, next))) b = judged_to (judge_of b.judge c).verdict (judge_of b.judge c) b next
traced (Ok None) b = stops (end_line b.judge.count b.breaches)
traced (Err r) b = stops (refused_line (b.judge.count + 2) r)

unfoldable pub judge_turn : Tally → List ℕ → Turn Tally
judge_turn b rest = traced (read_trace_of b.judge.n rest 0) b

abbrev pub start_tally : ℕ → Tally
start_tally n = record { judge = start_judge n; breaches = 0 }

abbrev pub judge_after : HeaderRead → List ℕ → List ℕ
judge_after (Ok (n, next)) s = written judge_turn (suc (length s)) (start_tally n) (drop next s)
judge_after (Err r) s = refused_line 1 r

unfoldable pub judge_program : List ℕ → List ℕ
judge_program s = judge_after (read_header_of Trace s) s
