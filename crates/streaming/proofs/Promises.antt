-- What is promised of the programs as they run.
use Rattle.std.specs.Prelude.{Err, Ok}
use mathlib.Core.Path.{◌≡◌, refl, ap, ◌∙◌}
use borrow.Author.Tests.{lt-ltb, le-ltb}
use lib.ListN.{length, drop}
use Rattle.rules.proofs.WellFormed.{masters_ok_lem, facts_of}
use Rattle.formats.specs.declared.Word.TheVariants.{Stim, Trace}
use Rattle.formats.specs.Results.{HeaderRead}
use Rattle.formats.specs.Lines.{place, read_stimulus_of}
use Rattle.formats.specs.Headers.{read_header_of}
use Rattle.streams.specs.Streams.{written}
use Rattle.streams.specs.Arbiter.{arbiter_turn, arbiter_program}
use Rattle.streams.specs.Judging.{judge_program}
use Rattle.streams.specs.Blocks.{flow_answer, progress_of}
use Rattle.streams.proofs.Heads.{head_near, head_size_lem}
use Rattle.streams.proofs.Promises.{arbiter_in_blocks, judge_in_blocks}
use Rattle.streaming.specs.Promises.{arbiter_run, judge_run, ArbiterAsRun, JudgeAsRun, HeadsByNumber, ArbiterEnds, JudgeEnds}
use Rattle.streaming.specs.Heads.{head_answer, arbiter_headed, arbiter_head_of, arbiter_head_left, judge_headed, judge_head_of, judge_head_left}
use Rattle.streaming.proofs.Headed.{end_is, formed_good}

pub arbiter_as_run : ArbiterAsRun
arbiter_as_run s blocks last rest whole = rw (head_near Stim s) (go (read_header_of Stim s) refl)
  where
    go : (h : HeaderRead) → read_header_of Stim s ≡ h → arbiter_program s ≡ arbiter_run (read_header_of Stim s) blocks last
    go (Ok (n, next)) e =
        rw e (arbiter_in_blocks s n next blocks last e (ap (λ k. drop k s) (head_size_lem Stim s n next e) ∙ rest) whole)
    go (Err r) e = unfold arbiter_program in rw e

pub judge_as_run : JudgeAsRun
judge_as_run s blocks last rest whole = rw (head_near Trace s) (go (read_header_of Trace s) refl)
  where
    go : (h : HeaderRead) → read_header_of Trace s ≡ h → judge_program s ≡ judge_run (read_header_of Trace s) blocks last
    go (Ok (n, next)) e =
        rw e (judge_in_blocks s n next blocks last e (ap (λ k. drop k s) (head_size_lem Trace s n next e) ∙ rest) whole)
    go (Err r) e = unfold judge_program in rw e

pub arbiter_ends : ArbiterEnds
unfolding written arbiter_turn read_stimulus_of place
arbiter_ends s e =
    let f = facts_of s e in
    rw (masters_ok_lem s.n f.few f.many)

pub judge_ends : JudgeEnds
judge_ends b e = end_is b (formed_good b e)

-- what a header comes to is no refusal of the call
arbiter_headed_lem : (h : HeaderRead) → head_answer (arbiter_headed h) ≡ 0
arbiter_headed_lem (Ok (n, next)) = refl
arbiter_headed_lem (Err r) = refl

judge_headed_lem : (h : HeaderRead) → flow_answer (progress_of (judge_headed h)).flow ≡ 0
judge_headed_lem (Ok (n, next)) = refl
judge_headed_lem (Err r) = refl

pub heads_by_number : HeadsByNumber
unfolding arbiter_head_of arbiter_head_left judge_head_of judge_head_left
heads_by_number =
    record {
      arbiter_short = λ s buffer h. let e = lt-ltb (length buffer) 31 h in (rw e, rw e);
      arbiter_taken = λ s buffer h. rw (le-ltb (length buffer) 31 h) (arbiter_headed_lem (read_header_of Stim s));
      judge_short = λ s buffer h. let e = lt-ltb (length buffer) 31 h in (rw e, rw e);
      judge_taken = λ s buffer h. rw (le-ltb (length buffer) 31 h) (judge_headed_lem (read_header_of Trace s));
    }
