-- The page's whole run through the two programs, as texts: what is read, and what is written.
--
--   Job      == which program, and what it reads
--   writes j == what it writes by the definitions
--   jobs     == the run, its HGRANT 0002 variant, a header alone, and refusals at their lines
use Rattle.std.specs.Prelude.{ℕ, List, [], ◌∷◌}
use Prim.Native.String.{String}
use Rattle.formats.specs.Texts.{bytes}
use Rattle.streams.specs.Arbiter.{arbiter_program}
use Rattle.streams.specs.Judging.{judge_program}

pub data Job : Type 0 where
  arbitrates : String → Job
  judges : String → Job

unfoldable pub writes : Job → List ℕ
writes (arbitrates text) = arbiter_program (bytes text)
writes (judges text) = judge_program (bytes text)

abbrev pub jobs : List Job
jobs =
    arbitrates "stim\t1\t3\n0000\t0000\t0\t0\t0\n0006\t0000\t1\t0\t0\n0006\t0000\t1\t0\t0\n0006\t0000\t1\t2\t3\n0006\t0000\t1\t3\t3\n0006\t0000\t0\t3\t3\n0006\t0000\t1\t3\t3\n0006\t0000\t1\t3\t3\n0004\t0000\t1\t0\t0\n0004\t0000\t1\t2\t0\n"
    ∷ judges "trace\t1\t3\n0000\t0000\t0\t0\t0\t0001\t0\t0\t1\t0\t0\n0006\t0000\t1\t0\t0\t0001\t0\t0\t1\t0\t0\n0006\t0000\t1\t0\t0\t0002\t0\t0\t0\t1\t0\n0006\t0000\t1\t2\t3\t0002\t1\t0\t0\t0\t1\n0006\t0000\t1\t3\t3\t0002\t1\t0\t0\t0\t1\n0006\t0000\t0\t3\t3\t0002\t1\t0\t0\t0\t1\n0006\t0000\t1\t3\t3\t0002\t1\t0\t0\t0\t1\n0006\t0000\t1\t3\t3\t0002\t1\t0\t1\t0\t1\n0004\t0000\t1\t0\t0\t0004\t1\t0\t0\t1\t0\n0004\t0000\t1\t2\t0\t0004\t2\t0\t1\t0\t1\n"
    -- with HGRANT 0002 in cycle 8
    ∷ judges "trace\t1\t3\n0000\t0000\t0\t0\t0\t0001\t0\t0\t1\t0\t0\n0006\t0000\t1\t0\t0\t0001\t0\t0\t1\t0\t0\n0006\t0000\t1\t0\t0\t0002\t0\t0\t0\t1\t0\n0006\t0000\t1\t2\t3\t0002\t1\t0\t0\t0\t1\n0006\t0000\t1\t3\t3\t0002\t1\t0\t0\t0\t1\n0006\t0000\t0\t3\t3\t0002\t1\t0\t0\t0\t1\n0006\t0000\t1\t3\t3\t0002\t1\t0\t0\t0\t1\n0006\t0000\t1\t3\t3\t0002\t1\t0\t1\t0\t1\n0004\t0000\t1\t0\t0\t0002\t1\t0\t0\t1\t0\n0004\t0000\t1\t2\t0\t0004\t2\t0\t1\t0\t1\n"
    -- a header alone
    ∷ judges "trace\t1\t3\n"
    ∷ arbitrates "stim\t1\t3\n"
    -- the other word; a line that is cut; HTRANS 1 in line 3
    ∷ judges "stim\t1\t3\n"
    ∷ judges "trace\t1\t2\n0000"
    ∷ arbitrates "stim\t1\t2\n0000\t0000\t0\t0\t0\n0000\t0000\t1\t1\t0\n"
    ∷ []

abbrev pub outputs : List String
outputs =
    "trace\t1\t3\n0000\t0000\t0\t0\t0\t0001\t0\t0\t1\t0\t0\n0006\t0000\t1\t0\t0\t0001\t0\t0\t1\t0\t0\n0006\t0000\t1\t0\t0\t0002\t0\t0\t0\t1\t0\n0006\t0000\t1\t2\t3\t0002\t1\t0\t0\t0\t1\n0006\t0000\t1\t3\t3\t0002\t1\t0\t0\t0\t1\n0006\t0000\t0\t3\t3\t0002\t1\t0\t0\t0\t1\n0006\t0000\t1\t3\t3\t0002\t1\t0\t0\t0\t1\n0006\t0000\t1\t3\t3\t0002\t1\t0\t1\t0\t1\n0004\t0000\t1\t0\t0\t0004\t1\t0\t0\t1\t0\n0004\t0000\t1\t2\t0\t0004\t2\t0\t1\t0\t1\n"
    ∷ "end\t10\t0\n"
    ∷ "9\tG6\n9\tG9\nend\t10\t2\n"
    ∷ "end\t0\t0\n"
    ∷ "trace\t1\t3\n"
    ∷ "refused\t1\t2\n"
    ∷ "refused\t2\t3\n"
    ∷ "trace\t1\t2\n0000\t0000\t0\t0\t0\t0001\t0\t0\t1\t0\t0\nrefused\t3\t5\n"
    ∷ []
