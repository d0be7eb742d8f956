-- The judge's state: how it starts, and which states are well formed.
--
--   start_of n    == the answer of a start
--   watch_ok o w  == the watch w stands only in an opened access, with 1 to 3 ready cycles left for G3
--   counts_ok n l == the lost counts are below the limit, and 0 for absent masters
--   starts_out j  == all but n is zero or none
--   well_formed j == the judge j is well formed
use Rattle.std.specs.Prelude.{ℕ, ◌-◌, Bool, true, false, not, ◌&&◌, ◌||◌, cond, List, eqb, ltb, leb, get_or, replicate, Err, Ok}
use Rattle.rules.specs.declared.Refusal.TheVariants as refusal
use Rattle.rules.specs.Results.{Check}
use Rattle.rules.specs.declared.Outputs.{Outputs}
use Rattle.rules.specs.declared.Cycle.{Cycle}
use Rattle.rules.specs.Codes.{most_masters, most_cycles, longest_burst}
use Rattle.rules.specs.Valid.{cycle_check}
use Rattle.rules.specs.State.{masters_ok}
use Rattle.rulebook.specs.declared.Watch.{Watch}
use Rattle.rulebook.specs.declared.Watch.TheVariants.{Nothing, OnG2, OnG3}
use Rattle.rulebook.specs.declared.Judge.{Judge}
use Rattle.rulebook.specs.declared.Started.{Started}
use Rattle.rulebook.specs.Columns.{some_below}
use Rattle.rulebook.specs.Rules.{limit, no_input}

-- no cycle yet: every column 0
abbrev pub no_cycle : Cycle
no_cycle =
    record {
      inputs = record { hbusreq = 0; hlock = 0; hready = 0; htrans = 0; hburst = 0 };
      outputs = record { hgrant = 0; hmaster = 0; hmastlock = 0; decide = 0; granted = 0; busreq = 0 };
    }

abbrev pub start_judge : ℕ → Judge
start_judge n =
    record {
      n = n;
      count = 0;
      previous = no_cycle;
      locked = 0;
      waited = 0;
      opened = false;
      watch = Nothing;
      lost = replicate most_masters 0;
    }

-- refusal 1, as reset answers; the judge beside it is then one of no masters
unfoldable pub start_of : ℕ → Started
start_of n =
    cond (masters_ok n)
    (record { judge = start_judge n; verdict = Ok tt })
    (record { judge = start_judge 0; verdict = Err refusal.Masters })

abbrev pub watch_ok : Bool → Watch → Bool
watch_ok opened Nothing = true
watch_ok opened OnG2 = opened
watch_ok opened (OnG3 k) = opened && leb 1 k && leb k (longest_burst - 1)

abbrev pub is_good : Check → Bool
is_good (Ok _) = true
is_good (Err r) = false

-- a lost count at the limit or above, or one of an absent master that is not 0
abbrev pub wrong_count : ℕ → List ℕ → ℕ → Bool
wrong_count n l i = leb (limit n) (get_or l i 0) || leb n i && not (eqb (get_or l i 0) 0)

unfoldable pub counts_ok : ℕ → List ℕ → Bool
counts_ok n l = not (some_below most_masters (wrong_count n l))

abbrev pub some_count : List ℕ → ℕ → Bool
some_count l i = not (eqb (get_or l i 0) 0)

abbrev pub no_watch : Watch → Bool
no_watch Nothing = true
no_watch OnG2 = false
no_watch (OnG3 k) = false

abbrev pub no_output : Outputs → Bool
no_output o =
    eqb o.hgrant 0 && eqb o.hmaster 0 && eqb o.hmastlock 0 && eqb o.decide 0 && eqb o.granted 0 && eqb o.busreq 0

unfoldable pub starts_out : Judge → Bool
starts_out j =
    no_input j.previous.inputs
    && no_output j.previous.outputs
    && eqb j.locked 0
    && eqb j.waited 0
    && not j.opened
    && no_watch j.watch
    && not (some_below most_masters (some_count j.lost))

-- "It is well formed when n and count are in range, the previous cycle is valid for n, run lengths are below 1,024 and 17, lost counts
-- are below n (0 for absent masters), a watch stands only in an opened access, and with count 0 all but n is zero or none."
unfoldable pub well_formed : Judge → Bool
well_formed j =
    masters_ok j.n
    && leb j.count most_cycles
    && is_good (cycle_check j.n j.previous)
    && ltb j.locked 1024
    && ltb j.waited 17
    && counts_ok j.n j.lost
    && watch_ok j.opened j.watch
    && (not (eqb j.count 0) || starts_out j)
