-- The judge's state as a C caller lends it. Where a number has two bytes or four, the low byte is first.
--
--   byte | 0 | 1      | 2     | 3 | 4 and 5          | 6                | 7 | 8 to 11
--        | n | opened | watch | k | run length of A1 | run length of A2 | 0 | count
--
--   byte | 12 and 13 | 14 and 15 | 16     | 17     | 18     | 19 and 20 | 21      | 22        | 23     | 24      | 25
--        | HBUSREQ   | HLOCK     | HREADY | HTRANS | HBURST | HGRANT    | HMASTER | HMASTLOCK | DECIDE | GRANTED | BUSREQ   of the previous cycle
--
--   byte | 26 to 41
--        | the lost counts of masters 0 to 15
--
-- opened is 0 or 1; the watch is 0 none, 1 on G2, 2 on G3; k is the ready cycles left on G3, else 0.
--
--   judge_size    == the bytes of a judge
--   judge_bytes j == the bytes of the judge j: head_bytes are 0 to 11, cycle_bytes of the previous cycle 12 to 25; the lost counts follow
--   is_judge b    == b begins with the bytes of a judge, well formed or not
--   judge_in b    == that judge
--   bytes_judge b == the judge whose bytes b begins with, if there is one
use Rattle.std.specs.Prelude.{ℕ, Bool, ◌&&◌, ◌||◌, cond, List, [], ◌∷◌, ◌++◌, Option, Some, None, eqb, leb, get_or, take, drop}
use Rattle.rules.specs.declared.Inputs.{Inputs}
use Rattle.rules.specs.declared.Outputs.{Outputs}
use Rattle.rules.specs.declared.Cycle.{Cycle}
use Rattle.rules.specs.Step.{flag_of}
use Rattle.rulebook.specs.declared.Watch.{Watch}
use Rattle.rulebook.specs.declared.Watch.TheVariants.{Nothing, OnG2, OnG3}
use Rattle.rulebook.specs.declared.Judge.{Judge}
use Rattle.words.specs.Words.{low_first, number_low}

abbrev pub judge_size : ℕ
judge_size = 42

abbrev pub watch_byte : Watch → ℕ
watch_byte Nothing = 0
watch_byte OnG2 = 1
watch_byte (OnG3 k) = 2

abbrev pub left_byte : Watch → ℕ
left_byte Nothing = 0
left_byte OnG2 = 0
left_byte (OnG3 k) = k

unfoldable pub head_of : ℕ → Bool → Watch → ℕ → ℕ → ℕ → List ℕ
head_of n opened watch locked waited count =
    n
    ∷ flag_of opened
    ∷ watch_byte watch
    ∷ left_byte watch
    ∷ (low_first 2 locked ++ (waited ∷ 0 ∷ low_first 4 count))

abbrev pub head_bytes : Judge → List ℕ
head_bytes j = head_of j.n j.opened j.watch j.locked j.waited j.count

-- the eleven columns, in the order of a trace line
unfoldable pub input_bytes : Inputs → List ℕ
input_bytes x =
    low_first 2 x.hbusreq ++ (low_first 2 x.hlock ++ (x.hready ∷ x.htrans ∷ x.hburst ∷ []))

unfoldable pub output_bytes : Outputs → List ℕ
output_bytes o =
    low_first 2 o.hgrant ++ (o.hmaster ∷ o.hmastlock ∷ o.decide ∷ o.granted ∷ o.busreq ∷ [])

unfoldable pub cycle_bytes : Cycle → List ℕ
cycle_bytes c = input_bytes c.inputs ++ output_bytes c.outputs

unfoldable pub judge_bytes : Judge → List ℕ
judge_bytes j = head_bytes j ++ (cycle_bytes j.previous ++ j.lost)

-- the watch that the bytes w and k write
unfoldable pub watch_of : ℕ → ℕ → Watch
watch_of w k = cond (eqb w 0) Nothing (cond (eqb w 1) OnG2 (OnG3 k))

-- opened above 1, a watch above 2, k not 0 but on G3, or the spare byte not 0: no judge has such bytes
unfoldable pub is_judge : List ℕ → Bool
is_judge b =
    leb (get_or b 1 0) 1 && leb (get_or b 2 0) 2 && (eqb (get_or b 2 0) 2 || eqb (get_or b 3 0) 0) && eqb (get_or b 7 0) 0

unfoldable pub cycle_in : List ℕ → Cycle
cycle_in b =
    record {
      inputs = record {
        hbusreq = number_low 2 b 12;
        hlock = number_low 2 b 14;
        hready = get_or b 16 0;
        htrans = get_or b 17 0;
        hburst = get_or b 18 0;
      };
      outputs = record {
        hgrant = number_low 2 b 19;
        hmaster = get_or b 21 0;
        hmastlock = get_or b 22 0;
        decide = get_or b 23 0;
        granted = get_or b 24 0;
        busreq = get_or b 25 0;
      };
    }

unfoldable pub judge_in : List ℕ → Judge
judge_in b =
    record {
      n = get_or b 0 0;
      count = number_low 4 b 8;
      previous = cycle_in b;
      locked = number_low 2 b 4;
      waited = get_or b 6 0;
      opened = eqb (get_or b 1 0) 1;
      watch = watch_of (get_or b 2 0) (get_or b 3 0);
      lost = take 16 (drop 26 b);
    }

unfoldable pub bytes_judge : List ℕ → Option Judge
bytes_judge b = cond (is_judge b) (Some (judge_in b)) None
