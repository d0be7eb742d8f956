-- The refusals and their numbers: the table "Refusal numbers" of document 01, and 12, 13, 14 of request T-01.
--
--   number_of r      == the number of the refusal r
--   answer_of a      == the number that a step answers: 0, or that of its refusal
--   state_of a       == the state that a step hands back
--   outputs_of a     == what a step that is taken shows; every column is 0 where it is refused
--   reset_answer a       == the number that a reset answers: 0, or that of its refusal
--   first_of v u a o == of the tests 4, 5, 6 and 7, in this order, the first that applies
use Rattle.std.specs.Prelude.{ℕ, Bool, cond, Err, Ok}
use Rattle.rules.specs.declared.Refusal.{Refusal}
use Rattle.rules.specs.declared.Refusal.TheVariants as refusal
use Rattle.rules.specs.Results.{Check, Start, Answer}
use Rattle.rules.specs.declared.State.{State}
use Rattle.rules.specs.declared.Outputs.{Outputs}

abbrev pub number_of : Refusal → ℕ
-- n is not 2 to 16
number_of refusal.Masters = 1
-- the header has another shape or the other word, or the input is empty
number_of refusal.Header = 2
-- the position is beyond the input, a line is cut, or a tab or LF is not in its place; a step of a dump is not of its form
number_of refusal.Shape = 3
-- a character its field doesn't allow, or a number above its field's limit
number_of refusal.Value = 4
-- HTRANS 1, or HBURST 2, 4, 5, 6, 7
number_of refusal.NotBuilt = 5
-- HBUSREQ, HLOCK or HGRANT names a master not below n
number_of refusal.Absent = 6
-- HMASTER not below n
number_of refusal.Owner = 7
-- the count is 1,000,000 already; the time of a step is
number_of refusal.Full = 8
-- a lent buffer is too short
number_of refusal.Short = 9
-- the state is not well formed
number_of refusal.State = 10
-- a decision with a request high finds no master
number_of refusal.Nobody = 11
-- the header of a dump is not ours, or the input is empty
number_of refusal.Dump = 12
-- a time of a dump that does not rise by one from 0
number_of refusal.Time = 13
-- a value of a variable that the dump does not have
number_of refusal.Variable = 14

abbrev pub answer_of : Answer → ℕ
answer_of (Ok (s, o)) = 0
answer_of (Err (r, s)) = number_of r

abbrev pub state_of : Answer → State
state_of (Ok (s, o)) = s
state_of (Err (r, s)) = s

abbrev pub outputs_of : Answer → Outputs
outputs_of (Ok (s, o)) = o
outputs_of (Err (r, s)) =
    record { hgrant = 0; hmaster = 0; hmastlock = 0; decide = 0; granted = 0; busreq = 0 }

abbrev pub reset_answer : Start → ℕ
reset_answer (Ok s) = 0
reset_answer (Err r) = number_of r

-- the flags say whether 4, 5, 6 and 7 apply
abbrev pub first_of : Bool → Bool → Bool → Bool → Check
first_of value unbuilt absent owner =
    cond value (Err refusal.Value)
    (cond unbuilt (Err refusal.NotBuilt)
    (cond absent (Err refusal.Absent)
    (cond owner (Err refusal.Owner) (Ok tt))))
