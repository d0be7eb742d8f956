-- How a program ends, and the letter that says so.
--
--   letter_of e            == the letter on descriptor 3
--   told_of e unheard      == that letter, or the one that says why: nobody reads the output any more
--   Given r                == what a write came to: all was taken, or the program ends, its output not written
--   went_on f              == whether a program goes on after a block with the flow f, or how it ends
--   ended_with n           == how it ends at the end of its input, with n breaches named
--   ends_of given n        == the same, where what it writes there was given or not
--   Answered p r           == what comes of the answer p of a block, whose bytes were given or not: what is kept, or how the program ends
--   Met x r                == the same of a stretch, by the definitions
--   end_of breaches x      == how it ends by the definitions, after the stretch x of its input
--   EndsAfter breaches x e == it ends so, or because its output could not be written
--   Came breaches x on e  == what comes of a stretch: whether the program goes on, and how it ends if nothing follows
use Rattle.std.specs.Prelude.{ℕ, ◌≡◌, Bool, true, false, ◌&&◌, cond, eqb, Result, Err, Ok}
use Rattle.streams.specs.declared.Flow.{Flow}
use Rattle.streams.specs.declared.Progress.{Progress}
use Rattle.streams.specs.Streams.{Stretch, on, done}
use Rattle.console.specs.declared.Ending.{Ending}
use Rattle.console.specs.declared.Ending.TheVariants.{Done, Breaches, Refused, Unread, Unwritten}
use Rattle.console.specs.Going.{goes_on_after}

-- '0', '1', '2': the exit status; 'r' and 'w': the status is 2, and a sentence tells what failed
abbrev pub letter_of : Ending → ℕ
letter_of Done = 48
letter_of Breaches = 49
letter_of Refused = 50
letter_of Unread = 114
letter_of Unwritten = 119

-- 'p' in the place of 'w': the output could not be written because nobody reads it any more
abbrev pub told_of : Ending → Bool → ℕ
told_of e unheard = cond (unheard && eqb (letter_of e) 119) 112 (letter_of e)

-- all bytes were taken, or the program ends so
abbrev pub Given : Result Unit Ending → Type 0
Given r = (given : Bool) × (r ≡ cond given (Ok tt) (Err Unwritten))

-- a program that stops before its input has ended has refused it
abbrev pub went_on : Flow → Result Unit Ending
went_on f = cond (goes_on_after f) (Ok tt) (Err Refused)

abbrev pub ended_with : ℕ → Ending
ended_with n = cond (eqb n 0) Done Breaches

abbrev pub ends_of : Bool → ℕ → Ending
ends_of given n = cond given (ended_with n) Unwritten

abbrev pub Answered : {S : Type 0} → Progress S → Result S Ending → Type 0
Answered p r = (given : Bool) × (r ≡ cond given (cond (goes_on_after p.flow) (Ok p.kept) (Err Refused)) (Err Unwritten))

abbrev pub outcome : {S : Type 0} → Stretch S → Result S Ending
outcome (on bytes s) = Ok s
outcome (done bytes s) = Err Refused

abbrev pub Met : {S : Type 0} → Stretch S → Result S Ending → Type 0
Met x r = (given : Bool) × (r ≡ cond given (outcome x) (Err Unwritten))

module _ {S : Type 0} (breaches : S → ℕ) where
  abbrev pub end_of : Stretch S → Ending
  end_of (on bytes s) = cond (eqb (breaches s) 0) Done Breaches
  end_of (done bytes s) = Refused

  abbrev pub is_on : Stretch S → Bool
  is_on (on bytes s) = true
  is_on (done bytes s) = false

  abbrev pub EndsAfter : Stretch S → Ending → Type 0
  EndsAfter x e = (given : Bool) × (e ≡ cond given (end_of x) Unwritten)

  pub record Came (x : Stretch S) (goes : Bool) (e : Ending) : Type 0 where
    pub given : Bool
    pub flow : goes ≡ (given && is_on x)
    pub ending : e ≡ cond given (end_of x) Unwritten
