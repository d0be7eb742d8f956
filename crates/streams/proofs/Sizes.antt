-- How long the lines of the two programs are at most, and what a line comes to by what it wrote.
--
--   refused_size, end_size, header_size, breach_size == the lengths
--   went, ended     == a line that goes on, and one that stops, by what it wrote
use Prim.Native.Nat.{ℕ, ◌^◌, ◌≤◌, ◌<◌}
use mathlib.Core.Path.{◌≡◌, refl, ap, ◌∙◌}
use mathlib.Core.Bool.{Bool, true, false, ◌&&◌}
use mathlib.Core.List.{List, [], ◌∷◌, Memᴰ}
use native.Mathlib.Omega.{arith}
use borrow.Author.Tests.{leb-true}
use lib.Dec.{leb}
use lib.ListN.{length, length-append}
use Rattle.rules.specs.declared.Refusal.{Refusal}
use Rattle.rules.specs.Refusals.{number_of}
use Rattle.rules.proofs.Choice.{and_left, and_right}
use Rattle.rulebook.specs.declared.Rule.{Rule}
use Rattle.rulebook.proofs.Listed.{every_rule}
use Rattle.formats.specs.declared.Word.TheVariants.{Trace}
use Rattle.formats.specs.Digits.{decimal_before, decimal}
use Rattle.formats.specs.Headers.{header}
use Rattle.formats.specs.Report.{index_of, breach_line, end_line, refused_line}
use Rattle.formats.proofs.Decimal.{in_decimal}
use Rattle.formats.proofs.Report.{refusal_bound}
use Rattle.streams.specs.Streams.{Turn, goes, stops}
use Rattle.streams.specs.Turns.{Put, Lined}

decimal_size : (v : ℕ) → v < 10 ^ 10 → length (decimal v) ≤ 10
decimal_size v h = (in_decimal v h).few

pub refused_size : (line : ℕ) (r : Refusal) → line < 10 ^ 10 → length (refused_line line r) ≤ 31
unfolding refused_line
refused_size line r h =
    let a = decimal_size line h in
    let b = decimal_size (number_of r) (refusal_bound r) in
    simp length-append (omega arith)

pub end_size : (cycles breaches : ℕ) → cycles < 10 ^ 10 → breaches < 10 ^ 10 → length (end_line cycles breaches) ≤ 31
unfolding end_line
end_size cycles breaches h k =
    let a = decimal_size cycles h in
    let b = decimal_size breaches k in
    simp length-append (omega arith)

pub header_size : (n : ℕ) → n < 10 ^ 10 → length (header Trace n) ≤ 31
unfolding header
header_size n h =
    let a = decimal_size n h in
    simp length-append (omega arith)

-- a test that each rule of the list passes
abbrev all_pass : (Rule → Bool) → List Rule → Bool
all_pass f [] = true
all_pass f (r ∷ l) = f r && all_pass f l

each_rule : (f : Rule → Bool) (r : Rule) {l : List Rule} → Memᴰ r l → all_pass f l ≡ true → f r ≡ true
each_rule f r (Memᴰ.head {x = x} e) h = ap f e ∙ and_left (f x) _ h
each_rule f r (Memᴰ.tail {x = x} m) h = each_rule f r m (and_right (f x) _ h)

-- no rule's number has more than two digits
index_size : (r : Rule) → length (decimal (index_of r)) ≤ 2
unfolding decimal_before
index_size r = leb-true _ _ (each_rule (λ q. leb (length (decimal (index_of q))) 2) r (every_rule r) refl)

pub breach_size : (t : ℕ) (r : Rule) → t < 10 ^ 10 → length (breach_line t r) ≤ 15
unfolding breach_line
breach_size t r h =
    let a = decimal_size t h in
    let b = index_size r in
    simp length-append (omega arith)

-- what was written, as the answer of a call that takes one line
module _ {S : Type 0} (s : S) (turn : Turn S) (bytes buffer : List ℕ) (k : ℕ) (out : List ℕ) (p : Put bytes buffer k out) where
  pub went : (t : S) (next : ℕ) → turn ≡ goes bytes t next → Lined s turn buffer k true t out
  went t next e = rw e (record { size = p.size; flow = refl; state = refl; puts = p.puts })

  pub ended : turn ≡ stops bytes → Lined s turn buffer k false s out
  ended e = rw e (record { size = p.size; flow = refl; state = refl; puts = p.puts })
