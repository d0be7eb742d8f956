-- `put_decimal` meets its contract. Invariant: the digits written are the number's last ones.
use Rattle.std.proofs.Common.{◌≡◌, ℕ, ◌+◌, ◌-◌, ◌≤◌, List, length}
use lib.Seq.{sets}
use Rattle.formats.specs.Digits.{decimal}
use Rattle.fields.proofs.Decimals.{lowest}
use Rattle.fields.proofs.text.put_decimal.Given as goal

abbrev pub invariant-loop-i : goal.invariant-loop-i
invariant-loop-i l =
    (done : List ℕ) × (l.at ≤ l.i) × (lowest (l.i - l.at) l.rest done ≡ decimal l.v) × (l.i + length done ≡ l.end) × (length l.buf ≡ length l.initial.buf) × (l.buf ≡ sets l.initial.buf l.i done)
