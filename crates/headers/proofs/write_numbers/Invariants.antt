-- `write_numbers` meets its contract. Invariants: the bytes of the numbers counted; those of the numbers written stand in the buffer.
use Rattle.std.proofs.Common.{◌≡◌, ◌+◌, ◌*◌, ◌≤◌, length, take}
use lib.Seq.{sets}
use Rattle.headers.specs.Numbers.{numbers_text, numbers_line}
use Rattle.headers.proofs.write_numbers.Given as goal

abbrev pub invariant-loop-n : goal.invariant-loop-n
invariant-loop-n l =
    (l.size ≡ length l.word + length (numbers_text (take l.n-index l.numbers))) × (l.size ≤ 8 + 11 * l.n-index)

abbrev pub invariant-loop-n-2 : goal.invariant-loop-n-2
invariant-loop-n-2 l =
    (l.at ≡ length (numbers_line l.word (take l.n-index l.numbers))) × (length l.buf ≡ length l.fn.buf) × (l.buf ≡ sets l.fn.buf 0 (numbers_line l.word (take l.n-index l.numbers)))
