-- The header of a dump in a lent buffer.
--
--   dump_header_size == it has no more bytes than the room that the call asks for
--   dump_header_fits == so the writer writes it
use Prim.Native.Nat.{ℕ, ◌≤◌}
use mathlib.Core.Path.{◌≡◌, refl, ap}
use mathlib.Core.Bool.{true}
use mathlib.Core.List.{List}
use native.Mathlib.Omega.{arith}
use borrow.Author.Tests.{le-ltb}
use lib.ListN.{length, length-append}
use Rattle.rules.specs.State.{masters_ok}
use Rattle.rules.proofs.Choice.{order}
use Rattle.formats.specs.Results.{Written}
use Rattle.formats.specs.Digits.{decimal_before, decimal}
use Rattle.formats.specs.Texts.{bytes}
use Rattle.formats.proofs.Decimal.{one_digit_lem, two_digits_lem}
use Rattle.formats.proofs.Limits.{ok_range}
use Rattle.streams.specs.Turns.{Put, size_of}
use Rattle.waves.specs.Header.{opening, declared, all_declared, closing, dump_header, write_dump_header_of, dump_header_written}
use Rattle.conversions.specs.Heads.{dump_head_room}

opening_size : length opening ≡ 17
unfolding opening bytes
opening_size = refl

closing_size : length closing ≡ 379
unfolding closing all_declared declared bytes decimal_before
closing_size = refl

digits_size : (n : ℕ) → masters_ok n ≡ true → length (decimal n) ≤ 2
digits_size n good =
    let range = ok_range n good in
    order 10 n
    (λ two. rw (two_digits_lem n two (omega (arith, range.many))) (omega arith))
    (λ one. rw (one_digit_lem n one) (omega arith))

pub dump_header_size : (n : ℕ) → masters_ok n ≡ true → length (dump_header n) ≤ dump_head_room
unfolding dump_header
dump_header_size n good =
    rw (length-append opening, length-append (decimal n), opening_size, closing_size) (omega (arith, digits_size n good))

pub dump_header_fits : (n : ℕ) → masters_ok n ≡ true → (buffer out : List ℕ) (w : Written) → dump_head_room ≤ length buffer
    → (w ≡ write_dump_header_of n (length buffer)) × (out ≡ dump_header_written n buffer) → Put (dump_header n) buffer (size_of w) out
unfolding write_dump_header_of dump_header_written
dump_header_fits n good buffer out w room e =
    let there = le-ltb (length buffer) (length (dump_header n)) (omega (arith, dump_header_size n good)) in
    record { size = ap size_of (simp (good, there) at e.0); puts = simp (good, there) at e.1 }
