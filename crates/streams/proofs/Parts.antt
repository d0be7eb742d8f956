-- A part of a buffer, from a place to its end, that is lent and comes back.
--
--   written_on      == bytes written at the start of a part stand after those before it
use Prim.Native.Nat.{ℕ, ◌-◌}
use mathlib.Core.Path.{◌≡◌, ◌∙◌}
use mathlib.Core.List.{List, ◌++◌, append-nil, append_assoc}
use lib.ListN.{length, take, drop, length-append}
use lib.Seq.{take_at, drop_at, drop-drop}
use Rattle.words.proofs.Words.{part_rest, nothing_after}
use Rattle.streams.specs.Turns.{over}

tail_back : (w : ℕ) (xs ys : List ℕ) → take w xs ++ (ys ++ drop (length xs - w) (drop w xs)) ≡ take w xs ++ ys
tail_back w xs ys = rw (nothing_after w xs, append-nil)

pub written_on : (first more buffer out left : List ℕ) (w : ℕ) → length first ≡ w → out ≡ over first buffer
    → left ≡ over more (take (length out - w) (drop w out))
    → take w out ++ (left ++ drop (length out - w) (drop w out)) ≡ over (first ++ more) buffer
written_on first more buffer out left w size puts e =
    let rest : drop w out ≡ drop (length first) buffer = rw puts (drop_at first (drop (length first) buffer) w size) in
    let front : take w out ≡ first = rw puts (take_at first (drop (length first) buffer) w size) in
    tail_back w out left
    ∙ rw (e, part_rest w out, rest, front, drop-drop, length-append, append_assoc)
