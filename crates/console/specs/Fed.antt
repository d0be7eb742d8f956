-- What a read came to: so many bytes stand in the buffer and more may come, or no more come, or it failed.
--
--   size_of f        == the bytes that stand in the buffer where the read brought some, else 0
--   Fill f k old new == a read behind the first k bytes of a buffer, which it leaves as they are
use Rattle.std.specs.Prelude.{ℕ, ◌≤◌, ◌<◌, ◌≡◌, List, length, take, Option, Result, Err, None, Ok, Some}
use Rattle.console.specs.declared.Ending.{Ending}
use Rattle.console.specs.declared.Ending.TheVariants.{Unread}

abbrev pub size_of : Result (Option ℕ) Ending → ℕ
size_of (Ok (Some n)) = n
size_of (Ok None) = 0
size_of (Err e) = 0

pub record Fill (f : Result (Option ℕ) Ending) (k : ℕ) (old new : List ℕ) : Type 0 where
  pub kept : take k new ≡ take k old
  pub fits : size_of f ≤ length new
  -- more may come only after a read that brought a byte
  pub grows : (n : ℕ) → f ≡ Ok (Some n) → k < n
  pub unread : (e : Ending) → f ≡ Err e → e ≡ Unread
