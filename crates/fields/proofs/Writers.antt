-- The ends of a writer: the answer and the buffer, from the check of what is to be written and the room there is.
--
--   write_refused == the check refused
--   write_short   == the buffer is too short
--   write_whole   == the bytes stand at the start of the buffer
use Rattle.std.proofs.Common.{◌≡◌, ℕ, ◌<◌, ◌≤◌, List, length, sym, ap, ◌∙◌, zero-add, arith, le-ltb, lt-ltb, Err, Ok}
use lib.Seq.{sets, sets-eq}
use Rattle.rules.specs.declared.Refusal.{Refusal}
use Rattle.rules.specs.declared.Refusal.TheVariants.{Short}
use Rattle.rules.specs.Results.{Check}
use Rattle.formats.specs.Results.{Written}
use Rattle.formats.specs.Lines.{fitted, left}

-- a writer of some bytes, whose check is k, meets its contract with the answer r and the buffer out
abbrev pub Ends : Check → List ℕ → List ℕ → Written → List ℕ → Type 0
Ends k bytes buf r out = (r ≡ fitted k (length bytes) (length buf)) × (out ≡ left (fitted k (length bytes) (length buf)) bytes buf)

module _ (k c : Check) (e : c ≡ k) (bytes buf : List ℕ) where
  pub write_refused : (r : Refusal) → c ≡ Err r → Ends k bytes buf (Err r) buf
  write_refused r b =
      let u : k ≡ Err r = sym e ∙ b in
      (rw u, rw u)

  pub write_short : (size : ℕ) → c ≡ Ok tt → size ≡ length bytes → length buf < size → Ends k bytes buf (Err Short) buf
  write_short size g n h =
      let u : k ≡ (Ok tt) = sym e ∙ g in
      let short = lt-ltb (length buf) (length bytes) (omega arith) in
      (simp (u, short), simp (u, short))

  pub write_whole : (size : ℕ) (out : List ℕ) → c ≡ Ok tt → size ≡ length bytes → size ≤ length buf → out ≡ sets buf 0 bytes → Ends k bytes buf (Ok size) out
  write_whole size out g n h w =
      let u : k ≡ (Ok tt) = sym e ∙ g in
      let room = le-ltb (length buf) (length bytes) (omega arith) in
      (simp (u, room) (ap Ok n), simp (u, room) (w ∙ rw zero-add at (sets-eq bytes buf 0 (omega arith))))
