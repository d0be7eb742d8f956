-- What a writer leaves in a lent buffer.
--
--   writes          == the one law of all writers: the bytes and the rest as it was, or all as it was
use Rattle.std.specs.Prelude.{Err, Ok}
use Prim.Native.Nat.{ℕ, ◌≤◌}
use mathlib.Core.Path.{refl, ◌∙◌}
use mathlib.Core.List.{List}
use native.Mathlib.Omega.{arith}
use lib.ListN.{length, drop, length-append, length-drop}
use Rattle.rules.specs.declared.Refusal.{Refusal}
use Rattle.rules.specs.declared.Refusal.TheVariants.{Short}
use Rattle.rules.specs.Results.{Check}
use Rattle.formats.specs.Lines.{fitted, left}
use Rattle.formats.specs.Promises.{Writes}
use Rattle.formats.proofs.Bytes.{below}
use Rattle.formats.proofs.Report.{refusal_some}

kept : (l buffer : List ℕ) (r : Refusal) → Writes l buffer (Err r) (left (Err r) l buffer)
kept l buffer r =
    record {
      same_length = refl;
      refused = λ h. refl;
      done = λ e. absurd (omega (arith, refusal_some r, e));
    }

done : (l buffer : List ℕ) → length l ≤ length buffer → Writes l buffer (Ok (length l)) (left (Ok (length l)) l buffer)
done l buffer room =
    record {
      same_length = length-append l (drop (length l) buffer) ∙ rw (length-drop (length l) buffer) (omega arith);
      refused = λ h. absurd (h refl);
      done = λ e. (refl, refl);
    }

pub writes : (k : Check) (l buffer : List ℕ)
    → Writes l buffer (fitted k (length l) (length buffer)) (left (fitted k (length l) (length buffer)) l buffer)
writes (Ok _) l buffer =
    below (λ a. Writes l buffer a (left a l buffer)) (length buffer) (length l)
    (λ short. kept l buffer Short)
    (λ room. done l buffer room)
writes (Err r) l buffer = kept l buffer r
