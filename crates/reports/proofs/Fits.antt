-- Writers whose bytes fit.
--
--   fits            == a writer of bytes that fit writes them
--   refused_fits, end_fits, breach_fits, header_fits == so do those of the report's lines and of the header
use Rattle.std.specs.Prelude.{Ok}
use Prim.Native.Nat.{ℕ, ◌^◌, ◌≤◌, ◌<◌}
use mathlib.Core.Path.{◌≡◌, ap, ◌∙◌}
use mathlib.Core.Bool.{true}
use mathlib.Core.List.{List}
use native.Mathlib.Omega.{arith}
use borrow.Author.Tests.{le-ltb}
use lib.ListN.{length}
use Rattle.rules.specs.declared.Refusal.{Refusal}
use Rattle.rules.specs.Results.{Check}
use Rattle.rules.specs.State.{masters_ok}
use Rattle.rulebook.specs.declared.Rule.{Rule}
use Rattle.formats.specs.Results.{Written}
use Rattle.formats.specs.declared.Word.TheVariants.{Trace}
use Rattle.formats.specs.Lines.{fitted, left, for_masters}
use Rattle.formats.specs.Headers.{header, write_header_of, header_written}
use Rattle.formats.specs.Report.{breach_line, end_line, refused_line, write_of, written_of}
use Rattle.streams.specs.Turns.{size_of, Put}
use Rattle.streams.proofs.Sizes.{refused_size, end_size, header_size, breach_size}

module _ (bytes buffer out : List ℕ) (w : Written) (k : ℕ) where
  pub fits : length bytes ≤ length buffer → (w ≡ write_of bytes (length buffer)) × (out ≡ written_of bytes buffer) → k ≡ size_of w → Put bytes buffer k out
  fits room e size =
      let there = le-ltb (length buffer) (length bytes) room in
      record { size = size ∙ ap size_of (simp there at e.0); puts = simp there at e.1 }

  -- over any check that passes
  passed : (c : Check) → c ≡ Ok tt → length bytes ≤ length buffer
      → (w ≡ fitted c (length bytes) (length buffer)) × (out ≡ left (fitted c (length bytes) (length buffer)) bytes buffer)
      → k ≡ size_of w → Put bytes buffer k out
  passed c good room e size = fits room (rw good at e) size

-- the calls that write them
module _ (buffer out : List ℕ) (w : Written) (k : ℕ) where
  pub refused_fits : (line : ℕ) (r : Refusal) → line < 10 ^ 10 → 31 ≤ length buffer
      → (w ≡ write_of (refused_line line r) (length buffer)) × (out ≡ written_of (refused_line line r) buffer) → k ≡ size_of w
      → Put (refused_line line r) buffer k out
  refused_fits line r h room e size = fits (refused_line line r) buffer out w k (omega (arith, refused_size line r h)) e size

  pub end_fits : (cycles breaches : ℕ) → cycles < 10 ^ 10 → breaches < 10 ^ 10 → 31 ≤ length buffer
      → (w ≡ write_of (end_line cycles breaches) (length buffer)) × (out ≡ written_of (end_line cycles breaches) buffer) → k ≡ size_of w
      → Put (end_line cycles breaches) buffer k out
  end_fits cycles breaches h h' room e size =
      fits (end_line cycles breaches) buffer out w k (omega (arith, end_size cycles breaches h h')) e size

  pub breach_fits : (t : ℕ) (r : Rule) → t < 10 ^ 10 → 15 ≤ length buffer
      → (w ≡ write_of (breach_line t r) (length buffer)) × (out ≡ written_of (breach_line t r) buffer) → k ≡ size_of w
      → Put (breach_line t r) buffer k out
  breach_fits t r h room e size = fits (breach_line t r) buffer out w k (omega (arith, breach_size t r h)) e size

  pub header_fits : (n : ℕ) → masters_ok n ≡ true → n < 10 ^ 10 → 31 ≤ length buffer
      → (w ≡ write_header_of Trace n (length buffer)) × (out ≡ header_written Trace n buffer) → k ≡ size_of w
      → Put (header Trace n) buffer k out
  unfolding write_header_of header_written
  header_fits n good h room e size =
      passed (header Trace n) buffer out w k (for_masters n (Ok tt)) (rw good) (omega (arith, header_size n h)) e size
