-- A line in an input, written and read, over any format of lines.
--
--   place_whole     == a line whose bytes are there, and parted, is whole
--   place_end       == at the end of the input there is no more line
--   place_elim      == what there is at a position, by its cases
--   whole_place     == a line that is whole has its bytes there, and parted
--   Format A        == a format of lines, and the laws that the round trips need
--   reading F n s p == reading a line of the format
--   written_reads   == a written line reads back
--   read_writes     == a line that was read writes back as the bytes that stood there, and is valid
--   reads_end, end_read, end_range == there is no more line exactly at the end of the input, once n is tested
--   cut_refused     == a line that is cut is refused by 3
--   unread_refused  == a line with a character that is no hex digit is refused by 4
use Rattle.std.specs.Prelude.{Err, Ok}
use Prim.Native.Nat.{ℕ, ◌+◌, ◌-◌, ◌≤◌, ◌<◌}
use mathlib.Core.Path.{◌≡◌, refl, sym, ◌∙◌, ap}
use mathlib.Core.Bool.{Bool, true, false, cond, true≢false, false≢true}
use mathlib.Core.List.{List, ◌++◌}
use native.Mathlib.Omega.{arith}
use borrow.Author.Tests.{eqb-true, lt-ltb, le-ltb, eq-eqb, ne_eqb}
use lib.Dec.{eqb}
use lib.ListN.{length, take, drop, length-append}
use Rattle.rules.specs.declared.Refusal.TheVariants as refusal
use Rattle.rules.specs.Results.{Check}
use Rattle.rules.specs.State.{masters_ok}
use Rattle.rules.proofs.Choice.{cond_elim}
use Rattle.formats.specs.Fields.{Field, width, write, parted, values}
use Rattle.formats.specs.Lines.{Place, beyond, at_end, cut, whole, place}
use Rattle.formats.specs.Files.{Line, one, no_more, refused}
use Rattle.formats.specs.Promises.{InRange, Unread}
use Rattle.formats.proofs.Bytes.{below}
use Rattle.formats.proofs.Fields.{Fits, write_length, values_write, parted_write, write_values, unread_unfit}
use Rattle.formats.proofs.Limits.{range_ok, ok_range}

pub record Whole (fs : List Field) (s : List ℕ) (p : ℕ) : Type 0 where
  pub inside : p + width fs ≤ length s
  pub apart : parted fs s p ≡ true

pub place_whole : (fs : List Field) (s : List ℕ) (p : ℕ) → 0 < width fs → Whole fs s p → place fs s p ≡ whole
unfolding place
place_whole fs s p some w =
    simp (
      le-ltb (length s) p (omega (arith, w.inside)),
      ne_eqb p (length s) (λ e. omega (arith, w.inside)),
      le-ltb (length s - p) (width fs) (omega (arith, w.inside)),
      w.apart,
    )

pub place_end : (fs : List Field) (s : List ℕ) → place fs s (length s) ≡ at_end
unfolding place
place_end fs s = simp (le-ltb (length s) (length s) (omega arith), eq-eqb (length s) (length s) refl)

pub place_elim : (P : Place → Type 0) (fs : List Field) (s : List ℕ) (p : ℕ)
    → (length s < p → P beyond) → (p ≡ length s → P at_end) → P cut → (Whole fs s p → P whole) → P (place fs s p)
unfolding place
place_elim P fs s p far last broken all =
    below P (length s) p far (λ near.
    cond_elim P (eqb p (length s)) (λ e. last (eqb-true p (length s) e)) (λ more.
    below P (length s - p) (width fs) (λ short. broken) (λ long.
    cond_elim P (parted fs s p) (λ e. all (record { inside = omega arith; apart = e })) (λ e. broken))))

abbrev is_whole : Place → Bool
is_whole beyond = false
is_whole at_end = false
is_whole cut = false
is_whole whole = true

pub whole_place : (fs : List Field) (s : List ℕ) (p : ℕ) → place fs s p ≡ whole → Whole fs s p
whole_place fs s p =
    place_elim (λ q. q ≡ whole → Whole fs s p) fs s p
    (λ far e. absurd (false≢true (ap is_whole e)))
    (λ last e. absurd (false≢true (ap is_whole e)))
    (λ e. absurd (false≢true (ap is_whole e)))
    (λ w e. w)

-- a line of A: its fields, the columns that are written into them, what reading finds at a position, and the check of what it finds
pub record Format (A : Type 0) : Type 0 where
  pub fields : List Field
  pub columns : A → List ℕ
  pub at : List ℕ → ℕ → A
  pub check : ℕ → A → Check
  -- there is a field, and a column for each
  pub some : 0 < width fields
  pub full : (a : A) → length (columns a) ≡ length fields
  -- the columns say all, and those that are found are the values of the fields
  pub same : (a b : A) → columns a ≡ columns b → a ≡ b
  pub stands : (s : List ℕ) (p : ℕ) → columns (at s p) ≡ values fields s p
  -- what passes the check fits, and what does not fit is refused by 4
  pub fits : (n : ℕ) (a : A) → InRange n → check n a ≡ Ok tt → Fits fields (columns a)
  pub unfit : (n : ℕ) (a : A) → (Fits fields (columns a) → ⊥) → check n a ≡ Err refusal.Value

abbrev pub Valid : {A : Type 0} → Format A → ℕ → A → Type 0
Valid F n a = F.check n a ≡ Ok tt

abbrev pub line_of : {A : Type 0} → Format A → A → List ℕ
line_of F a = write F.fields (F.columns a)

abbrev pub size : {A : Type 0} → Format A → ℕ
size F = width F.fields

pub line_length : {A : Type 0} (F : Format A) (a : A) → length (line_of F a) ≡ size F
line_length F a = write_length F.fields (F.columns a) (F.full a)

module _ {A : Type 0} where
  abbrev pub found : Place → Check → A → ℕ → Line A
  found beyond k a next = refused refusal.Shape
  found at_end k a next = no_more
  found cut k a next = refused refusal.Shape
  found whole (Ok _) a next = one a next
  found whole (Err r) a next = refused r

  abbrev is_one : Line A → Bool
  is_one (one a next) = true
  is_one no_more = false
  is_one (refused r) = false

  abbrev is_more : Line A → Bool
  is_more (one a next) = true
  is_more no_more = false
  is_more (refused r) = true

  checked : (k : Check) (a b : A) (m next : ℕ) → found whole k a m ≡ one b next → (k ≡ Ok tt) × (a ≡ b) × (m ≡ next)
  checked (Ok _) a b m next e = (refl, cc, cc)
  checked (Err r) a b m next e = absurd (false≢true (ap is_one e))

  checked_more : (k : Check) (a : A) (m : ℕ) → found whole k a m ≡ no_more → ⊥
  checked_more (Ok _) a m e = true≢false (ap is_more e)
  checked_more (Err r) a m e = true≢false (ap is_more e)

pub record Wrote {A : Type 0} (F : Format A) (n : ℕ) (s : List ℕ) (p : ℕ) (a : A) (next : ℕ) : Type 0 where
  pub range : InRange n
  pub valid : Valid F n a
  pub past : next ≡ p + size F
  pub bytes : line_of F a ≡ take (size F) (drop p s)

module _ {A : Type 0} (F : Format A) (n : ℕ) where
  unfoldable pub reading : List ℕ → ℕ → Line A
  reading s p =
      cond (masters_ok n)
      (found (place F.fields s p) (F.check n (F.at s p)) (F.at s p) (p + size F))
      (refused refusal.Masters)

  -- a written line stands whole in the input
  written_whole : (a : A) (pre post : List ℕ) → Fits F.fields (F.columns a)
      → Whole F.fields (pre ++ (line_of F a ++ post)) (length pre)
  written_whole a pre post fit =
      record {
        inside = omega (arith, length-append pre (line_of F a ++ post), length-append (line_of F a) post, line_length F a);
        apart = parted_write F.fields (F.columns a) pre post fit;
      }

  pub written_reads : (a : A) (pre post : List ℕ) → InRange n → Valid F n a
      → reading (pre ++ (line_of F a ++ post)) (length pre) ≡ one a (length pre + size F)
  unfolding reading
  written_reads a pre post range good =
      let s : List ℕ = pre ++ (line_of F a ++ post) in
      let fit : Fits F.fields (F.columns a) = F.fits n a range good in
      let here : F.at s (length pre) ≡ a =
      F.same _ _ (F.stands s (length pre) ∙ values_write F.fields (F.columns a) pre post fit) in
      rw (range_ok n range, place_whole F.fields s (length pre) F.some (written_whole a pre post fit), here, good)

  pub read_writes : (s : List ℕ) (p : ℕ) (a : A) (next : ℕ) → reading s p ≡ one a next → Wrote F n s p a next
  unfolding reading
  read_writes s p a next =
      cond_elim (λ l. l ≡ one a next → Wrote F n s p a next) (masters_ok n)
      (λ ok.
      place_elim (λ q. found q (F.check n b) b (p + size F) ≡ one a next → Wrote F n s p a next) F.fields s p
      (λ far e. absurd (false≢true (ap is_one e)))
      (λ last e. absurd (false≢true (ap is_one e)))
      (λ e. absurd (false≢true (ap is_one e)))
      (λ w e.
      let k = checked (F.check n b) b a (p + size F) next e in
      let fit : Fits F.fields (values F.fields s p) = rw (F.stands s p) at (F.fits n b (ok_range n ok) k.0) in
      let r : line_of F b ≡ take (size F) (drop p s) =
      rw (F.stands s p) (write_values F.fields s p w.apart fit w.inside) in
      record {
        range = ok_range n ok;
        valid = rw (← k.1) k.0;
        past = sym k.2;
        bytes = rw (← k.1) r;
      }))
      (λ ok e. absurd (false≢true (ap is_one e)))
    where
      b : A
      b = F.at s p

  pub reads_end : (s : List ℕ) → InRange n → reading s (length s) ≡ no_more
  unfolding reading
  reads_end s range = rw (range_ok n range, place_end F.fields s)

  pub end_range : (s : List ℕ) (p : ℕ) → reading s p ≡ no_more → InRange n
  unfolding reading
  end_range s p =
      cond_elim (λ l. l ≡ no_more → InRange n) (masters_ok n)
      (λ ok e. ok_range n ok)
      (λ ok e. absurd (true≢false (ap is_more e)))

  pub end_read : (s : List ℕ) (p : ℕ) → reading s p ≡ no_more → p ≡ length s
  unfolding reading
  end_read s p =
      cond_elim (λ l. l ≡ no_more → p ≡ length s) (masters_ok n)
      (λ ok.
      place_elim (λ q. found q (F.check n (F.at s p)) (F.at s p) (p + size F) ≡ no_more → p ≡ length s) F.fields s p
      (λ far e. absurd (true≢false (ap is_more e)))
      (λ last e. last)
      (λ e. absurd (true≢false (ap is_more e)))
      (λ w e. absurd (checked_more (F.check n (F.at s p)) (F.at s p) (p + size F) e)))
      (λ ok e. absurd (true≢false (ap is_more e)))

  pub cut_refused : (s : List ℕ) (p : ℕ) → InRange n → p < length s → length s < p + size F → reading s p ≡ refused refusal.Shape
  unfolding reading place
  cut_refused s p range some short =
      simp (
        range_ok n range,
        le-ltb (length s) p (omega arith),
        ne_eqb p (length s) (λ e. omega arith),
        lt-ltb (length s - p) (size F) (omega arith),
      )

  pub unread_refused : (s : List ℕ) (p : ℕ) → InRange n → Whole F.fields s p → Unread F.fields s p
      → reading s p ≡ refused refusal.Value
  unfolding reading
  unread_refused s p range w u =
      let bad : F.check n (F.at s p) ≡ Err refusal.Value =
      F.unfit n (F.at s p) (λ fit. unread_unfit F.fields s p u (rw (F.stands s p) at fit)) in
      rw (range_ok n range, place_whole F.fields s p F.some w, bad)
