-- Whole files, over any format of lines: what is written reads back, and what is read writes back.
--
--   befores l m  == the lines l, and then what m finds
--   lines_read   == written lines read back, whatever comes after them, with fuel for one more
--   lines_write  == lines that end write back as the bytes from their start on, with fuel for every byte
--   file_for w F n l, read_file w F s == a file of the word w and lines of the format F, written and read
--   file_of_lem  == a reader of such files, over the reader of their lines
--   file_reads, file_writes == the two round trips of a file
--   file_refused == what is refused after k valid lines is refused at line k + 2
use Rattle.std.specs.Prelude.{Err, Ok}
use Prim.Native.Nat.{ℕ, zero, suc, ◌+◌, ◌≤◌, ◌<◌}
use mathlib.Core.Path.{◌≡◌, refl, sym, ◌∙◌, ap, fun_ext}
use mathlib.Core.Bool.{Bool, true, false, false≢true}
use mathlib.Core.List.{List, [], ◌∷◌, ◌++◌, append_assoc, append-nil}
use native.Mathlib.Nat.{add-zero}
use native.Mathlib.Omega.{arith}
use lib.ListN.{length, drop, length-append, take-append-drop, drop_of_length-le}
use lib.Seq.{drop-drop, drop-length}
use Rattle.rules.specs.declared.Refusal.{Refusal}
use Rattle.formats.specs.declared.Word.{Word}
use Rattle.formats.specs.Results.{HeaderRead}
use Rattle.formats.specs.Headers.{header, read_header_of}
use Rattle.formats.specs.Files.{lines_of, Line, one, no_more, refused, Lines, ended, stopped, before, onward, lines_from, File, complete, refused_at, file_of, after_header}
use Rattle.formats.specs.Promises.{Each, InRange}
use Rattle.formats.proofs.Reading.{Format, Valid, line_of, size, line_length, reading, written_reads, read_writes, reads_end, end_read}
use Rattle.formats.proofs.Headers.{header_reads, header_writes}

module _ {A : Type 0} where
  abbrev is_ended : Lines A → Bool
  is_ended (ended l) = true
  is_ended (stopped l r) = false

  abbrev is_complete : File A → Bool
  is_complete (complete n l) = true
  is_complete (refused_at k r) = false

  before_elim : {P : Type 0} (a : A) (m : Lines A) (l : List A) → before a m ≡ ended l
      → ((k : List A) → m ≡ ended k → l ≡ a ∷ k → P) → P
  before_elim a (ended k) l e f = f k refl (cc)
  before_elim a (stopped k r) l e f = absurd (false≢true (ap is_ended e))

  -- lines that end begin with a line, or there is none
  onward_elim : {P : Type 0} (r : Line A) (more : ℕ → Lines A) (l : List A) → onward r more ≡ ended l
      → ((a : A) (next : ℕ) (k : List A) → r ≡ one a next → more next ≡ ended k → l ≡ a ∷ k → P)
      → (r ≡ no_more → l ≡ [] → P) → P
  onward_elim (one a next) more l e f g = before_elim a (more next) l e (λ k q s. f a next k refl q s)
  onward_elim no_more more l e f g = g refl (cc)
  onward_elim (refused r) more l e f g = absurd (false≢true (ap is_ended e))

  file_elim : {P : Type 0} (n m : ℕ) (r : Lines A) (l : List A) → file_of m r ≡ complete n l → (m ≡ n → r ≡ ended l → P) → P
  file_elim n m (ended k) l e f = f (cc) (cc)
  file_elim n m (stopped k r) l e f = absurd (false≢true (ap is_complete e))

  header_elim : {P : Type 0} (h : HeaderRead) (lines : ℕ → ℕ → Lines A) (n : ℕ) (l : List A) → after_header h lines ≡ complete n l
      → ((p : ℕ) → h ≡ Ok (n, p) → lines n p ≡ ended l → P) → P
  header_elim (Ok (m, p)) lines n l e f =
      file_elim n m (lines m p) l e (λ q r. f p (ap (λ k. Ok (k, p)) q) (rw (← q) r))
  header_elim (Err r) lines n l e f = absurd (false≢true (ap is_complete e))

abbrev pub befores : {A : Type 0} → List A → Lines A → Lines A
befores [] m = m
befores (a ∷ l) m = before a (befores l m)

befores_ended : {A : Type 0} (l : List A) → befores l (ended []) ≡ ended l
befores_ended [] = refl
befores_ended (a ∷ l) = ap (before a) (befores_ended l)

befores_stopped : {A : Type 0} (l : List A) (r : Refusal) → befores l (stopped [] r) ≡ stopped l r
befores_stopped [] r = refl
befores_stopped (a ∷ l) r = ap (before a) (befores_stopped l r)

-- a line has bytes
lines_long : {A : Type 0} (F : Format A) (l : List A) → length l ≤ length (lines_of (line_of F) l)
unfolding lines_of
lines_long F [] = omega arith
lines_long F (a ∷ l) =
    omega (arith, length-append (line_of F a) (lines_of (line_of F) l), line_length F a, F.some, lines_long F l)

module _ {A : Type 0} (F : Format A) (n : ℕ) where
  -- after valid lines the reading goes as it goes from their end on, where that stops
  pub lines_read : (l : List A) (k : ℕ) (pre rest s : List ℕ) (out : Lines A) → s ≡ pre ++ (lines_of (line_of F) l ++ rest)
      → InRange n → Each (Valid F n) l → length l < k
      → ((more : ℕ → Lines A) → onward (reading F n s (length pre + length (lines_of (line_of F) l))) more ≡ out)
      → lines_from (reading F n s) k (length pre) ≡ befores l out
  unfolding lines_from lines_of
  lines_read l zero pre rest s out e range all h stops = absurd (omega arith)
  lines_read [] (suc k) pre rest s out e range all h stops =
      rw add-zero at (stops (lines_from (reading F n s) k))
  lines_read (a ∷ l) (suc k) pre rest s out e range all h stops =
      let lines : List ℕ = lines_of (line_of F) l in
      let here : s ≡ pre ++ (line_of F a ++ (lines ++ rest)) = e ∙ ap (λ b. pre ++ b) (append_assoc (line_of F a) lines rest) in
      let there : s ≡ (pre ++ line_of F a) ++ (lines ++ rest) = here ∙ sym (append_assoc pre (line_of F a) (lines ++ rest)) in
      let past : length (pre ++ line_of F a) ≡ length pre + size F = length-append pre (line_of F a) ∙ rw (line_length F a) in
      let last : length (pre ++ line_of F a) + length lines ≡ length pre + length (line_of F a ++ lines) =
      omega (arith, length-append pre (line_of F a), length-append (line_of F a) lines) in
      let first : reading F n s (length pre) ≡ one a (length pre + size F) =
      rw here (written_reads F n a pre (lines ++ rest) range all.0) in
      let more : lines_from (reading F n s) k (length pre + size F) ≡ befores l out =
      rw (← past)
      (lines_read l k (pre ++ line_of F a) rest s out there range all.1 (omega arith) (λ m. rw last (stops m))) in
      rw (first, more)

  pub record LinesWrote (s : List ℕ) (p : ℕ) (l : List A) : Type 0 where
    pub bytes : lines_of (line_of F) l ≡ drop p s
    pub valid : Each (Valid F n) l

  pub lines_write : (k : ℕ) (s : List ℕ) (p : ℕ) (l : List A) → length s < k + p
      → lines_from (reading F n s) k p ≡ ended l → LinesWrote s p l
  unfolding lines_from lines_of
  lines_write zero s p l h e =
      let q : [] ≡ l = cc in
      rw (← q) (record { bytes = sym (drop_of_length-le s {i = p} (omega arith)); valid = tt })
  lines_write (suc k) s p l h e =
      onward_elim (reading F n s p) (lines_from (reading F n s) k) l e
      (λ a next m first rest q.
      let w = read_writes F n s p a next first in
      let r = lines_write k s next m (omega (arith, w.past, F.some)) rest in
      let bytes : line_of F a ++ lines_of (line_of F) m ≡ drop p s =
      rw (w.bytes, r.bytes, w.past, ← drop-drop (size F) p s) (take-append-drop (size F) (drop p s)) in
      rw q (record { bytes = bytes; valid = (w.valid, r.valid) }))
      (λ last q. rw (q, end_read F n s p last) (record { bytes = sym (drop-length s); valid = tt }))

module _ {A : Type 0} (w : Word) (F : Format A) where
  abbrev pub file_for : ℕ → List A → List ℕ
  file_for n l = header w n ++ lines_of (line_of F) l

  unfoldable pub read_file : List ℕ → File A
  read_file s = after_header (read_header_of w s) (λ n p. lines_from (reading F n s) (suc (length s)) p)

  -- a reader of files over a reader of lines that is `reading` of the format
  pub file_of_lem : (read : ℕ → List ℕ → ℕ → Line A) → ((n : ℕ) (s : List ℕ) (p : ℕ) → read n s p ≡ reading F n s p)
      → (s : List ℕ)
      → after_header (read_header_of w s) (λ n p. lines_from (read n s) (suc (length s)) p) ≡ read_file s
  unfolding read_file
  file_of_lem read same s =
      ap (after_header (read_header_of w s))
      (fun_ext λ n. fun_ext λ p. ap (λ r. lines_from r (suc (length s)) p) (fun_ext (same n s)))

  -- a header and valid lines, whatever comes after them
  read_to : (n : ℕ) (l : List A) (rest : List ℕ) (out : Lines A) → InRange n → Each (Valid F n) l
      → ((more : ℕ → Lines A) → onward (reading F n (file_for n l ++ rest) (length (file_for n l))) more ≡ out)
      → read_file (file_for n l ++ rest) ≡ file_of n (befores l out)
  unfolding read_file
  read_to n l rest out range all stops =
      let lines : List ℕ = lines_of (line_of F) l in
      let s : List ℕ = file_for n l ++ rest in
      let e : s ≡ header w n ++ (lines ++ rest) = append_assoc (header w n) lines rest in
      let fuel : length l < suc (length s) =
      omega (arith, lines_long F l, length-append (file_for n l) rest, length-append (header w n) lines) in
      let h : read_header_of w s ≡ Ok (n, length (header w n)) = rw e (header_reads w n (lines ++ rest) range) in
      let past : (more : ℕ → Lines A) → onward (reading F n s (length (header w n) + length lines)) more ≡ out =
      λ more. rw (← length-append (header w n) lines) (stops more) in
      rw (h, lines_read F n l (suc (length s)) (header w n) rest s out e range all fuel past)

  pub file_reads : (n : ℕ) (l : List A) → InRange n → Each (Valid F n) l → read_file (file_for n l) ≡ complete n l
  file_reads n l range all =
      let e : file_for n l ++ [] ≡ file_for n l = append-nil (file_for n l) in
      let r : read_file (file_for n l ++ []) ≡ file_of n (befores l (ended [])) =
      read_to n l [] (ended []) range all (λ more. rw (e, reads_end F n (file_for n l) range)) in
      rw (e, befores_ended) at r

  pub file_refused : (n : ℕ) (l : List A) (rest : List ℕ) (r : Refusal) → InRange n → Each (Valid F n) l
      → reading F n (file_for n l ++ rest) (length (file_for n l)) ≡ refused r
      → read_file (file_for n l ++ rest) ≡ refused_at (length l + 2) r
  file_refused n l rest r range all e =
      read_to n l rest (stopped [] r) range all (λ more. rw e) ∙ rw (befores_stopped l r)

  pub record FileWrote (s : List ℕ) (n : ℕ) (l : List A) : Type 0 where
    pub range : InRange n
    pub bytes : file_for n l ≡ s
    pub valid : Each (Valid F n) l

  pub file_writes : (s : List ℕ) (n : ℕ) (l : List A) → read_file s ≡ complete n l → FileWrote s n l
  unfolding read_file
  file_writes s n l e =
      header_elim (read_header_of w s) (λ m p. lines_from (reading F m s) (suc (length s)) p) n l e
      (λ p first rest.
      let h = header_writes w s n p first in
      let r = lines_write F n (suc (length s)) s p l (omega arith) rest in
      record {
        range = h.range;
        bytes = rw (h.bytes, r.bytes) (take-append-drop p s);
        valid = r.valid;
      })
