-- Every input has exactly one form, over any kind of file whose reader and writer agree.
--
--   Laws K       == what is asked of a kind: the lengths and the round trips of its lines, and where they end
--   End l k room == the good lines end at what was found: at the end of the input, at a refusal, or where there is room for no more
--   Stand pre room l == the good lines l stand after pre, and end there
--   lines_found  == there are such lines, whatever stands before them
--   lines_same   == and no others
--   one_form     == the promise, for a kind with these laws
use Rattle.std.specs.Prelude.{Err, Ok}
use Prim.Native.Nat.{ℕ, zero, suc, ◌+◌, ◌≤◌, ◌<◌}
use mathlib.Core.Path.{◌≡◌, refl, sym, ◌∙◌, ap, subst}
use mathlib.Core.List.{List, [], ◌∷◌, ◌++◌, append_assoc, append-nil}
use native.Mathlib.Nat.{add-zero, suc_inj}
use native.Mathlib.Omega.{arith}
use lib.ListN.{length, take, drop, length-append, length-take, length-drop, take-append-drop}
use lib.Seq.{drop-append_seam}
use Rattle.rules.proofs.Parts.{ok_parts}
use Rattle.rules.specs.declared.Refusal.{Refusal}
use Rattle.rules.specs.declared.Refusal.TheVariants as refusal
use Rattle.rules.specs.Codes.{most_cycles}
use Rattle.formats.specs.Results.{HeaderRead}
use Rattle.formats.specs.Headers.{header, read_header_of}
use Rattle.formats.specs.Files.{lines_of, Line, one, no_more, refused}
use Rattle.formats.specs.Promises.{InRange, Each}
use Rattle.formats.proofs.Promises.{written_header_reads, read_header_writes}
use Rattle.promises.specs.AnyInput.{Kind, Form, no_header, cut_after, whole, Stops, file_for, Begins, Has, OneForm}

pub record Laws {A : Type 0} (K : Kind A) : Type 0 where
  pub size : ℕ
  pub some : 0 < size
  pub long : (a : A) → length (K.line a) ≡ size
  pub reads : (n : ℕ) (a : A) (pre post : List ℕ) → InRange n → K.check n a ≡ Ok tt
      → K.read n (pre ++ (K.line a ++ post)) (length pre) ≡ one a (length pre + size)
  pub wrote : (n : ℕ) (s : List ℕ) (p : ℕ) (a : A) (next : ℕ) → K.read n s p ≡ one a next
      → (K.check n a ≡ Ok tt) × (next ≡ p + size) × (K.line a ≡ take size (drop p s))
  pub ends : (n : ℕ) (s : List ℕ) → InRange n → K.read n s (length s) ≡ no_more
  pub only : (n : ℕ) (s : List ℕ) (p : ℕ) → K.read n s p ≡ no_more → p ≡ length s

abbrev End : {A : Type 0} → Line A → ℕ → ℕ → Type 0
End (one a next) k room = k ≡ room
End no_more k room = Unit {0}
End (refused r) k room = Unit {0}

-- one line more, and room for one more
end_later : {A : Type 0} (k room : ℕ) (l : Line A) → End l k room → End l (suc k) (suc room)
end_later k room (one a next) e = ap suc e
end_later k room no_more e = tt
end_later k room (refused r) e = tt

end_sooner : {A : Type 0} (k room : ℕ) (l : Line A) → End l (suc k) (suc room) → End l k room
end_sooner k room (one a next) e = suc_inj e
end_sooner k room no_more e = tt
end_sooner k room (refused r) e = tt

module _ {A : Type 0} (K : Kind A) (laws : Laws K) (n : ℕ) (s : List ℕ) where
  -- what is found after the lines l
  abbrev after : List ℕ → List A → Line A
  after pre l = K.read n s (length pre + length (lines_of K.line l))

  record Stand (pre : List ℕ) (room : ℕ) (l : List A) : Type 0 where
    good : Each (λ a. K.check n a ≡ Ok tt) l
    few : length l ≤ room
    rest : List ℕ
    bytes : s ≡ pre ++ (lines_of K.line l ++ rest)
    end : End (after pre l) (length l) room

  after_none : (pre : List ℕ) → after pre [] ≡ K.read n s (length pre)
  unfolding lines_of
  after_none pre = ap (K.read n s) (add-zero (length pre))

  after_more : (pre : List ℕ) (a : A) (l : List A) → after (pre ++ K.line a) l ≡ after pre (a ∷ l)
  unfolding lines_of
  after_more pre a l =
      ap (K.read n s) (omega (arith, length-append pre (K.line a), length-append (K.line a) (lines_of K.line l)))

  -- where no line is taken, the reading ends at once
  stand_none : (pre rest : List ℕ) (room : ℕ) → s ≡ pre ++ rest → End (K.read n s (length pre)) 0 room → Stand pre room []
  unfolding lines_of
  stand_none pre rest room at e =
      record {
        good = tt;
        few = omega arith;
        rest = rest;
        bytes = at;
        end = subst (λ (x : Line A). End x 0 room) (sym (after_none pre)) e;
      }

  none_stands : (pre : List ℕ) (room : ℕ) → Stand pre room [] → End (K.read n s (length pre)) 0 room
  none_stands pre room t = subst (λ (x : Line A). End x 0 room) (after_none pre) t.end

  -- where one is taken, it is read, and the others stand after it
  regroup : (pre : List ℕ) (a : A) (l rest : List ℕ) → pre ++ ((K.line a ++ l) ++ rest) ≡ (pre ++ K.line a) ++ (l ++ rest)
  regroup pre a l rest = simp append_assoc

  stand_more : (pre : List ℕ) (room : ℕ) (a : A) (l : List A) → K.check n a ≡ Ok tt → Stand (pre ++ K.line a) room l → Stand pre (suc room) (a ∷ l)
  unfolding lines_of
  stand_more pre room a l good t =
      record {
        good = (good, t.good);
        few = omega (arith, t.few);
        rest = t.rest;
        bytes = t.bytes ∙ sym (regroup pre a (lines_of K.line l) t.rest);
        end =
            subst (λ (x : Line A). End x (suc (length l)) (suc room)) (after_more pre a l)
            (end_later (length l) room (after (pre ++ K.line a) l) t.end);
      }

  first_stands : InRange n → (pre : List ℕ) (room : ℕ) (a : A) (l : List A) → Stand pre room (a ∷ l) → K.read n s (length pre) ≡ one a (length pre + laws.size)
  unfolding lines_of
  first_stands range pre room a l t =
      rw (t.bytes, append_assoc (K.line a) (lines_of K.line l) t.rest) (laws.reads n a pre _ range t.good.0)

  others_stand : (pre : List ℕ) (room : ℕ) (a : A) (l : List A) → Stand pre (suc room) (a ∷ l) → Stand (pre ++ K.line a) room l
  unfolding lines_of
  others_stand pre room a l t =
      record {
        good = t.good.1;
        few = omega (arith, t.few);
        rest = t.rest;
        bytes = t.bytes ∙ regroup pre a (lines_of K.line l) t.rest;
        end =
            end_sooner (length l) room (after (pre ++ K.line a) l)
            (subst (λ (x : Line A). End x (suc (length l)) (suc room)) (sym (after_more pre a l)) t.end);
      }

  -- the good lines from a position on, no more than there is room for
  lines_found : (k room : ℕ) (pre rest : List ℕ) → s ≡ pre ++ rest → length rest < k → (l : List A) × Stand pre room l
  lines_found zero room pre rest at fuel = absurd (omega arith)
  lines_found (suc k) room pre rest at fuel = go room (K.read n s (length pre)) refl (lines_found k)
    where
      go : (room : ℕ) (l : Line A) → K.read n s (length pre) ≡ l
          → ((room : ℕ) (pre rest : List ℕ) → s ≡ pre ++ rest → length rest < k → (l : List A) × Stand pre room l)
          → (l : List A) × Stand pre room l
      go room no_more e later = ([], stand_none pre rest room at (rw e tt))
      go room (refused r) e later = ([], stand_none pre rest room at (rw e tt))
      go zero (one a next) e later = ([], stand_none pre rest zero at (rw e refl))
      go (suc room) (one a next) e later =
          let w = laws.wrote n s (length pre) a next e in
          let line : K.line a ≡ take laws.size rest =
          w.2 ∙ ap (λ (l : List ℕ). take laws.size (drop (length pre) l)) at ∙ ap (take laws.size) (drop-append_seam pre rest) in
          let long : laws.size ≤ length rest = omega (arith, sym (laws.long a) ∙ ap length line ∙ length-take laws.size rest) in
          let split : rest ≡ K.line a ++ drop laws.size rest =
          sym (take-append-drop laws.size rest) ∙ ap (λ (l : List ℕ). l ++ drop laws.size rest) (sym line) in
          let f =
          later room (pre ++ K.line a) (drop laws.size rest)
          (at ∙ ap (λ (l : List ℕ). pre ++ l) split ∙ sym (append_assoc pre (K.line a) (drop laws.size rest)))
          (omega (arith, length-drop laws.size rest, laws.some)) in
          (a ∷ f.0, stand_more pre room a f.0 w.0 f.1)

  -- and no others
  lines_same : InRange n → (l m : List A) (pre : List ℕ) (room : ℕ) → Stand pre room l → Stand pre room m → l ≡ m
  lines_same range [] [] pre room t u = refl
  lines_same range [] (b ∷ m) pre room t u =
      let e = rw (first_stands range pre room b m u) at (none_stands pre room t) in
      absurd (omega (arith, u.few))
  lines_same range (a ∷ l) [] pre room t u =
      let e = rw (first_stands range pre room a l t) at (none_stands pre room u) in
      absurd (omega (arith, t.few))
  lines_same range (a ∷ l) (b ∷ m) pre zero t u = absurd (omega (arith, t.few))
  lines_same range (a ∷ l) (b ∷ m) pre (suc room) t u =
      let e = first_stands range pre (suc room) a l t in
      let f = first_stands range pre (suc room) b m u in
      let same : b ≡ a = cc in
      let rest = others_stand pre room b m u in
      let others : l ≡ m =
      lines_same range l m (pre ++ K.line a) room (others_stand pre room a l t) (rw same at rest) in
      cc

-- what is read is refused by one refusal
stops_same : {A : Type 0} (x : Line A) (k l : ℕ) (r q : Refusal) → Stops x k r → Stops x l q → r ≡ q
stops_same (one a next) k l r q f g = f.1 ∙ sym g.1
stops_same no_more k l r q f g = absurd f
stops_same (refused p) k l r q f g = f ∙ sym g

stops_end : {A : Type 0} (x : Line A) (k : ℕ) (r : Refusal) → Stops x k r → End x k most_cycles
stops_end (one a next) k r f = f.0
stops_end no_more k r f = absurd f
stops_end (refused p) k r f = tt

nothing : (l : List ℕ) → length l ≡ 0 → l ≡ []
nothing [] e = refl
nothing (b ∷ l) e = absurd (omega arith)

module _ {A : Type 0} (K : Kind A) (laws : Laws K) (s : List ℕ) where
  -- a header, good lines, and what ends them
  record Lined (n : ℕ) (l : List A) : Type 0 where
    range : InRange n
    reads : read_header_of K.word s ≡ Ok (n, length (header K.word n))
    stand : Stand K laws n s (header K.word n) most_cycles l

  lined : (n : ℕ) (l : List A) (rest : List ℕ) → Begins K s n l rest → End (K.read n s (length (file_for K n l))) (length l) most_cycles → Lined n l
  lined n l rest b e =
      let h : List ℕ = header K.word n in
      let lines : List ℕ = lines_of K.line l in
      let at : s ≡ h ++ (lines ++ rest) = b.bytes ∙ append_assoc h lines rest in
      record {
        range = b.masters;
        reads = rw at (written_header_reads K.word n (lines ++ rest) b.masters);
        stand =
            record {
              good = b.good;
              few = b.room;
              rest = rest;
              bytes = at;
              end = subst (λ (p : ℕ). End (K.read n s p) (length l) most_cycles) (length-append h lines) e;
            };
      }

  cut_lined : (n : ℕ) (l : List A) (r : Refusal) → Has K s (cut_after n l r) → Lined n l
  cut_lined n l r h = lined n l h.0 h.1 (stops_end (K.read n s (length (file_for K n l))) (length l) r h.2)

  -- at the end of a whole input there is no more line
  whole_end : (n : ℕ) (l : List A) → Has K s (whole n l) → K.read n s (length (file_for K n l)) ≡ no_more
  whole_end n l h =
      let at : s ≡ file_for K n l = h.bytes ∙ append-nil (file_for K n l) in
      ap (λ (t : List ℕ). K.read n s (length t)) (sym at) ∙ laws.ends n s h.masters

  whole_lined : (n : ℕ) (l : List A) → Has K s (whole n l) → Lined n l
  whole_lined n l h = lined n l [] h (subst (λ (x : Line A). End x (length l) most_cycles) (sym (whole_end n l h)) tt)

  agree : (n m : ℕ) (l k : List A) → Lined n l → Lined m k → (n ≡ m) × (l ≡ k)
  agree n m l k f g =
      let same = sym (ok_parts (sym f.reads ∙ g.reads)).0 in
      let t : Stand K laws n s (header K.word n) most_cycles k =
      subst (λ (i : ℕ). Stand K laws i s (header K.word i) most_cycles k) same g.stand in
      (sym same, lines_same K laws n s f.range l k (header K.word n) most_cycles f.stand t)

  -- a header that is refused is not read
  unread : {P : Type 0} (r : Refusal) (n : ℕ) (l : List A) → Has K s (no_header r) → Lined n l → P
  unread r n l h f = let e = f.reads in let z : ◌≡◌ {A = ℕ} 0 1 = cc in absurd (omega arith)

  -- what is cut is not whole
  uncut : {P : Type 0} (n m : ℕ) (l k : List A) (r : Refusal) → Has K s (cut_after n l r) → Has K s (whole m k) → P
  uncut n m l k r h g =
      let e = agree n m l k (cut_lined n l r h) (whole_lined m k g) in
      let x : K.read n s (length (file_for K n l)) ≡ no_more = rw (e.0, e.1) (whole_end m k g) in
      absurd (subst (λ (x : Line A). Stops x (length l) r) x h.2)

  forms_same : (f g : Form A) → Has K s f → Has K s g → f ≡ g
  forms_same (no_header r) (no_header q) h k = let e : r ≡ q = cc in ap no_header e
  forms_same (no_header r) (cut_after n l q) h k = unread r n l h (cut_lined n l q k)
  forms_same (no_header r) (whole n l) h k = unread r n l h (whole_lined n l k)
  forms_same (cut_after n l r) (no_header q) h k = unread q n l k (cut_lined n l r h)
  forms_same (cut_after n l r) (cut_after m j q) h k =
      let e = agree n m l j (cut_lined n l r h) (cut_lined m j q k) in
      let x : K.read m s (length (file_for K m j)) ≡ K.read n s (length (file_for K n l)) = rw (e.0, e.1) in
      let same : r ≡ q =
      stops_same (K.read n s (length (file_for K n l))) (length l) (length j) r q h.2 (subst (λ (x : Line A). Stops x (length j) q) x k.2) in
      cc
  forms_same (cut_after n l r) (whole m j) h k = uncut n m l j r h k
  forms_same (whole n l) (no_header q) h k = unread q n l k (whole_lined n l h)
  forms_same (whole n l) (cut_after m j q) h k = uncut m n j l q k h
  forms_same (whole n l) (whole m j) h k =
      let e = agree n m l j (whole_lined n l h) (whole_lined m j k) in
      cc

  -- the form of an input whose header is read, by what ends its good lines
  line_form : (n : ℕ) (l : List A) → InRange n → Stand K laws n s (header K.word n) most_cycles l → (f : Form A) × Has K s f
  line_form n l range t = go (K.read n s (length (file_for K n l))) refl
    where
      begins : Begins K s n l t.rest
      begins =
          record {
            masters = range;
            good = t.good;
            room = t.few;
            bytes = t.bytes ∙ sym (append_assoc (header K.word n) (lines_of K.line l) t.rest);
          }

      end : End (K.read n s (length (file_for K n l))) (length l) most_cycles
      end =
          subst (λ (p : ℕ). End (K.read n s p) (length l) most_cycles)
          (sym (length-append (header K.word n) (lines_of K.line l))) t.end

      go : (x : Line A) → K.read n s (length (file_for K n l)) ≡ x → (f : Form A) × Has K s f
      go no_more e =
          let size = ap length begins.bytes ∙ length-append (file_for K n l) t.rest in
          let none : t.rest ≡ [] = nothing t.rest (omega (arith, laws.only n s (length (file_for K n l)) e)) in
          (whole n l, subst (Begins K s n l) none begins)
      go (refused r) e =
          (cut_after n l r, (t.rest, begins, subst (λ (x : Line A). Stops x (length l) r) (sym e) refl))
      go (one a next) e = (
        cut_after n l refusal.Full,
        (
          t.rest,
          begins,
          subst (λ (x : Line A). Stops x (length l) refusal.Full) (sym e) (subst (λ (x : Line A). End x (length l) most_cycles) e end, refl),
        ),
      )

  form_of : (f : Form A) × Has K s f
  form_of = go (read_header_of K.word s) refl
    where
      go : (h : HeaderRead) → read_header_of K.word s ≡ h → (f : Form A) × Has K s f
      go (Err r) e = (no_header r, e)
      go (Ok (n, next)) e =
          let h = read_header_writes K.word s n next e in
          let at : s ≡ header K.word n ++ drop next s =
          sym (take-append-drop next s) ∙ ap (λ (l : List ℕ). l ++ drop next s) (sym h.2) in
          let f = lines_found K laws n s (suc (length (drop next s))) most_cycles (header K.word n) (drop next s) at (omega arith) in
          line_form n f.0 h.0 f.1

pub one_form : {A : Type 0} (K : Kind A) → Laws K → OneForm K
one_form K laws s =
    let f = form_of K laws s in
    (f.0, f.1, λ g h. forms_same K laws s g f.0 h f.1)
