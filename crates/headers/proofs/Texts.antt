-- Lines of words and decimal numbers: how long they are, and how they come to stand in a buffer.
--
--   text_more     == one number more
--   line_more, wrote_more, counted, wrote_all == the writer of a word and numbers
--   breach_short, breach_written   == the two ends of the writer of a breach
use Rattle.std.proofs.Common.{◌≡◌, ℕ, zero, suc, ◌+◌, ◌≤◌, ◌<◌, List, [], ◌∷◌, ◌++◌, length, take, get_or, set, refl, sym, ap, ◌∙◌, add-zero, add-one, arith, length-append, append_assoc, take_all, Err, Ok}
use lib.Seq.{sets}
use Rattle.rules.specs.declared.Refusal.TheVariants.{Short}
use Rattle.rulebook.specs.declared.Rule.{Rule}
use Rattle.formats.specs.Results.{Written}
use Rattle.formats.specs.Digits.{decimal}
use Rattle.formats.specs.Report.{letter_of, index_of, breach_line, write_of, written_of}
use Rattle.fields.proofs.Stores.{then_sets}
use Rattle.fields.proofs.Writers.{write_short, write_whole}
use Rattle.headers.specs.Numbers.{numbers_text, numbers_line}

-- a number with the byte after it
abbrev pub one_text : ℕ × ℕ → List ℕ
one_text p = decimal p.0 ++ (p.1 ∷ [])

pub text_more : (ps : List (ℕ × ℕ)) (i : ℕ) (d : ℕ × ℕ) → i < length ps → numbers_text (take (suc i) ps) ≡ numbers_text (take i ps) ++ one_text (get_or ps i d)
text_more [] i d h = absurd (omega arith)
text_more (p ∷ ps) zero d h = refl
text_more (p ∷ ps) (suc i) d h =
    ap (λ l. decimal p.0 ++ (p.1 ∷ l)) (text_more ps i d (omega arith))
    ∙ sym (append_assoc (decimal p.0) (p.1 ∷ numbers_text (take i ps)) (one_text (get_or ps i d)))

-- a writer of this line ends with the answer r and the buffer out
abbrev pub Ends : List ℕ → List ℕ → Written → List ℕ → Type 0
Ends line buf r out = (r ≡ write_of line (length buf)) × (out ≡ written_of line buf)

module _ (word : List ℕ) (ps : List (ℕ × ℕ)) (buf : List ℕ) where
  abbrev pub so_far : ℕ → List ℕ
  so_far i = numbers_line word (take i ps)

  pub line_more : (i : ℕ) (d : ℕ × ℕ) → i < length ps → so_far (i + 1) ≡ so_far i ++ one_text (get_or ps i d)
  line_more i d h =
      rw add-one
      (ap (λ l. word ++ l) (text_more ps i d h) ∙ sym (append_assoc word (numbers_text (take i ps)) (one_text (get_or ps i d))))

  -- one number more is written
  pub wrote_more : (i at next : ℕ) (d : ℕ × ℕ) (m out : List ℕ) → i < length ps → at ≡ length (so_far i) → m ≡ sets buf 0 (so_far i)
      → next ≡ at + length (decimal (get_or ps i d).0) + 1 → out ≡ sets m at (one_text (get_or ps i d))
      → (next ≡ length (so_far (i + 1))) × (out ≡ sets buf 0 (so_far (i + 1)))
  wrote_more i at next d m out h e w n g =
      let size : length (so_far i ++ one_text (get_or ps i d)) ≡ length (so_far i) + (length (decimal (get_or ps i d).0) + 1) =
      length-append (so_far i) (one_text (get_or ps i d)) ∙ ap (λ k. length (so_far i) + k) (length-append (decimal (get_or ps i d).0) ((get_or ps i d).1 ∷ [])) in
      rw (line_more i d h)
      (omega (arith, size), then_sets buf m out 0 at (so_far i) (one_text (get_or ps i d)) w (e ∙ sym (add-zero (length (so_far i)))) g)

  -- all numbers are counted, and all are written
  pub counted : (k size : ℕ) → length ps ≤ k → size ≡ length word + length (numbers_text (take k ps)) → size ≡ length (numbers_line word ps)
  counted k size h e = e ∙ rw (take_all k ps h) (sym (length-append word (numbers_text ps)))

  pub wrote_all : (i at : ℕ) (out : List ℕ) → length (numbers_line word ps) ≤ length buf → length ps ≤ i → at ≡ length (so_far i) → out ≡ sets buf 0 (so_far i)
      → Ends (numbers_line word ps) buf (Ok at) out
  wrote_all i at out room h e w =
      let all : so_far i ≡ numbers_line word ps = ap (numbers_line word) (take_all i ps h) in
      let size : at ≡ length (numbers_line word ps) = e ∙ ap length all in
      write_whole (Ok tt) (Ok tt) refl (numbers_line word ps) buf at out refl size (omega arith) (w ∙ ap (sets buf 0) all)

module _ (t : ℕ) (rule : Rule) (buf : List ℕ) (l i j k : ℕ) (letter : l ≡ letter_of rule) (index : i ≡ index_of rule)
    (first : j ≡ length (decimal t))
    (second : k ≡ length (decimal i))
  where
    abbrev breach : List ℕ
    breach = decimal t ++ (9 ∷ (l ∷ (decimal i ++ (10 ∷ []))))

    is_breach : breach_line t rule ≡ breach
    unfolding breach_line
    is_breach = rw (letter, index)

    breach_size : j + k + 3 ≡ length breach
    breach_size = simp length-append (omega arith)

    pub breach_short : length buf < j + k + 3 → Ends (breach_line t rule) buf (Err Short) buf
    breach_short h = rw is_breach (write_short (Ok tt) (Ok tt) refl breach buf _ refl breach_size h)

    pub breach_written : (m out : List ℕ) (at next : ℕ) → j + k + 3 ≤ length buf
        → at ≡ 0 + length (decimal t) + 1
        → m ≡ sets buf 0 (decimal t ++ (9 ∷ []))
        → next ≡ at + 1 + length (decimal i) + 1
        → out ≡ sets (set m at l) (at + 1) (decimal i ++ (10 ∷ []))
        → Ends (breach_line t rule) buf (Ok next) out
    breach_written m out at next h p f r w =
        let named : set m at l ≡ sets buf 0 (decimal t ++ (9 ∷ []) ++ (l ∷ [])) =
        then_sets buf m (set m at l) 0 at (decimal t ++ (9 ∷ [])) (l ∷ []) f (simp length-append (omega arith)) refl in
        rw is_breach
        (write_whole (Ok tt) (Ok tt) refl breach buf next out refl (omega (arith, breach_size)) (omega arith)
        (simp append_assoc at
        (then_sets buf (set m at l) out 0 (at + 1) (decimal t ++ (9 ∷ []) ++ (l ∷ [])) (decimal i ++ (10 ∷ [])) named (simp length-append (omega arith)) w)))
