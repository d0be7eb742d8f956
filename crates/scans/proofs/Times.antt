-- The line of a time, as it is laid out to be compared.
--
--   laid        == a buffer that begins with `#`, the time and LF begins with the line
--   time_told   == what the bytes of that buffer are compared for: the number with no digit after it
--   line_told   == and the whole line
use Rattle.std.proofs.Common.{◌≡◌, ℕ, ◌+◌, ◌-◌, ◌≤◌, Bool, true, false, not, ◌&&◌, Option, None, Some, Bor, MatchOption, nat_eq, List, [], ◌∷◌, ◌++◌, length, get_or, take, drop, refl, sym, ap, ◌∙◌, arith, length-append, append_assoc, take-append-drop, take_at, set}
use Rattle.std.specs.Cmp.Lexicographic.{pointwise}
use lib.Seq.{sets, sets-eq}
use Rattle.formats.specs.Digits.{decimal}
use Rattle.formats.specs.Headers.{is_decimal}
use Rattle.fields.proofs.Decimals.{longest}
use Rattle.waves.specs.Header.{begins}
use Rattle.waves.specs.Steps.{time_line}
use Rattle.waves.specs.Reading.{time_is}
use Rattle.scans.proofs.Begins.{begins_cut}

pub time_size : (t size : ℕ) → size ≡ 1 + length (decimal t) + 1 → (size ≡ length (time_line t)) × (2 ≤ size) × (size ≤ 12)
unfolding time_line
time_size t size e = (simp length-append (omega arith), omega arith, omega (arith, longest t))

pub laid : (t size : ℕ) (base out : List ℕ) → take 1 base ≡ 35 ∷ [] → 12 ≤ length base → size ≡ 1 + length (decimal t) + 1 → out ≡ sets base 1 (decimal t ++ (10 ∷ []))
    → take size out ≡ time_line t
unfolding time_line
laid t size base out first room e w =
    let whole : out ≡ (35 ∷ (decimal t ++ (10 ∷ []))) ++ drop (1 + length (decimal t ++ (10 ∷ []))) base =
    w ∙ rw (sets-eq (decimal t ++ (10 ∷ [])) base 1 (simp length-append (omega (arith, longest t))), first) in
    rw whole (take_at (35 ∷ (decimal t ++ (10 ∷ []))) _ size (simp length-append (omega arith)))

cut_size : (t size : ℕ) → size ≡ length (time_line t) → length (35 ∷ decimal t) ≡ size - 1
unfolding time_line
cut_size t size n = let k : length (decimal t ++ (10 ∷ [])) ≡ length (decimal t) + 1 = length-append (decimal t) (10 ∷ []) in omega arith

-- the line without its LF
number_cut : (t size : ℕ) (out : List ℕ) → take size out ≡ time_line t → size ≡ length (time_line t) → take (size - 1) out ≡ 35 ∷ decimal t
unfolding time_line
number_cut t size out e n =
    let whole : out ≡ (35 ∷ decimal t) ++ (10 ∷ drop size out) =
    sym (take-append-drop size out) ∙ ap (λ l. l ++ drop size out) e ∙ append_assoc (35 ∷ decimal t) (10 ∷ []) (drop size out) in
    ap (take (size - 1)) whole ∙ take_at (35 ∷ decimal t) (10 ∷ drop size out) (size - 1) (cut_size t size n)

pub time_told : (t size : ℕ) (out s : List ℕ) → take size out ≡ time_line t → size ≡ length (time_line t)
    → (number more : Bool) (after : ℕ) → number ≡ begins s (take (size - 1) out) → after ≡ get_or s (size - 1) 0 → more ≡ is_decimal after
    → (number && not more) ≡ time_is t s
unfolding time_is
time_told t size out s e n number more after h a m =
    let q : 1 + length (decimal t) ≡ size - 1 = omega (arith, cut_size t size n) in
    rw (q, ← number_cut t size out e n, ← h, ← a, ← m)

pub line_told : (t : ℕ) (s line : List ℕ) (r : Option (Bor (List ℕ))) → line ≡ time_line t
    → MatchOption r (pointwise nat_eq (take (length line) s) line ≡ false)
    (λ x. (pointwise nat_eq (take (length line) s) line ≡ true) × (x.now ≡ drop (length line) s) × (length x.now + length line ≡ length s))
    → MatchOption r (begins s (time_line t) ≡ false) (λ x. (begins s (time_line t) ≡ true) × (x.now ≡ drop (length (time_line t)) s))
line_told t s line None e h = rw (← e) (begins_cut s line ∙ h)
line_told t s line (Some x) e h = rw (← e) (begins_cut s line ∙ h.0, h.1)

pub first_set : (l : List ℕ) (x : ℕ) → 1 ≤ length l → take 1 (set l 0 x) ≡ x ∷ []
first_set [] x h = absurd (omega arith)
first_set (a ∷ l) x h = refl
