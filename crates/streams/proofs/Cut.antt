-- Wherever the blocks are cut, the same bytes are written.
--
--   enough        == more turns than there are bytes write no more
--   cut           == a block that may be cut, and then the rest
--   tail          == a last block, which may be cut, and then the end
--   in_blocks_lem == any number of blocks that may be cut, and a last one
use Prim.Native.Nat.{ℕ, zero, suc, ◌+◌, ◌≤◌, ◌<◌}
use mathlib.Core.Path.{◌≡◌, refl, ◌∙◌, ap}
use mathlib.Core.List.{List, [], ◌∷◌, ◌++◌, append_assoc}
use native.Mathlib.Omega.{arith}
use lib.ListN.{length, drop, length-append, length-drop}
use lib.Seq.{drop-append-le}
use Rattle.streams.specs.Streams.{Turn, goes, stops, onward, written, Stretch, on, done, before, step, stretch, then}
use Rattle.streams.specs.Blocks.{Stepping, Cutting, joined, in_blocks, AllCut}

module _ {S : Type 0} (turn : S → List ℕ → Turn S) {least most : ℕ} (L : Stepping least most turn) {Cut : List ℕ → List ℕ → Type 0} (C : Cutting turn Cut) where
  pub enough : (k k' : ℕ) (s : S) (rest : List ℕ) → length rest < k → length rest < k' → written turn k s rest ≡ written turn k' s rest
  unfolding written
  enough zero k' s rest h h' = absurd (omega arith)
  enough (suc k) zero s rest h h' = absurd (omega arith)
  enough (suc k) (suc k') s rest h h' = go (turn s rest) refl (λ t n l. enough k k' t (drop n rest) l)
    where
      go : (a : Turn S) → turn s rest ≡ a → ((t : S) (n : ℕ) → length (drop n rest) < k → length (drop n rest) < k' → written turn k t (drop n rest) ≡ written turn k' t (drop n rest))
          → onward (turn s rest) (λ t n. written turn k t (drop n rest)) ≡ onward (turn s rest) (λ t n. written turn k' t (drop n rest))
      go (goes bytes t n) e later =
          let p = L.next s rest bytes t n e in
          let f = L.some in
          rw e (ap (λ (l : List ℕ). bytes ++ l) (later t n (simp length-drop (omega arith)) (simp length-drop (omega arith))))
      go (stops bytes) e later = rw e

  then_after : (more : S → List ℕ) (bytes : List ℕ) (t : Stretch S) → then more (before bytes t) ≡ bytes ++ then more t
  then_after more bytes (on l s) = append_assoc bytes l (more s)
  then_after more bytes (done l s) = refl

  nothing : (a : List ℕ) → length a ≡ 0 → a ≡ []
  nothing [] h = refl
  nothing (b ∷ a) h = absurd (omega arith)

  -- a block that may be cut from b, and then b
  pub cut : (k k' f : ℕ) (s : S) (a b : List ℕ) → Cut a b → length a + length b < k → length b < k' → length a ≤ f
      → written turn k s (a ++ b) ≡ then (λ t. written turn k' t b) (stretch turn f s a)
  unfolding written stretch
  cut k k' zero s [] b c h h' l = enough k k' s b (omega arith) h'
  cut k k' (suc f) s [] b c h h' l = enough k k' s b (omega arith) h'
  cut k k' zero s (x ∷ a) b c h h' l = absurd (omega arith)
  cut zero k' (suc f) s (x ∷ a) b c h h' l = absurd (omega arith)
  cut (suc k) k' (suc f) s (x ∷ a) b c h h' l =
      rw (C.near s (x ∷ a) b c (omega arith)) (go (turn s (x ∷ a)) refl (λ t n g. cut k k' f t (drop n (x ∷ a)) b g))
    where
      go : (y : Turn S) → turn s (x ∷ a) ≡ y
          → ((t : S) (n : ℕ) → Cut (drop n (x ∷ a)) b → length (drop n (x ∷ a)) + length b < k → length b < k' → length (drop n (x ∷ a)) ≤ f
          → written turn k t (drop n (x ∷ a) ++ b) ≡ then (λ t. written turn k' t b) (stretch turn f t (drop n (x ∷ a))))
          → onward (turn s (x ∷ a)) (λ t n. written turn k t (drop n (x ∷ (a ++ b)))) ≡ then (λ t. written turn k' t b) (step s (turn s (x ∷ a)) (λ t n. stretch turn f t (drop n (x ∷ a))))
      go (goes bytes t n) e later =
          let p = L.next s (x ∷ a) bytes t n e in
          let pos = L.some in
          let q : drop n (x ∷ (a ++ b)) ≡ drop n (x ∷ a) ++ b = drop-append-le n (x ∷ a) b (omega arith) in
          rw (e, q, then_after (λ t. written turn k' t b) bytes (stretch turn f t (drop n (x ∷ a))))
          (ap (λ (l : List ℕ). bytes ++ l)
          (later t n (C.rest s (x ∷ a) b bytes t n c e) (simp length-drop (omega arith)) h' (simp length-drop (omega arith))))
      go (stops bytes) e later = rw e

  -- the last block ends the input
  pub tail : (f k : ℕ) (s : S) (rest : List ℕ) → length rest < k → length rest ≤ f
      → written turn k s rest ≡ then (λ t. written turn 1 t []) (stretch turn f s rest)
  unfolding stretch
  tail zero k s rest h l =
      let e = nothing rest (omega arith) in
      rw e (enough k 1 s [] (omega arith) (omega arith))
  tail (suc f) k s [] h l = enough k 1 s [] h (omega arith)
  tail (suc f) zero s (b ∷ rest) h l = absurd (omega arith)
  tail (suc f) (suc k) s (b ∷ rest) h l = go (turn s (b ∷ rest)) refl (λ t n. tail f k t (drop n (b ∷ rest)))
    where
      go : (x : Turn S) → turn s (b ∷ rest) ≡ x
          → ((t : S) (n : ℕ) → length (drop n (b ∷ rest)) < k → length (drop n (b ∷ rest)) ≤ f
          → written turn k t (drop n (b ∷ rest)) ≡ then (λ t. written turn 1 t []) (stretch turn f t (drop n (b ∷ rest))))
          → written turn (suc k) s (b ∷ rest) ≡ then (λ t. written turn 1 t []) (step s (turn s (b ∷ rest)) (λ t n. stretch turn f t (drop n (b ∷ rest))))
      go (goes bytes t n) e later =
          let p = L.next s (b ∷ rest) bytes t n e in
          let pos = L.some in
          unfold written in
          rw (e, then_after (λ t. written turn 1 t []) bytes (stretch turn f t (drop n (b ∷ rest))))
          (ap (λ (l : List ℕ). bytes ++ l) (later t n (simp length-drop (omega arith)) (simp length-drop (omega arith))))
      go (stops bytes) e later = unfold written in rw e

  then_same : (f g : S → List ℕ) → ((s : S) → f s ≡ g s) → (t : Stretch S) → then f t ≡ then g t
  then_same f g e (on l s) = ap (λ (r : List ℕ). l ++ r) (e s)
  then_same f g e (done l s) = refl

  pub in_blocks_lem : (blocks : List (List ℕ)) (last : List ℕ) → AllCut Cut blocks last → (k : ℕ) (s : S) → length (joined blocks last) < k
      → written turn k s (joined blocks last) ≡ in_blocks turn s blocks last
  unfolding joined in_blocks
  in_blocks_lem [] last h k s l = tail (length last) k s last l (omega arith)
  in_blocks_lem (a ∷ blocks) last h k s l =
      let size = length-append a (joined blocks last) in
      let k' = suc (length (joined blocks last)) in
      cut k k' (length a) s a (joined blocks last) h.0 (omega arith) (omega arith) (omega arith)
      ∙ then_same (λ t. written turn k' t (joined blocks last)) (λ t. in_blocks turn t blocks last) (λ t. in_blocks_lem blocks last h.1 k' t (omega arith)) (stretch turn (length a) s a)
