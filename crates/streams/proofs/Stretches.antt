-- A block taken line by line, for any program that goes by lines.
--
--   Ended ..   == how the block ended: all its bytes, and the state
--   begun      == a loop stands so at the start
--   same_size, room, lent == the buffer keeps its length, and has room for one line more
--   small, later_size == a line writes no more than that, and the buffer still has its length
--   goes_on_lem, line_on, stopped, used_up == one line that goes on, and one of a fixed width; one that stops; the end of the block
--   whole_left, inside_block, falls, ends == the test and the measure of a loop over whole lines
use Prim.Native.Nat.{ℕ, zero, suc, ◌+◌, ◌-◌, ◌*◌, ◌/◌, ◌≤◌, ◌<◌}
use mathlib.Core.Path.{◌≡◌, refl, sym, ap, ◌∙◌}
use mathlib.Core.Bool.{Bool, true, false, ◌&&◌, true≢false, false≢true}
use mathlib.Core.List.{List, [], ◌∷◌, ◌++◌, append-nil, append_assoc}
use native.Mathlib.Omega.{arith}
use native.Mathlib.Nat.{mul-le-mul_right, le-div_iff_mul-le, add-mul}
use borrow.Author.Tests.{leb-true}
use lib.Dec.{leb}
use lib.ListN.{length, take, drop, length-append, length-drop}
use lib.Seq.{drop-drop}
use Rattle.rules.specs.Step.{flag_of}
use Rattle.rules.proofs.Choice.{and_left, and_right}
use Rattle.rules.proofs.Flags.{flag_most}
use Rattle.words.proofs.Words.{part_rest}
use Rattle.streams.specs.Streams.{Turn, goes, stops, Stretch, on, done, before, step, stretch}
use Rattle.streams.specs.declared.Flow.TheVariants.{GoesOn, Stopped}
use Rattle.streams.specs.Blocks.{Stepping, ByLines, room_for, progress_of, bytes_of}
use Rattle.streams.specs.Turns.{over, bytes_in, goes_on, state_after, taken_by, Lined}
use Rattle.streams.specs.Going.{whole, Program, Going}
use Rattle.streams.proofs.Parts.{written_on}
use Rattle.streams.proofs.Lines.{taken}

module _ {S : Type 0} where
  pub before_none : (t : Stretch S) → before [] t ≡ t
  before_none (on bytes s) = refl
  before_none (done bytes s) = refl

  before_twice : (a b : List ℕ) (t : Stretch S) → before a (before b t) ≡ before (a ++ b) t
  before_twice a b (on bytes s) = ap (λ (l : List ℕ). on l s) (sym (append_assoc a b bytes))
  before_twice a b (done bytes s) = ap (λ (l : List ℕ). done l s) (sym (append_assoc a b bytes))

module _ {S : Type 0} (turn : S → List ℕ → Turn S) {width longest : ℕ} (L : Stepping width longest turn) where
  -- more turns than there are bytes change nothing
  enough : (k k' : ℕ) (s : S) (rest : List ℕ) → length rest ≤ k → length rest ≤ k' → stretch turn k s rest ≡ stretch turn k' s rest
  unfolding stretch
  enough zero zero s rest h h' = refl
  enough zero (suc k') s [] h h' = refl
  enough zero (suc k') s (b ∷ rest) h h' = absurd (omega arith)
  enough (suc k) zero s [] h h' = refl
  enough (suc k) zero s (b ∷ rest) h h' = absurd (omega arith)
  enough (suc k) (suc k') s [] h h' = refl
  enough (suc k) (suc k') s (b ∷ rest) h h' = go (turn s (b ∷ rest)) refl (λ t n. enough k k' t (drop n (b ∷ rest)))
    where
      go : (a : Turn S) → turn s (b ∷ rest) ≡ a
          → ((t : S) (n : ℕ) → length (drop n (b ∷ rest)) ≤ k → length (drop n (b ∷ rest)) ≤ k' → stretch turn k t (drop n (b ∷ rest)) ≡ stretch turn k' t (drop n (b ∷ rest)))
          → step s (turn s (b ∷ rest)) (λ t n. stretch turn k t (drop n (b ∷ rest))) ≡ step s (turn s (b ∷ rest)) (λ t n. stretch turn k' t (drop n (b ∷ rest)))
      go (goes bytes t n) e later =
          let p = L.next s (b ∷ rest) bytes t n e in
          let some = L.some in
          rw e (ap (before bytes) (later t n (simp length-drop (omega arith)) (simp length-drop (omega arith))))
      go (stops bytes) e later = rw e

  pub line_goes : (s t : S) (rest bytes : List ℕ) (k : ℕ) → 0 < length rest → turn s rest ≡ goes bytes t k
      → whole turn s rest ≡ before bytes (whole turn t (drop k rest))
  unfolding stretch
  line_goes s t [] bytes k h e = absurd (omega arith)
  line_goes s t (b ∷ rest) bytes k h e =
      let p = L.next s (b ∷ rest) bytes t k e in
      let some = L.some in
      rw e (ap (before bytes) (enough (length rest) (length (drop k (b ∷ rest))) t (drop k (b ∷ rest)) (simp length-drop (omega arith)) (omega arith)))

  line_stops : (s : S) (rest bytes : List ℕ) → 0 < length rest → turn s rest ≡ stops bytes → whole turn s rest ≡ done bytes s
  unfolding stretch
  line_stops s [] bytes h e = absurd (omega arith)
  line_stops s (b ∷ rest) bytes h e = rw e

  nothing_left : (s : S) (rest : List ℕ) → length rest ≡ 0 → whole turn s rest ≡ on [] s
  unfolding stretch
  nothing_left s [] h = refl
  nothing_left s (b ∷ rest) h = absurd (omega arith)

pub record Ended {S : Type 0} (turn : S → List ℕ → Turn S) (s₀ : S) (block out₀ : List ℕ) (end : List ℕ → S → Stretch S)
    (s : S) (out : List ℕ) (w : ℕ) : Type 0 where
  pub all : List ℕ
  pub size : length all ≡ w
  pub puts : out ≡ over all out₀
  pub is : whole turn s₀ block ≡ end all s

module _ {S : Type 0} {turn : S → List ℕ → Turn S} {width most : ℕ} {Formed : S → Type 0} (M : Program turn width most Formed) {s₀ : S} {block out₀ : List ℕ} where
  pub begun : Formed s₀ → Going turn width most Formed s₀ block out₀ s₀ 0 out₀ 0
  begun f =
      record {
        formed = f;
        lines = 0;
        place = omega arith;
        inside = omega arith;
        few = omega arith;
        bytes = [];
        size = refl;
        puts = refl;
        left = sym (before_none (whole turn s₀ block));
      }

  module _ {s : S} {at : ℕ} {out : List ℕ} {w : ℕ} (g : Going turn width most Formed s₀ block out₀ s at out w) where
    lines_within : (g.lines + 1) * most ≤ (length block / width + 1) * most
    lines_within =
        let some = M.lines.some in
        let below : g.lines ≤ length block / width = (le-div_iff_mul-le some).1 (omega (arith, g.place, g.inside)) in
        mul-le-mul_right most (omega arith)

    enough_room : room_for width most block ≤ length out₀ → w + most ≤ length out₀
    unfolding room_for
    enough_room big = omega (arith, lines_within, g.few, add-mul g.lines 1 most)

    pub same_size : room_for width most block ≤ length out₀ → length out ≡ length out₀
    same_size big =
        let r = enough_room big in
        ap length g.puts ∙ simp (length-append, length-drop, g.size) (omega arith)

    pub room : room_for width most block ≤ length out₀ → w + most ≤ length out
    room big = omega (arith, enough_room big, same_size big)

    pub lent : room_for width most block ≤ length out₀ → most ≤ length (take (length out - w) (drop w out))
    lent big = rw (part_rest w out, length-drop) (omega (arith, room big))

    pub used_up : length block ≤ at → Ended turn s₀ block out₀ on s out w
    used_up h =
        record {
          all = g.bytes;
          size = g.size;
          puts = g.puts;
          is =
              g.left
              ∙ ap (before g.bytes) (nothing_left turn M.lines s (drop at block) (simp length-drop (omega arith)))
              ∙ ap (λ (l : List ℕ). on l s) (append-nil g.bytes);
        }

    -- one line, that came to k bytes and the state after it; the lent part of the buffer comes back as part
    module _ {k : ℕ} {going : Bool} {after : S} {part : List ℕ}
        (more : at < length block)
        (l : Lined s (turn s (take (length block - at) (drop at block))) (take (length out - w) (drop w out)) k going after part)
      where
        abbrev this : Turn S
        this = turn s (drop at block)

        abbrev later : List ℕ
        later = take w out ++ (part ++ drop (length out - w) (drop w out))

        lined : Lined s this (take (length out - w) (drop w out)) k going after part
        lined = rw (part_rest at block) at l

        some_left : 0 < length (drop at block)
        some_left = simp length-drop (omega arith)

        wrote : later ≡ over (g.bytes ++ bytes_in this) out₀
        wrote = written_on g.bytes (bytes_in this) out₀ out part w g.size g.puts lined.puts

        wrote_size : length (g.bytes ++ bytes_in this) ≡ w + k
        wrote_size = length-append g.bytes (bytes_in this) ∙ rw (g.size, lined.size)

        pub small : k ≤ most
        small = omega (arith, lined.size, M.few s (drop at block) g.formed)

        pub later_size : room_for width most block ≤ length out₀ → length later ≡ length out₀
        later_size big =
            let r = enough_room big in
            let k = small in
            ap length wrote ∙ length-append (g.bytes ++ bytes_in this) _ ∙ rw (length-drop, wrote_size) (omega arith)

        pub goes_on_lem : (n : ℕ) → taken_by this ≡ n → going ≡ true → Going turn width most Formed s₀ block out₀ after (at + n) later (w + k)
        goes_on_lem n took e = go this refl
          where
            go : (a : Turn S) → this ≡ a → Going turn width most Formed s₀ block out₀ after (at + n) later (w + k)
            go (goes bytes t m) q =
                let p = M.lines.next s (drop at block) bytes t m q in
                let is : after ≡ t = lined.state ∙ ap (state_after s) q in
                let same : m ≡ n = ap taken_by (sym q) ∙ took in
                let step : drop m (drop at block) ≡ drop (at + n) block = drop-drop m at block ∙ ap (λ i. drop (at + i) block) same in
                record {
                  formed = rw lined.state (M.stays s (drop at block) g.formed);
                  lines = g.lines + 1;
                  place = omega (arith, g.place, add-mul g.lines 1 width);
                  inside = omega (arith, p.1, length-drop at block);
                  few = omega (arith, g.few, small, add-mul g.lines 1 most);
                  bytes = g.bytes ++ bytes_in this;
                  size = wrote_size;
                  puts = wrote;
                  left =
                      g.left
                      ∙ ap (before g.bytes) (line_goes turn M.lines s t (drop at block) bytes m some_left q)
                      ∙ before_twice g.bytes bytes (whole turn t (drop m (drop at block)))
                      ∙ rw (q, step, is);
                }
            go (stops bytes) q = absurd (true≢false (sym e ∙ lined.flow ∙ ap goes_on q))

        -- the same for lines of one width
        pub line_on : ByLines width turn → going ≡ true → Going turn width most Formed s₀ block out₀ after (at + width) later (w + k)
        line_on L e = goes_on_lem width (taken L s (drop at block) (sym lined.flow ∙ e)) e

        pub stopped : going ≡ false → Ended turn s₀ block out₀ done after later (w + k)
        stopped e = go this refl
          where
            go : (a : Turn S) → this ≡ a → Ended turn s₀ block out₀ done after later (w + k)
            go (goes bytes t n) q = absurd (false≢true (sym e ∙ lined.flow ∙ ap goes_on q))
            go (stops bytes) q =
                let is : after ≡ s = lined.state ∙ ap (state_after s) q in
                record {
                  all = g.bytes ++ bytes_in this;
                  size = wrote_size;
                  puts = wrote;
                  is =
                      g.left
                      ∙ ap (before g.bytes) (line_stops turn M.lines s (drop at block) bytes some_left q)
                      ∙ rw (q, is);
                }

-- what a call answers for the block, stopped or used up
module _ {S : Type 0} {turn : S → List ℕ → Turn S} {s₀ : S} {block out₀ : List ℕ} {s : S} {out : List ℕ} {w : ℕ} where
  pub block_stopped : Ended turn s₀ block out₀ done s out w
      → (record { written = w; flow = Stopped; kept = s } ≡ progress_of (whole turn s₀ block)) × (out ≡ over (bytes_of (whole turn s₀ block)) out₀)
  block_stopped e = (rw (e.is, e.size), rw e.is e.puts)

  pub block_used : Ended turn s₀ block out₀ on s out w
      → (record { written = w; flow = GoesOn; kept = s } ≡ progress_of (whole turn s₀ block)) × (out ≡ over (bytes_of (whole turn s₀ block)) out₀)
  block_used e = (rw (e.is, e.size), rw e.is e.puts)

-- A loop that takes whole lines as long as it goes on: its test, and its measure, which is what is left of the block and whether it goes on.
module _ (width : ℕ) (block : List ℕ) (at : ℕ) (on : Bool) where
  pub whole_left : (on && leb width (length block - at)) ≡ true → width ≤ length (take (length block - at) (drop at block))
  whole_left e = rw (part_rest at block, length-drop) (leb-true width (length block - at) (and_right on _ e))

  pub inside_block : 1 ≤ width → (on && leb width (length block - at)) ≡ true → at < length block
  inside_block some e = omega (arith, leb-true width (length block - at) (and_right on _ e))

  pub falls : (now : Bool) → 2 ≤ width → at + width ≤ length block → length block - (at + width) + flag_of now < length block - at + flag_of on
  falls now some h = omega (arith, flag_most now, flag_most on)

  pub ends : (now : Bool) → (on && leb width (length block - at)) ≡ true → now ≡ false → length block - at + flag_of now < length block - at + flag_of on
  ends now e f = rw (f, and_left on _ e) (omega arith)
