-- The program vcd2trace goes by steps: a turn looks at no more than one, and a block may be cut between two.
--
--   long_enough == a block with a long step at its end is long
--   undump_last == where nothing is left, it stops
--   undump_next == a step has three bytes at least
--   undump_near == it looks at no more than what stands before a cut
--   undump_rest == and what it leaves is cut there too
use Rattle.std.specs.Prelude.{Err, None, Ok, Some}
use Prim.Native.Nat.{ℕ, ◌+◌, ◌≤◌, ◌<◌}
use mathlib.Core.Path.{◌≡◌, refl, sym, ◌∙◌, ap}
use mathlib.Core.Bool.{Bool, true, false, cond}
use mathlib.Core.List.{List, [], ◌∷◌, ◌++◌}
use native.Mathlib.Omega.{arith}
use lib.Dec.{eqb, ltb}
use lib.ListN.{length, get_or, take, drop, length-append, drop_of_length-le}
use lib.Seq.{drop-nil, take-append-le, drop-append-le}
use Rattle.rules.proofs.Parts.{line_parts}
use Rattle.rules.specs.declared.Refusal.TheVariants as refusal
use Rattle.rules.specs.Results.{Check}
use Rattle.rules.specs.declared.Cycle.{Cycle}
use Rattle.rules.specs.State.{masters_ok}
use Rattle.rules.proofs.Choice.{order}
use Rattle.formats.specs.Results.{TraceRead}
use Rattle.formats.specs.Digits.{lf}
use Rattle.formats.specs.Lines.{line_check, trace_line}
use Rattle.streams.specs.Streams.{goes, stops}
use Rattle.waves.specs.Steps.{hash}
use Rattle.waves.specs.Reading.{step_text, most_bytes, wrong_time, full_time, unknown_in, step_shaped, step_cycle, step_checked, step_in, read_step_of}
use Rattle.waves.specs.Files.{lines_in}
use Rattle.waves.proofs.Ends.{up_to_rest}
use Rattle.waves.proofs.Near.{near_parted, near_long}
use Rattle.conversions.specs.declared.Position.{Position}
use Rattle.conversions.specs.Positions.{after}
use Rattle.conversions.specs.Undumping.{recalled, undump_turn}
use Rattle.conversions.specs.Blocks.{StepEnds, nothing, between, BetweenSteps, whole, long}
use Rattle.conversions.proofs.UndumpFacts.{found}

long_enough : (x y : List ℕ) → length (step_text y) ≡ most_bytes → 104 < length (x ++ y)
long_enough x y e =
    let all = ap length (up_to_rest most_bytes y) in
    omega (arith, length-append x y, all, length-append (step_text y) (drop (length (step_text y)) y))

no : {P : Type 0} → ◌≡◌ {A = ℕ} 0 1 → P
no z = absurd (omega (arith, z))

-- a step that was read has the bytes of its text
text_in : (n t : ℕ) (prev : Cycle) (s : List ℕ) (next : ℕ) (c : Cycle) (k : ℕ) → step_in n t prev s next ≡ Ok (Some (c, k)) → k ≡ next
unfolding step_in
text_in n t prev s next c k =
    go (wrong_time t s) (full_time t s) (unknown_in s) (step_shaped t prev s) (line_check n (step_cycle t prev s))
  where
    go : (v w x y : Bool) (z : Check)
        → cond v (Err refusal.Time) (cond w (Err refusal.Full) (cond x (Err refusal.Variable) (cond y (step_checked z (step_cycle t prev s) next) (Err refusal.Shape)))) ≡ Ok (Some (c, k))
        → k ≡ next
    go true w x y z e = no (cc)
    go false true x y z e = no (cc)
    go false false true y z e = no (cc)
    go false false false true (Ok _) e = sym (line_parts e).1
    go false false false true (Err r) e = no (cc)
    go false false false false z e = no (cc)

line_size_lem : (n t : ℕ) (prev : Cycle) (s : List ℕ) (c : Cycle) (k : ℕ) → read_step_of n t prev s 0 ≡ Ok (Some (c, k)) → k ≡ length (step_text s)
unfolding read_step_of
line_size_lem n t prev s c k = go (masters_ok n) (ltb (length s) 0) (eqb 0 (length s))
  where
    go : (x y z : Bool) → cond x (cond y (Err refusal.Shape) (cond z (Ok None) (step_in n t prev (step_text s) (0 + length (step_text s))))) (Err refusal.Masters) ≡ Ok (Some (c, k))
        → k ≡ length (step_text s)
    go true true z e = no (cc)
    go true false true e = no (cc)
    go true false false e = omega (arith, text_in n t prev (step_text s) (0 + length (step_text s)) c k e)
    go false y z e = no (cc)

-- where nothing is left
pub undump_last : (p : Position) → (bytes : List ℕ) × (undump_turn p [] ≡ stops bytes)
unfolding undump_turn read_step_of
undump_last p = go (masters_ok p.n)
  where
    go : (m : Bool) → (bytes : List ℕ) × (recalled (cond m (Ok None) (Err refusal.Masters)) p [] ≡ stops bytes)
    go true = (_, refl)
    go false = (_, refl)

-- a turn that goes on has read a step
pub goes_by : {P : Type 0} (p : Position) (s bytes : List ℕ) (t : Position) (k : ℕ) → undump_turn p s ≡ goes bytes t k
    → ((c : Cycle) → read_step_of p.n p.count p.before s 0 ≡ Ok (Some (c, k)) → t ≡ after p c (lines_in (take k s)) → P) → P
unfolding undump_turn
goes_by {P} p s bytes t k e next = go (read_step_of p.n p.count p.before s 0) refl
  where
    go : (r : TraceRead) → read_step_of p.n p.count p.before s 0 ≡ r → P
    go (Ok (Some (c, m))) q = let f = rw q at e in let same : m ≡ k = cc in next c (rw same at q) (cc)
    go (Ok None) q = let f = rw q at e in no (cc)
    go (Err r) q = let f = rw q at e in no (cc)

pub undump_next : (p : Position) (rest bytes : List ℕ) (t : Position) (k : ℕ) → undump_turn p rest ≡ goes bytes t k
    → (3 ≤ k) × (k ≤ 104) × (k ≤ length rest)
undump_next p rest bytes t k e =
    goes_by p rest bytes t k e (λ c q i. let f = found p.n p.count p.before rest c k q in (f.least, f.most, f.inside))

-- the lines of a step are the same with more behind it
read_near : (p : Position) (a b : List ℕ) → read_step_of p.n p.count p.before (a ++ b) 0 ≡ read_step_of p.n p.count p.before a 0
    → undump_turn p (a ++ b) ≡ undump_turn p a
unfolding undump_turn
read_near p a b e = rw e (go (read_step_of p.n p.count p.before a 0) refl)
  where
    go : (r : TraceRead) → read_step_of p.n p.count p.before a 0 ≡ r → recalled r p (a ++ b) ≡ recalled r p a
    go (Ok (Some (c, next))) q =
        let f = found p.n p.count p.before a c next q in
        ap (λ (l : List ℕ). goes (trace_line c) (after p c (lines_in l)) next) (take-append-le next a b f.inside)
    go (Ok None) q = refl
    go (Err r) q = refl

pub undump_near : (p : Position) (a b : List ℕ) → BetweenSteps a b → 0 < length a → undump_turn p (a ++ b) ≡ undump_turn p a
undump_near p a b (whole (nothing e)) h = absurd (omega (arith, ap length e))
undump_near p a b (whole (between x e f)) h =
    rw e (read_near p (x ++ (lf ∷ [])) b (near_parted p.n p.count p.before x (x ++ (lf ∷ [])) b refl f))
undump_near p a b (long x y e f g) h =
    read_near p a b (near_long p.n p.count p.before a b (rw e (long_enough x y g)))

-- what is left of a block that ends with LF ends with it too, unless nothing is left
left_ends : (k : ℕ) (x b : List ℕ) → k ≤ length (x ++ (lf ∷ [])) → get_or b 0 0 ≡ hash → StepEnds (drop k (x ++ (lf ∷ []))) b
left_ends k x b h f =
    order k (length x)
    (λ l. between (drop k x) (drop-append-le k x (lf ∷ []) l) f)
    (λ l. nothing (drop_of_length-le (x ++ (lf ∷ [])) {i = k} (omega (arith, length-append x (lf ∷ [])))))

pub undump_rest : (p : Position) (a b bytes : List ℕ) (t : Position) (k : ℕ) → BetweenSteps a b → undump_turn p a ≡ goes bytes t k
    → BetweenSteps (drop k a) b
undump_rest p a b bytes t k (whole (nothing e)) g = whole (nothing (rw e (drop-nil k)))
undump_rest p a b bytes t k (whole (between x e f)) g =
    let n = undump_next p a bytes t k g in
    rw e (whole (left_ends k x b (rw e at n.2) f))
undump_rest p a b bytes t k (long x y e (nothing i) g) h =
    let is : a ≡ y = rw i at e in
    absurd (goes_by p a bytes t k h (λ c q j.
    let f = found p.n p.count p.before a c k q in
    let size = line_size_lem p.n p.count p.before a c k q in
    omega (arith, f.most, size, ap (λ (l : List ℕ). length (step_text l)) is, g)))
undump_rest p a b bytes t k (long x y e (between z i f) g) h =
    goes_by p a bytes t k h (λ c q j.
    let all : a ≡ (z ++ (lf ∷ [])) ++ y = e ∙ ap (λ (l : List ℕ). l ++ y) i in
    let l = found p.n p.count p.before (z ++ (lf ∷ [])) c k (sym (near_parted p.n p.count p.before z (z ++ (lf ∷ [])) y refl f) ∙ rw all at q) in
    long (drop k (z ++ (lf ∷ []))) y
    (ap (λ (l : List ℕ). drop k l) all ∙ drop-append-le k (z ++ (lf ∷ [])) y l.inside)
    (left_ends k z y l.inside f) g)
