-- A line that is written by words, each over the end of the one before.
--
--   put_across == bytes written from a place on take the place of what stands there
--   inputs_put == the inputs: three words
--   line_put   == the whole line: the inputs, and the outputs over their end
use Prim.Native.Nat.{ℕ, suc, ◌+◌, ◌*◌, ◌/◌, ◌≤◌, ◌<◌}
use mathlib.Core.Path.{◌≡◌, refl, ap, ◌∙◌}
use mathlib.Core.List.{List, [], ◌∷◌, ◌++◌}
use native.Mathlib.Omega.{arith}
use native.Mathlib.Numerals.{add-one}
use native.Mathlib.Nat.{add-zero}
use lib.ListN.{length, set}
use lib.Seq.{sets, length-sets, set-set}
use Rattle.rules.specs.declared.Inputs.{Inputs}
use Rattle.rules.specs.declared.Outputs.{Outputs}
use Rattle.rules.specs.declared.Cycle.{Cycle}
use Rattle.words.specs.Words.{low_first, number_low}
use Rattle.words.proofs.Words.{Bytes, none_bytes, one_more, again_bytes}
use Rattle.formats.specs.Digits.{tab, hex}
use Rattle.formats.specs.Lines.{trace_line}
use Rattle.fields.proofs.Digits.{small_char}
use Rattle.fields.proofs.Stores.{sets_append, set_first}
use Rattle.glances.specs.Glances.{codes_bytes}
use Rattle.glances.specs.Puts.{outputs_bytes}
use Rattle.glances.proofs.Owners.{char_small}
use Rattle.glances.proofs.Tails.{rest, with_tail, tail_put}
use Rattle.prints.specs.Prints.{inputs_bytes, Fits}

-- a second run of stores hides a first that is no longer
sets_twice : (l : List ℕ) (i : ℕ) (us vs : List ℕ) → length us ≤ length vs → sets (sets l i us) i vs ≡ sets l i vs
sets_twice l i [] vs h = refl
sets_twice l i (u ∷ us) [] h = absurd (omega arith)
sets_twice l i (u ∷ us) (v ∷ vs) h =
    ap (λ (m : List ℕ). sets m (suc i) vs) (set_first (set l i u) (sets (set l i u) (suc i) us) i v us (rw (add-one i)))
    ∙ rw (set-set l i u v) (sets_twice (set l i v) (suc i) us vs (omega arith))

pub put_across : (k : ℕ) (b c t us zs vs : List ℕ) → c ≡ sets b 0 (us ++ zs) → k ≡ length us → length zs ≤ length vs → k ≤ length b
    → t ≡ sets (rest k c) 0 vs → with_tail k c t ≡ sets b 0 (us ++ vs)
put_across k b c t us zs vs e n h room f =
    let size : length c ≡ length b = rw e (length-sets b 0 (us ++ zs)) in
    tail_put k c t vs (omega arith) f
    ∙ rw (e, n, ← sets_append b 0 us zs, ← sets_append b 0 us vs, add-zero (length us))
    (sets_twice (sets b 0 us) (length us) zs vs h)

-- four characters, and four bytes more
mask_bytes : (m p q r s : ℕ) → p < 256 → q < 256 → r < 256 → s < 256 → Bytes (hex 4 m ++ (p ∷ q ∷ r ∷ s ∷ []))
mask_bytes m p q r s hp hq hr hs =
    one_more (char_small (m / 16 / 16 / 16)) (one_more (char_small (m / 16 / 16)) (one_more (char_small (m / 16)) (one_more (char_small m)
    (one_more hp (one_more hq (one_more hr (one_more hs none_bytes)))))))

mask_word : (m p v w : ℕ) → p < 256 → v ≡ number_low 4 (hex 4 m) 0 → w ≡ v + p * 4294967296 → low_first 8 w ≡ hex 4 m ++ (p ∷ 0 ∷ 0 ∷ 0 ∷ [])
mask_word m p v w h e f =
    let none : 0 < 256 = omega arith in
    let sum : w ≡ number_low 8 (hex 4 m ++ (p ∷ 0 ∷ 0 ∷ 0 ∷ [])) 0 = omega arith in
    ap (low_first 8) sum ∙ again_bytes 8 (hex 4 m ++ (p ∷ 0 ∷ 0 ∷ 0 ∷ [])) (mask_bytes m p 0 0 0 h none none none) refl

codes_word : (a b c w : ℕ) → a ≤ 1 → b ≤ 3 → c ≤ 3 → w ≡ number_low 7 (codes_bytes a b c tab) 0 → low_first 8 w ≡ codes_bytes a b c tab ++ (0 ∷ [])
codes_word a b c w ha hb hc e =
    let l = codes_bytes a b c tab ++ (0 ∷ []) in
    let sum : w ≡ number_low 8 l 0 = omega arith in
    ap (low_first 8) sum
    ∙ again_bytes 8 l
    (one_more (omega arith) (one_more (omega arith) (one_more (omega arith) (one_more (omega arith) (one_more (omega arith) (one_more (omega arith) (one_more (omega arith) (one_more (omega arith) none_bytes))))))))
    refl

pub inputs_put : (x : Inputs) (b c m t : List ℕ) (p q w : ℕ) → 17 ≤ length b → Fits x
    → p ≡ number_low 4 (hex 4 x.hbusreq) 0 → q ≡ number_low 4 (hex 4 x.hlock) 0 → w ≡ number_low 7 (codes_bytes x.hready x.htrans x.hburst tab) 0
    → c ≡ sets b 0 (low_first 8 (p + 38654705664)) → m ≡ sets (rest 5 c) 0 (low_first 8 q) → t ≡ sets (rest 9 (with_tail 5 c m)) 0 (low_first 8 w)
    → with_tail 9 (with_tail 5 c m) t ≡ sets b 0 (inputs_bytes x ++ (tab ∷ 0 ∷ []))
inputs_put x b c m t p q w room f ep eq ew ec em et =
    let requests = mask_word x.hbusreq tab p (p + 38654705664) (omega arith) ep refl in
    let locks = mask_word x.hlock 0 q q (omega arith) eq (omega arith) in
    let codes = codes_word x.hready x.htrans x.hburst w f.ready f.trans f.burst ew in
    let first : with_tail 5 c m ≡ sets b 0 ((hex 4 x.hbusreq ++ (tab ∷ [])) ++ (hex 4 x.hlock ++ (0 ∷ 0 ∷ 0 ∷ 0 ∷ []))) =
    put_across 5 b c m (hex 4 x.hbusreq ++ (tab ∷ [])) (0 ∷ 0 ∷ 0 ∷ []) (hex 4 x.hlock ++ (0 ∷ 0 ∷ 0 ∷ 0 ∷ []))
    (ec ∙ ap (sets b 0) requests) refl (omega arith) (omega arith) (em ∙ ap (sets (rest 5 c) 0) locks) in
    put_across 9 b (with_tail 5 c m) t (hex 4 x.hbusreq ++ (tab ∷ hex 4 x.hlock)) (0 ∷ 0 ∷ 0 ∷ 0 ∷ []) (codes_bytes x.hready x.htrans x.hburst tab ++ (0 ∷ []))
    first refl (omega arith) (omega arith) (et ∙ ap (sets (rest 9 (with_tail 5 c m)) 0) codes)

-- the columns of the inputs as a line has them
joined : (x : Inputs) (o : Outputs) → Fits x → inputs_bytes x ++ outputs_bytes o ≡ trace_line (record { inputs = x; outputs = o })
joined x o f =
    rw (
      small_char x.hready (omega (arith, f.ready)),
      small_char x.htrans (omega (arith, f.trans)),
      small_char x.hburst (omega (arith, f.burst)),
    )

pub line_put : (k : Cycle) (b c t : List ℕ) → 31 ≤ length b → Fits k.inputs
    → c ≡ sets b 0 (inputs_bytes k.inputs ++ (tab ∷ 0 ∷ [])) → t ≡ sets (rest 15 c) 0 (outputs_bytes k.outputs)
    → with_tail 15 c t ≡ sets b 0 (trace_line k)
line_put k b c t room f ec et =
    put_across 15 b c t (inputs_bytes k.inputs) (tab ∷ 0 ∷ []) (outputs_bytes k.outputs) ec refl (omega arith) (omega arith) et
    ∙ ap (sets b 0) (joined k.inputs k.outputs f)
