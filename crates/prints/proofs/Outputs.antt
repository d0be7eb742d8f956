-- The outputs of any cycle, written by words.
--
--   grant_number == the number that the text of HGRANT and HMASTER is
--   outputs_put  == the outputs: two words, one after the other
use Prim.Native.Nat.{ℕ, ◌+◌, ◌*◌, ◌/◌, ◌≤◌, ◌<◌}
use mathlib.Core.Path.{◌≡◌, refl, ap, ◌∙◌}
use mathlib.Core.List.{List, ◌++◌}
use native.Mathlib.Omega.{arith}
use lib.ListN.{length}
use lib.Seq.{sets}
use Rattle.rules.specs.declared.Outputs.{Outputs}
use Rattle.words.specs.Words.{low_first, number_low}
use Rattle.words.proofs.Words.{Bytes, none_bytes, one_more, again_bytes}
use Rattle.formats.specs.Digits.{hex}
use Rattle.fields.proofs.Digits.{small_char}
use Rattle.glances.specs.Glances.{flags_bytes}
use Rattle.glances.specs.Puts.{outputs_bytes}
use Rattle.glances.proofs.Compared.{flags_bytes_lem}
use Rattle.glances.proofs.Owners.{char_small}
use Rattle.glances.proofs.Tails.{rest, with_tail, put_on}
use Rattle.prints.specs.Prints.{grant_bytes, FitsOut}

pub grant_number : (h m p q : ℕ) → p ≡ number_low 4 (hex 4 h) 0 → q ≡ number_low 4 (hex 4 m) 0
    → 648528241946001417 + p * 256 + q / 16777216 * 281474976710656 ≡ number_low 8 (grant_bytes h m) 0
grant_number h m p q ep eq =
    omega (arith, ep, eq, char_small m, char_small (m / 16), char_small (m / 16 / 16), char_small (m / 16 / 16 / 16))

grant_bytes_lem : (h m : ℕ) → low_first 8 (number_low 8 (grant_bytes h m) 0) ≡ grant_bytes h m
grant_bytes_lem h m =
    let tabs : 9 < 256 = omega arith in
    again_bytes 8 (grant_bytes h m)
    (one_more tabs (one_more (char_small _) (one_more (char_small _) (one_more (char_small _) (one_more (char_small _)
    (one_more tabs (one_more (char_small m) (one_more tabs none_bytes)))))))) refl

abbrev flags_of : Outputs → List ℕ
flags_of o = flags_bytes o.hmastlock o.decide o.granted o.busreq

-- the two texts make that of the outputs
joined_texts : (o : Outputs) → FitsOut o → grant_bytes o.hgrant o.hmaster ++ flags_of o ≡ outputs_bytes o
joined_texts o d =
    rw (
      small_char o.hmastlock (omega (arith, d.lock)),
      small_char o.decide (omega (arith, d.decide)),
      small_char o.granted (omega (arith, d.granted)),
      small_char o.busreq (omega (arith, d.request)),
    )

pub outputs_put : (o : Outputs) (b c t : List ℕ) (v w : ℕ) → 16 ≤ length b → FitsOut o → v ≡ number_low 8 (grant_bytes o.hgrant o.hmaster) 0
    → w ≡ number_low 8 (flags_of o) 0 → c ≡ sets b 0 (low_first 8 v) → t ≡ sets (rest 8 c) 0 (low_first 8 w) → with_tail 8 c t ≡ sets b 0 (outputs_bytes o)
outputs_put o b c t v w room d ev ew ec et =
    let grant : low_first 8 v ≡ grant_bytes o.hgrant o.hmaster = ap (low_first 8) ev ∙ grant_bytes_lem o.hgrant o.hmaster in
    let bytes : Bytes (flags_of o) = flags_bytes_lem o.hmastlock o.decide o.granted o.busreq (omega (arith, d.lock)) (omega (arith, d.decide)) (omega (arith, d.granted)) (omega (arith, d.request)) in
    let flags : low_first 8 w ≡ flags_of o = ap (low_first 8) ew ∙ again_bytes 8 (flags_of o) bytes refl in
    put_on 8 b c t (grant_bytes o.hgrant o.hmaster) (flags_of o) (ec ∙ ap (sets b 0) grant) refl (omega arith) (et ∙ ap (sets (rest 8 c) 0) flags)
    ∙ ap (sets b 0) (joined_texts o d)
