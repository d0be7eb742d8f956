-- A word of the line less the text of zeros: the columns of a good line, and nothing else, are left.
--
--   flags_bytes_lem == the text of flags is bytes
--   Text line h i j k == a text of four numbers, of at most h, i, j and k bits, each of which has a lane of its own
--   text_found, text_sure == the mask leaves nothing exactly where such a text stands in the line; its lanes are the numbers
--   codes_of, flags_of == what `codes_at` and `flags_at` find in what is left
--   codes_seen, flags_seen == it is not bad exactly where valid columns stand in the line
use Rattle.std.proofs.Common.{◌≡◌, ℕ, ◌+◌, ◌/◌, ◌%◌, ◌^◌, ◌<◌, ◌≤◌, eqb, ◌↔◌, List, ◌∷◌, length, get_or, sym, refl, ap, ◌∙◌, le_trans, arith, lit≤, pow_mono}
use lib.Bits.{bit_and, bit_or}
use Rattle.rules.specs.Step.{flag_of}
use Rattle.rules.proofs.Flags.{flag_again, or_none_lem}
use Rattle.words.specs.Words.{number_low}
use Rattle.words.proofs.Words.{Bytes, none_bytes, one_more, slots, number_below, same_bytes}
use Rattle.glances.specs.declared.codes.Codes.{Codes}
use Rattle.glances.specs.declared.codes.Flags.{Flags}
use Rattle.glances.specs.Glances.{unbuilt, ValidCodes, CodesAt, codes_bytes, CodesSeen, ValidFlags, FlagsAt, flags_bytes, FlagsSeen}
use Rattle.glances.proofs.Bits.{or_zero}
use Rattle.glances.proofs.Lanes.{lanes, Lanes, lanes_of, lanes_at, mask_of, Low, clear_low, low_clear}

record Text (line : ℕ → ℕ → ℕ → ℕ → List ℕ) (h i j k : ℕ) : Type 0 where
  eight : (a b c d : ℕ) → length (line a b c d) ≡ 8
  bytes : (a b c d : ℕ) → a < 2 ^ h → b < 2 ^ i → c < 2 ^ j → d < 2 ^ k → Bytes (line a b c d)
  number : (a b c d : ℕ) → number_low 8 (line a b c d) 0 ≡ number_low 8 (line 0 0 0 0) 0 + lanes a b c d
  first : h ≤ 16
  second : i ≤ 16
  third : j ≤ 16
  fourth : k ≤ 16

-- a difference that wraps round
left_is : (x text w sum : ℕ) → x < 2 ^ 64 → text + sum < 2 ^ 64 → (x + text) % 2 ^ 64 ≡ w → (x ≡ sum) ↔ (w ≡ text + sum)
left_is x text w sum h k e = (λ q. omega arith, λ q. omega arith)

-- x is the word of s at p less the text of zeros
module _ (line : ℕ → ℕ → ℕ → ℕ → List ℕ) (h i j k : ℕ) (t : Text line h i j k)
    (s : List ℕ) (p : ℕ) (bytes : Bytes s) (x text : ℕ) (fits : x < 2 ^ 64)
    (zeros : text ≡ number_low 8 (line 0 0 0 0) 0) (less : (x + text) % 2 ^ 64 ≡ number_low 8 s p) where
  left : (a b c d : ℕ) → a < 2 ^ h → b < 2 ^ i → c < 2 ^ j → d < 2 ^ k
      → (x ≡ lanes a b c d) ↔ (number_low 8 s p ≡ number_low 8 (line a b c d) 0)
  left a b c d ha hb hc hd =
      let e : number_low 8 (line a b c d) 0 ≡ text + lanes a b c d = t.number a b c d ∙ rw zeros in
      let room : text + lanes a b c d < 2 ^ 64 = rw e at (number_below 8 (line a b c d) 0 (t.bytes a b c d ha hb hc hd)) in
      let l = left_is x text (number_low 8 s p) (lanes a b c d) fits room less in
      (λ q. l.0 q ∙ sym e, λ q. l.1 (q ∙ e))

  text_found : bit_and x (mask_of h i j k) ≡ 0
      → Low x h i j k × (slots s p 8 ≡ line (x % 65536) (x / 65536 % 65536) (x / 4294967296 % 65536) (x / 281474976710656))
  text_found e =
      let l = clear_low x h i j k fits t.first t.second t.third t.fourth e in
      let a : ℕ = x % 65536 in
      let b : ℕ = x / 65536 % 65536 in
      let c : ℕ = x / 4294967296 % 65536 in
      let d : ℕ = x / 281474976710656 in (
        l,
        same_bytes 8 s p (line a b c d) bytes (t.bytes a b c d l.first l.second l.third l.fourth) (t.eight a b c d)
            ((left a b c d l.first l.second l.third l.fourth).0 (lanes_of x)),
      )

  text_sure : (a b c d : ℕ) → a < 2 ^ h → b < 2 ^ i → c < 2 ^ j → d < 2 ^ k
      → number_low 8 s p ≡ number_low 8 (line a b c d) 0 → Lanes x a b c d × (bit_and x (mask_of h i j k) ≡ 0)
  text_sure a b c d ha hb hc hd e =
      let first : 2 ^ h ≤ 65536 = pow_mono t.first in
      let second : 2 ^ i ≤ 65536 = pow_mono t.second in
      let third : 2 ^ j ≤ 65536 = pow_mono t.third in
      let own : Lanes (lanes a b c d) a b c d = lanes_at a b c d (le_trans ha first) (le_trans hb second) (le_trans hc third) in
      let n : Lanes x a b c d = rw ((left a b c d ha hb hc hd).1 e) own in (
        n,
        low_clear x h i j k fits t.first t.second t.third t.fourth
            (record { first = rw n.first ha; second = rw n.second hb; third = rw n.third hc; fourth = rw n.fourth hd }),
      )

abbrev codes_of : ℕ → ℕ → Codes
codes_of x u =
    record {
      bad = bit_or (bit_and x (mask_of 8 1 2 2)) u;
      hready = x / 65536 % 2;
      htrans = x / 4294967296 % 4;
      hburst = x / 281474976710656;
    }

codes_text : (after : ℕ) → after < 256 → Text (λ low a b c. low ∷ codes_bytes a b c after) 8 1 2 2
codes_text after h =
    record {
      eight = λ low a b c. refl;
      bytes = λ low a b c hl ha hb hc.
          one_more hl (one_more (omega arith) (one_more (omega arith) (one_more (omega arith) (one_more (omega arith) (one_more (omega arith) (one_more (omega arith) (one_more h none_bytes)))))));
      number = λ low a b c. omega arith;
      first = lit≤ tt;
      second = lit≤ tt;
      third = lit≤ tt;
      fourth = lit≤ tt;
    }

pub flags_bytes_lem : (a b c d : ℕ) → a < 2 → b < 2 → c < 2 → d < 2 → Bytes (flags_bytes a b c d)
flags_bytes_lem a b c d ha hb hc hd =
    one_more (omega arith) (one_more (omega arith) (one_more (omega arith) (one_more (omega arith) (one_more (omega arith) (one_more (omega arith) (one_more (omega arith) (one_more (omega arith) none_bytes)))))))

abbrev flags_of : ℕ → Flags
flags_of x =
    record {
      bad = bit_and x (mask_of 1 1 1 1);
      hmastlock = x % 2;
      decide = x / 65536 % 2;
      granted = x / 4294967296 % 2;
      busreq = x / 281474976710656;
    }

flags_text : Text flags_bytes 1 1 1 1
flags_text =
    record {
      eight = λ a b c d. refl;
      bytes = flags_bytes_lem;
      number = λ a b c d. omega arith;
      first = lit≤ tt;
      second = lit≤ tt;
      third = lit≤ tt;
      fourth = lit≤ tt;
    }

module _ (s : List ℕ) (bytes : Bytes s) (x text : ℕ) (fits : x < 2 ^ 64) where
  module _ (after : ℕ) (h : after < 256)
      (zeros : text ≡ number_low 8 (0 ∷ codes_bytes 0 0 0 after) 0)
      (less : (x + text) % 2 ^ 64 ≡ number_low 8 s 8)
      (u : ℕ) (flagged : u ≡ flag_of (unbuilt (x / 4294967296 % 4) (x / 281474976710656))) where
    codes_found : (codes_of x u).bad ≡ 0 → ValidCodes (codes_of x u) × CodesAt s after (codes_of x u)
    codes_found e =
        let z = or_none_lem (bit_and x (mask_of 8 1 2 2)) u e in
        let f = text_found (λ low a b c. low ∷ codes_bytes a b c after) 8 1 2 2 (codes_text after h) s 8 bytes x text fits zeros less z.0 in
        let q = f.1 in
        let ea : x / 65536 % 65536 ≡ x / 65536 % 2 = omega (arith, f.0.second) in
        let eb : x / 4294967296 % 65536 ≡ x / 4294967296 % 4 = omega (arith, f.0.third) in (
          record { ready = omega arith; trans = omega arith; burst = omega (arith, f.0.fourth); built = sym (flag_again _) ∙ ap (λ (v : ℕ). eqb v 1) (sym flagged ∙ z.1) },
          record { before = cc; ready = cc; between = cc; trans = cc; between_2 = cc; burst = cc; behind = cc },
        )

    codes_sure : (d : Codes) → ValidCodes d → CodesAt s after d → (codes_of x u).bad ≡ 0
    codes_sure d v at =
        let l = text_sure (λ low a b c. low ∷ codes_bytes a b c after) 8 1 2 2 (codes_text after h) s 8 bytes x text fits zeros less
        (get_or s 8 0) d.hready d.htrans d.hburst
        (bytes.below 8) (omega (arith, v.ready)) (omega (arith, v.trans)) (omega (arith, v.burst)) (cc) in
        let trans : x / 4294967296 % 4 ≡ d.htrans = omega (arith, l.0.third, v.trans) in
        or_zero l.1 (flagged ∙ rw (trans, l.0.fourth, v.built))

    pub codes_seen : CodesSeen s after (codes_of x u)
    codes_seen = record { found = codes_found; sure = codes_sure }

  module _ (zeros : text ≡ number_low 8 (flags_bytes 0 0 0 0) 0) (less : (x + text) % 2 ^ 64 ≡ number_low 8 s 23) where
    flags_found : (flags_of x).bad ≡ 0 → ValidFlags (flags_of x) × FlagsAt s (flags_of x)
    flags_found e =
        let f = text_found flags_bytes 1 1 1 1 flags_text s 23 bytes x text fits zeros less e in
        let q = f.1 in
        let ea : x % 65536 ≡ x % 2 = omega (arith, f.0.first) in
        let eb : x / 65536 % 65536 ≡ x / 65536 % 2 = omega (arith, f.0.second) in
        let ec : x / 4294967296 % 65536 ≡ x / 4294967296 % 2 = omega (arith, f.0.third) in (
          record { lock = omega arith; decide = omega arith; granted = omega arith; request = omega (arith, f.0.fourth) },
          record { lock = cc; between = cc; decide = cc; between_2 = cc; granted = cc; between_3 = cc; request = cc; behind = cc },
        )

    flags_sure : (d : Flags) → ValidFlags d → FlagsAt s d → (flags_of x).bad ≡ 0
    flags_sure d v at =
        (text_sure flags_bytes 1 1 1 1 flags_text s 23 bytes x text fits zeros less
        d.hmastlock d.decide d.granted d.busreq
        (omega (arith, v.lock)) (omega (arith, v.decide)) (omega (arith, v.granted)) (omega (arith, v.request)) (cc)).1

    pub flags_seen : FlagsSeen s (flags_of x)
    flags_seen = record { found = flags_found; sure = flags_sure }
