-- The arbiter's line, written by words.
--
--   outputs_put == the outputs: two words, one after the other
--   trace_put   == the whole line: two words of the stimulus line, and the outputs over its LF
use Rattle.std.proofs.Common.{◌≡◌, ℕ, ◌+◌, ◌≤◌, List, ◌++◌, length, take, drop, sym, refl, ap, ◌∙◌, arith, length-take-le, take-add}
use lib.Seq.{sets}
use Rattle.rules.specs.declared.Outputs.{Outputs}
use Rattle.rules.specs.declared.Cycle.{Cycle}
use Rattle.words.specs.Words.{low_first, number_low}
use Rattle.words.proofs.Words.{Bytes, slots_take, bytes_of_number, again_bytes, number_part}
use Rattle.formats.specs.Digits.{tab, lf}
use Rattle.formats.specs.Columns.{output_columns, output_values}
use Rattle.formats.specs.Fields.{fields, write}
use Rattle.formats.specs.Lines.{stimulus_line, trace_line}
use Rattle.fields.proofs.Digits.{small_char}
use Rattle.glances.specs.Glances.{Driven, flags_bytes}
use Rattle.glances.specs.Puts.{owner_bytes, outputs_bytes}
use Rattle.glances.proofs.Compared.{flags_bytes_lem}
use Rattle.glances.proofs.Owners.{owner_bytes_lem}
use Rattle.glances.proofs.Tails.{rest, with_tail, put_on, put_over}

abbrev flags_of : Outputs → List ℕ
flags_of o = flags_bytes o.hmastlock o.decide o.granted o.busreq

-- the two texts make that of the outputs
joined_texts : (g : ℕ) (o : Outputs) → Driven g o → owner_bytes g o.hmaster ++ flags_of o ≡ outputs_bytes o
joined_texts g o d =
    rw (
      d.grant,
      small_char o.hmastlock (omega (arith, d.lock)),
      small_char o.decide (omega (arith, d.decide)),
      small_char o.granted (omega (arith, d.granted)),
      small_char o.busreq (omega (arith, d.request)),
    )

pub outputs_put : (g : ℕ) (o : Outputs) (b c t : List ℕ) (v w : ℕ) → 16 ≤ length b → Driven g o → v ≡ number_low 8 (owner_bytes g o.hmaster) 0
    → w ≡ number_low 8 (flags_of o) 0 → c ≡ sets b 0 (low_first 8 v) → t ≡ sets (rest 8 c) 0 (low_first 8 w) → with_tail 8 c t ≡ sets b 0 (outputs_bytes o)
outputs_put g o b c t v w room d ev ew ec et =
    let owner : low_first 8 v ≡ owner_bytes g o.hmaster = ap (low_first 8) ev ∙ owner_bytes_lem g o.hmaster in
    let bytes : Bytes (flags_of o) = flags_bytes_lem o.hmastlock o.decide o.granted o.busreq (omega (arith, d.lock)) (omega (arith, d.decide)) (omega (arith, d.granted)) (omega (arith, d.request)) in
    let flags : low_first 8 w ≡ flags_of o = ap (low_first 8) ew ∙ again_bytes 8 (flags_of o) bytes refl in
    put_on 8 b c t (owner_bytes g o.hmaster) (flags_of o) (ec ∙ ap (sets b 0) owner) refl (omega arith) (et ∙ ap (sets (rest 8 c) 0) flags)
    ∙ ap (sets b 0) (joined_texts g o d)

-- the bytes of a number that was read
taken_bytes : (w p : ℕ) (s : List ℕ) → Bytes s → p + w ≤ length s → low_first w (number_low w s p) ≡ take w (drop p s)
taken_bytes w p s bytes h = bytes_of_number w s p bytes ∙ sym (slots_take s w p h)

pub trace_put : (s b c m t : List ℕ) (k : Cycle) (v w : ℕ) → Bytes s → 16 ≤ length s → 31 ≤ length b → take 16 s ≡ stimulus_line k.inputs
    → v ≡ number_low 8 s 0 → w ≡ number_low 8 (rest 8 s) 0 → c ≡ sets b 0 (low_first 8 v) → m ≡ sets (rest 8 c) 0 (low_first 8 w)
    → t ≡ sets (rest 15 (with_tail 8 c m)) 0 (outputs_bytes k.outputs) → with_tail 15 (with_tail 8 c m) t ≡ sets b 0 (trace_line k)
trace_put s b c m t k v w bytes hs hb line ev ew ec em et =
    let head : low_first 8 v ≡ take 8 s = ap (low_first 8) ev ∙ taken_bytes 8 0 s bytes (omega arith) in
    let tail : low_first 8 w ≡ take 8 (drop 8 s) = ap (low_first 8) (ew ∙ number_part 8 8 s 0) ∙ taken_bytes 8 8 s bytes (omega arith) in
    let first : with_tail 8 c m ≡ sets b 0 (stimulus_line k.inputs) =
    put_on 8 b c m (take 8 s) (take 8 (drop 8 s)) (ec ∙ ap (sets b 0) head) (sym (length-take-le 8 s (omega arith))) (omega arith) (em ∙ ap (sets (rest 8 c) 0) tail)
    ∙ ap (sets b 0) (sym (take-add 8 8 s) ∙ line) in
    put_over 15 b (with_tail 8 c m) t (take 15 (stimulus_line k.inputs)) lf tab (write (fields output_columns) (output_values k.outputs)) first refl (omega arith) et
