-- `keep` meets its contract: what is copied to the front is what stood between the two places.
use Rattle.std.proofs.Common.{◌≡◌, ◌+◌, ◌-◌, ◌≤◌, ℕ, List, take, drop, length, length-drop, arith, ap, sym, ◌∙◌}
use Rattle.std.proofs.Math.Seq.{paste}
use Rattle.std.proofs.lemmas.List.{drop-take}
use Rattle.std.proofs.lemmas.List.Edits.{take-paste}
use Rattle.console.proofs.keep.Goals as goal

moved : (l : List ℕ) (from to : ℕ) → from ≤ to → to ≤ length l → take (to - from) (paste l 0 (drop from l) (to - from)) ≡ drop from (take to l)
moved l from to order inside =
    let n : ℕ = to - from in
    let same : n ≡ 0 + n = omega arith in
    let whole : from + n ≡ to = omega arith in
    ap (λ (k : ℕ). take k (paste l 0 (drop from l) n)) same
    ∙ take-paste l 0 (drop from l) n (omega arith) (omega (arith, length-drop from l))
    ∙ sym (drop-take from n l)
    ∙ ap (λ (k : ℕ). drop from (take k l)) whole

pub returns : goal.returns
returns c =
    ap (λ (b : List ℕ). take (c.args.to - c.args.from) b) c.copy_within.ensures.after
    ∙ moved c.args.buf.now c.args.from c.args.to c.requires.order c.requires.inside
