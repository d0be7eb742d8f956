-- `put_decimal` meets its contract: from the last digit on, each stands before those that are written.
use Rattle.std.proofs.Common.{◌≡◌, ◌+◌, ◌-◌, ◌%◌, suc, [], ◌∷◌, length, sym, refl, ◌∙◌, add-zero, arith, length-set}
use lib.Seq.{sets}
use Rattle.formats.specs.Digits.{decimal}
use Rattle.fields.proofs.Decimals.{lowest_none, lowest_more, decimal_lowest}
use Rattle.fields.proofs.Stores.{then_sets, set_first}
use Rattle.fields.proofs.text.put_decimal.Goals as goal

pub loop-i-init : goal.loop-i-init
loop-i-init c = let v = c.args.v in
    let k : c.args.at + c.decimal_length.result - c.args.at ≡ length (decimal v) = omega (arith, c.decimal_length.ensures.0) in
    ([], omega arith, rw k (sym (decimal_lowest v c.ranges.v.fits)), add-zero _, refl, refl)

pub loop-i-preserved : goal.loop-i-preserved
loop-i-preserved c = let l = c.loop-i in let a = c.args in
    let i = l.invariant in
    let back : l.i - 1 + 1 ≡ l.i = omega arith in
    let one : l.i - a.at ≡ suc (l.i - 1 - a.at) = omega arith in (
      (48 + l.rest % 10) ∷ i.0,
      omega arith,
      sym (lowest_more (l.i - 1 - a.at) l.rest i.0) ∙ rw one at i.2,
      omega arith,
      length-set _ _ _ ∙ i.4,
      set_first a.buf.now _ _ _ i.0 (rw back i.5),
    )

pub returns : goal.returns
returns c = let l = c.loop-i in let a = c.args in
    let i = l.invariant in
    let size = c.decimal_length.ensures.0 in
    let here : l.i ≡ a.at = omega arith in
    let none : l.i - a.at ≡ 0 = omega arith in
    let whole : i.0 ≡ decimal a.v = sym (lowest_none l.rest i.0) ∙ rw none at i.2 in
    let digits : l.buf ≡ sets a.buf.now a.at (decimal a.v) = i.5 ∙ rw (here, whole) refl in
    (omega arith, then_sets a.buf.now _ _ _ _ (decimal a.v) (a.after ∷ []) digits (omega arith) refl)
