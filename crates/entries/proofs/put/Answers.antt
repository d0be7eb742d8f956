-- `put` meets its contract: the four parts, one behind the other, in the first 42 bytes.
use mathlib.Core.Path.{◌≡◌, refl, ap, ◌∙◌}
use borrow.Author.Rules.{rules}
use lib.ListN.{length, take}
use lib.Seq.{length-take-le}
use Rattle.docketing.specs.Calls.{judge_stored}
use Rattle.entries.proofs.Stored.{all_stored}
use Rattle.entries.proofs.put.Goals as goal

pub returns : goal.returns
unfolding judge_stored
returns c =
    let first : c.unwrap-b.result.now ≡ take 42 c.args.b.now = search rules in
    let size : length c.unwrap-b.result.now ≡ 42 = ap length first ∙ length-take-le 42 c.args.b.now c.requires.1 in
    let stored = all_stored c.args.j c.unwrap-b.result.now _ _ _ _ size
    (c.copy_from_slice.ensures.after ∙ c.head_bytes.ensures)
    (c.copy_from_slice-2.ensures.after ∙ c.input_bytes.ensures)
    (c.copy_from_slice-3.ensures.after ∙ c.output_bytes.ensures)
    (c.copy_from_slice-4.ensures.after ∙ c.lost_bytes.ensures) in rw stored refl
