-- `lost_in` meets its contract: the last sixteen bytes, and a call for each.
use Rattle.dockets.proofs.Parts.{lost_read}
use Rattle.dockets.proofs.reading.lost_in.Goals as goal

pub returns : goal.returns
returns c =
    let chunk = rw c.unwrap-counts.ensures at c.last_chunk.ensures.cases in
    lost_read c.args.b.now c.unwrap-counts.result.now _ c.told-b chunk.1.same c.map.ensures.items.long (λ k h. (c.map.ensures.items.at k 0 0 h).2.met)
