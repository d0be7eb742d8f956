-- What a judge and a cycle that it takes give to the charges: masks and sums that are small enough.
--
--   Fits c    == the masks of the cycle c are of sixteen bits, and its owner is a bit of them
--   Ready j c == the judge j has room, and its previous cycle and the cycle c fit
use Rattle.std.specs.Prelude.{◌^◌, ◌<◌}
use Rattle.rules.specs.declared.Cycle.{Cycle}
use Rattle.rules.specs.Codes.{most_masters}
use Rattle.rulebook.specs.declared.Judge.{Judge}
use Rattle.keeping.specs.Room.{Room}

pub record Fits (c : Cycle) : Type 0 where
  pub hlock : c.inputs.hlock < 2 ^ most_masters
  pub hgrant : c.outputs.hgrant < 2 ^ most_masters
  pub hmaster : c.outputs.hmaster < most_masters

pub record Ready (j : Judge) (c : Cycle) : Type 0 where
  pub room : Room j
  pub previous : Fits j.previous
  pub cycle : Fits c
