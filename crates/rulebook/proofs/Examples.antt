-- The runs of specs/Examples.antt come out as the page says.
use mathlib.Core.Path.{◌≡◌, refl}
use Rattle.rules.specs.Codes.{burst_of}
use Rattle.rules.specs.Masks.{high}
use Rattle.rulebook.specs.Columns.{owners_request, handover, some_below}
use Rattle.rulebook.specs.Traces.{in_a_row, completes, access, opens, opening, all, readies, so_far_after}
use Rattle.rulebook.specs.Rules.{locked_incr, is_watched, g2, g3, lost_in_a_row, g11, broken, broken_at, those, broken_rules}
use Rattle.rulebook.specs.Promises.{each, total}
use Rattle.rulebook.specs.Examples.{looks, wanted}

pub table : looks ≡ wanted
unfolding looks wanted burst_of high owners_request handover some_below in_a_row completes access opens opening all readies so_far_after locked_incr is_watched g2 g3 lost_in_a_row g11 broken broken_at those broken_rules each total
table = refl
