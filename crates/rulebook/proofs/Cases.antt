-- The cases of specs/CasesA.antt, CasesWatch.antt and CasesG.antt come out as they are said.
use mathlib.Core.Path.{◌≡◌, refl}
use mathlib.Core.List.{map, ◌++◌}
use Rattle.rules.specs.Codes.{burst_of}
use Rattle.rules.specs.Masks.{high}
use Rattle.rulebook.specs.Columns.{owners_request, handover, some_below}
use Rattle.rulebook.specs.Traces.{in_a_row, completes, access, opens, opening, all, readies, so_far_after}
use Rattle.rulebook.specs.Rules.{locked_incr, is_watched, g2, g3, lost_in_a_row, g11, broken, broken_at, those, broken_rules}
use Rattle.rulebook.specs.Promises.{each}
use Rattle.rulebook.specs.Cases.{found, said}
use Rattle.rulebook.specs.CasesA.{cases_of_a}
use Rattle.rulebook.specs.CasesWatch.{cases_of_watch}
use Rattle.rulebook.specs.CasesG.{cases_of_g}

pub table : map found (cases_of_a ++ cases_of_watch ++ cases_of_g) ≡ map said (cases_of_a ++ cases_of_watch ++ cases_of_g)
unfolding cases_of_a cases_of_watch cases_of_g burst_of high owners_request handover some_below in_a_row completes access opens opening all readies so_far_after locked_incr is_watched g2 g3 lost_in_a_row g11 broken broken_at those broken_rules each
table = refl
