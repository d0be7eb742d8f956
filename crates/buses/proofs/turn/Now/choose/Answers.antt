-- `choose` meets its contract: the three ends of the choice.
use Rattle.buses.proofs.Decision.{chooses_zero, chooses_winner, chooses_none}
use Rattle.buses.proofs.turn.Now.choose.Goals as goal

pub returns-then-self-eq0 : goal.returns-then-self-eq0
returns-then-self-eq0 c = search chooses_zero

pub returns-else-self-eq0 : goal.returns-else-self-eq0
returns-else-self-eq0 c = search chooses_winner

pub returns-else-held-eq0 : goal.returns-else-held-eq0
returns-else-held-eq0 c = search chooses_none
