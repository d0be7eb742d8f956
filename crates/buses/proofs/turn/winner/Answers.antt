-- `winner` meets its contract: where some bit is high, the walk ends at a master.
use Rattle.buses.proofs.Decision.{some_winner}
use Rattle.buses.proofs.turn.winner.Goals as goal

pub returns-in-None : goal.returns-in-None
returns-in-None c = absurd (search some_winner)
