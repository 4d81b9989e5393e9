use Rattle.cq_values_rows.proofs.InTurn.{come_in_turn}
use Rattle.cq_values_rows.proofs.laws.rows_come_in_turn.Goals as goal

pub returns : goal.returns
returns c = come_in_turn
