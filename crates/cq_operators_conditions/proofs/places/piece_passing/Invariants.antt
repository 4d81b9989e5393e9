use Rattle.std.proofs.Common.{drop}
use Rattle.cq_segments_pieces.specs.Marked.{live}
use Rattle.cq_table_positions.specs.Rows.{rows_in}
use Rattle.cq_operators_conditions.proofs.Asking.{LeftToPass}
use Rattle.cq_operators_conditions.proofs.Standing.{StandsAt}
use Rattle.cq_operators_conditions.proofs.places.piece_passing.Given as goal

-- the conditions that are left complete what passes, and what passed so far stands at the places
abbrev pub invariant-loop-condition : goal.invariant-loop-condition
invariant-loop-condition l = record {
  asked : LeftToPass l.before (drop l.condition-index l.conditions) l.conditions (rows_in l.passed) (live l.piece);
  stands : StandsAt l.piece (rows_in l.passed) l.places.items;
}
