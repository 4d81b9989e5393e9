use Rattle.std.proofs.Common.{length}
use Rattle.cq_table_columns.specs.Stored.{all_rows}
use Rattle.cq_views.proofs.filling.fill_from.Given as goal
use Rattle.cq_views.specs.Cut.{cut_only}
use Rattle.cq_views.specs.Filling.{CanFill, Fills}
use Rattle.cq_views_state.specs.declared.state.ViewState.{ViewState}

-- the rows that are left can be taken in, and a state that takes them in has taken in all
abbrev pub invariant-loop-left : goal.invariant-loop-left
invariant-loop-left l = record {
  can : CanFill l.view (cut_only l.source l.columns (all_rows l.left));
  fills : (last : ViewState) → Fills (cut_only l.source l.columns (all_rows l.left)) l.view last → Fills (cut_only l.source l.columns (all_rows l.rows)) l.initial.view last;
}

-- fewer rows are left
abbrev pub decreases-loop-left : goal.decreases-loop-left
decreases-loop-left l = length (all_rows l.left)
