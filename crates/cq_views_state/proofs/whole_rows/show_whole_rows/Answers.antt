use Rattle.std.proofs.Common.{rules}
use Rattle.cq_views_state.proofs.WholeRows.{shown-where}
use Rattle.cq_views_state.specs.WholeRows.{AreColumns}
use Rattle.cq_views_state.proofs.whole_rows.show_whole_rows.Goals as goal

pub returns-then-are_columns : goal.returns-then-are_columns
returns-then-are_columns c =
    let columns : AreColumns c.args.items.now = search rules in
    shown-where c.args.items.now columns c.args.rows.now c.have_width.result c.have_width.ensures
