use Rattle.std.proofs.Common.{sym}
use Rattle.cq_segments_pieces.specs.Rows.{stored_rows}
use Rattle.cq_views.proofs.Exchanges.{no-entry, own-entry}
use Rattle.cq_views.specs.Changes.{exchanged}
use Rattle.cq_model.specs.declared.query.Source.TheVariants.{Table}
use Rattle.cq_views.proofs.changes.cut_change.Goals as goal

pub returns-in-None : goal.returns-in-None
returns-in-None c =
    let change = c.args.change.now in
    rw c.new.ensures.items (no-entry c.args.columns.now (Table change.table) (exchanged (stored_rows change.gone.now) (stored_rows change.come.now)) (sym c.in-None.ensures))

pub returns-in_ok-push-in-Some : goal.returns-in_ok-push-in-Some
returns-in_ok-push-in-Some c =
    let change = c.args.change.now in
    let rows = c.in_ok-rows-in-Some in
    rw (c.in_ok-push-in-Some.ensures.items, c.new-all.ensures.items)
    (own-entry c.args.columns.now (Table change.table) (exchanged (stored_rows change.gone.now) (stored_rows change.come.now)) c.in-Some.entry.now (sym c.in-Some.ensures) rows.rows (rw c.as_slice.ensures at rows.ensures))
