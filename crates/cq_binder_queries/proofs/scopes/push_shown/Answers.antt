use Rattle.std.proofs.lemmas.Slice.Zip.{either_empty_from_Zip}
use Rattle.std.specs.Iterator.Adapters.{zip_first, zip_second}
use Rattle.std.specs.Slice.Iter.{iter_rest}
use Rattle.cq_binder_rules.specs.Scopes.{source_columns}
use Rattle.cq_binder_queries.specs.Catalog.{shown_view}
use Rattle.std.proofs.Common.{◌++◌}
use Rattle.cq_binder_queries.proofs.SourceColumns.{all_made}
use Rattle.cq_binder_queries.proofs.scopes.push_shown.Goals as goal

pub returns : goal.returns
returns c =
    let ends = either_empty_from_Zip c.loop-column.column-iterator c.next.new.self c.next.result c.in-None.is c.next.ensures.steps in
    all_made c.args.known.now c.loop-column.columns.items (c.args.columns.now.items ++ source_columns c.args.known.now (shown_view c.args.view.now))
    (iter_rest (zip_first c.loop-column.column-iterator)) (iter_rest (zip_second c.loop-column.column-iterator)) ends c.loop-column.invariant
