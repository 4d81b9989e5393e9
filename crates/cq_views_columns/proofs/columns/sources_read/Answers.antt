use Rattle.std.proofs.lemmas.Slice.Zip.{either_empty_from_Zip}
use Rattle.std.specs.Iterator.Adapters.{zip_first, zip_second}
use Rattle.std.specs.Slice.Iter.{iter_rest}
use Rattle.cq_views_columns.specs.Narrow.{sources_read}
use Rattle.cq_views_columns.proofs.Sources.{all-columns}
use Rattle.cq_views_columns.proofs.columns.sources_read.Goals as goal

pub returns : goal.returns
returns c =
    let ends = either_empty_from_Zip c.loop-source.source-iterator c.next.new.self c.next.result c.in-None.is c.next.ensures.steps in
    all-columns c.args.query.now c.args.widths.now (iter_rest (zip_first c.loop-source.source-iterator)) (iter_rest (zip_second c.loop-source.source-iterator)) ends
    c.loop-source.all.items (sources_read c.args.query.now c.args.widths.now c.args.sources.now c.args.widths.now) c.loop-source.invariant
