use Rattle.std.proofs.lemmas.Slice.Zip.{either_empty_from_Zip}
use Rattle.std.specs.Iterator.Adapters.{zip_first, zip_second}
use Rattle.std.specs.Slice.Iter.{iter_rest}
use Rattle.cq_views_columns.specs.Narrow.{columns_at}
use Rattle.cq_views_columns.specs.Places.{places_from}
use Rattle.cq_views_columns.proofs.Sources.{all-placed}
use Rattle.cq_views_columns.proofs.places.places_of.Goals as goal

pub returns : goal.returns
returns c =
    let ends = either_empty_from_Zip c.loop-source.source-iterator c.next.new.self c.next.result c.in-None.is c.next.ensures.steps in
    all-placed (columns_at c.args.columns.now) c.loop-source.before (iter_rest (zip_first c.loop-source.source-iterator)) (iter_rest (zip_second c.loop-source.source-iterator)) ends
    c.loop-source.places.items (places_from (columns_at c.args.columns.now) 0 c.args.sources.now c.args.widths.now) c.loop-source.invariant.1
