use Rattle.std.proofs.Common.{sym, ◌∙◌}
use Rattle.std.proofs.lemmas.Slice.Zip.{either_empty_from_Zip}
use Rattle.std.specs.Iterator.Adapters.{zip_first, zip_second}
use Rattle.std.specs.Slice.Iter.{iter_rest}
use Rattle.cq_views_columns.proofs.Sources.{none-read}
use Rattle.cq_views_columns.proofs.reads.reads_from.Goals as goal

pub returns : goal.returns
returns c =
    let ends = either_empty_from_Zip c.loop-other.other-iterator c.next.new.self c.next.result c.in-None.is c.next.ensures.steps in
    sym (none-read c.args.query.now c.args.source c.args.column c.loop-other.before (iter_rest (zip_first c.loop-other.other-iterator)) (iter_rest (zip_second c.loop-other.other-iterator)) ends)
    ∙ c.loop-other.invariant.1
