use Rattle.std.proofs.Common.{◌≡◌, ◌++◌}
use Rattle.std.specs.Iterator.Adapters.{zip_first, zip_second}
use Rattle.std.specs.Slice.Iter.{iter_rest}
use Rattle.cq_views_columns.specs.Narrow.{sources_read}
use Rattle.cq_views_columns.proofs.columns.sources_read.Given as goal

-- the columns so far and those of the sources that are left make up all
abbrev pub invariant-loop-source : goal.invariant-loop-source
invariant-loop-source l =
    l.all.items ++ sources_read l.query l.widths (iter_rest (zip_first l.source-iterator)) (iter_rest (zip_second l.source-iterator))
    ≡ sources_read l.query l.widths l.sources l.widths
