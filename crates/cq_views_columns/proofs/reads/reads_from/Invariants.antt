use Rattle.std.proofs.Common.{◌≡◌, ◌+◌}
use Rattle.std.specs.Iterator.Adapters.{zip_first, zip_second}
use Rattle.std.specs.List.{sum}
use Rattle.std.specs.Slice.Iter.{iter_rest}
use Rattle.cq_views_columns.specs.Reads.{reads_from}
use Rattle.cq_views_columns.proofs.reads.reads_from.Given as goal

-- whether the column is read is left to the sources that are left
abbrev pub invariant-loop-other : goal.invariant-loop-other
invariant-loop-other l =
    (l.before + sum (iter_rest (zip_second l.other-iterator)) ≡ sum l.widths)
    × (reads_from l.query l.source l.column l.before (iter_rest (zip_first l.other-iterator)) (iter_rest (zip_second l.other-iterator))
    ≡ reads_from l.query l.source l.column 0 l.sources l.widths)
