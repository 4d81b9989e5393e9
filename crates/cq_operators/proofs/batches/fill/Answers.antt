use Rattle.std.proofs.Common.{◌∙◌, ◌-◌, ap, map, sym}
use Rattle.cq_vectors.specs.Batch.{row_at}
use Rattle.cq_operators.specs.Batches.{between}
use Rattle.cq_operators.proofs.Between.{length-between, rows-whole, values-between}
use Rattle.cq_operators.proofs.batches.fill.Goals as goal

-- the rows of the columns are the rows between the places
pub returns-clause-ok : goal.returns-clause-ok
returns-clause-ok c =
    let list = c.args.list.now in
    let start = c.args.start in
    let end = c.args.end in
    let columns = c.in_ok-columns.columns.items in
    ap (map (row_at columns)) c.set_all.ensures
    ∙ rows-whole c.args.width (between start end list) columns (end - start) (values-between c.args.width start end list c.requires.wide) c.in_ok-columns.ensures
    (sym (length-between start end list c.requires.places c.requires.inside))
