use Rattle.std.proofs.Common.{sym, ◌∙◌}
use Rattle.cq_binder_queries.proofs.Shapes.{shape_of_groups, shape_of_rows}
use Rattle.cq_binder_queries.proofs.grouping.shape_of.Goals as goal

pub returns-then-is_grouped : goal.returns-then-is_grouped
returns-then-is_grouped c = λ columns before is_keys is_before kept.
    let q = c.args.query.now in
    let keys = rw c.as_slice.ensures at c.key_of_groups.ensures in
    shape_of_groups q columns c.key_of_groups.result before c.args.aggregates c.args.having (sym c.is_grouped.ensures ∙ c.if-is_grouped.true) (keys columns is_keys) is_before kept

pub returns-else-is_grouped : goal.returns-else-is_grouped
returns-else-is_grouped c = λ columns before is_keys is_before kept.
    shape_of_rows c.args.query.now columns (sym c.is_grouped.ensures ∙ c.if-is_grouped.false)
