use Rattle.std.proofs.Common.{◌∙◌, ap, subst}
use Rattle.cq_binder_rules.specs.Scopes.{from_table, of_rows, source_columns}
use Rattle.cq_binder_rules.specs.Typing.{Scope}
use Rattle.cq_binder_queries.specs.Catalog.{Heading}
use Rattle.cq_binder_queries.specs.Conditions.{BindsWhere}
use Rattle.cq_binder.proofs.writing.where_on.Goals as goal

pub returns : goal.returns
returns c = λ t same.
    let named = ap (λ (h : Heading). of_rows (source_columns h.name (from_table t))) same in
    let scope = c.of_rows.ensures ∙ ap of_rows (c.deref.ensures.value ∙ c.in_ok-columns.ensures t same) ∙ named in
    subst (λ (s : Scope). BindsWhere s c.args.condition.now c.bound_where.result) scope c.bound_where.ensures
