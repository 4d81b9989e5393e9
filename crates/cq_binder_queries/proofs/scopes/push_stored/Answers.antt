use Rattle.std.proofs.Common.{rules, arith, ◌++◌, ◌∙◌, ap, List, map}
use Rattle.std.proofs.lemmas.List.{take_all}
use Rattle.cq_values.specs.declared.column.ColumnDef.{ColumnDef}
use Rattle.cq_binder_rules.specs.Typing.{ScopeColumn}
use Rattle.cq_binder_queries.proofs.SourceColumns.{all_stored, stored_column}
use Rattle.cq_binder_queries.proofs.scopes.push_stored.Goals as goal

pub returns : goal.returns
returns c =
    let all = take_all c.loop-column.column-index c.args.table.now.columns.now (search (rules, arith)) in
    c.loop-column.invariant
    ∙ ap (λ (cs : List ColumnDef). c.args.columns.now.items ++ map (stored_column c.args.known.now) cs) all
    ∙ ap (λ (cs : List ScopeColumn). c.args.columns.now.items ++ cs) (all_stored c.args.known.now c.args.table.now.columns.now)
