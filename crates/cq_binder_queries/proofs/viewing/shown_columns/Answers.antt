use Rattle.std.proofs.Common.{subst}
use Rattle.cq_binder_rules.specs.Typing.{Scope}
use Rattle.cq_binder_queries.specs.View.{ShowsColumns}
use Rattle.cq_binder_queries.proofs.viewing.shown_columns.Goals as goal

pub returns : goal.returns
returns c = subst (λ (s : Scope). ShowsColumns s c.args.view.now c.view_columns.result) c.item_scope-scope.ensures c.view_columns.ensures
