use Rattle.std.proofs.Common.{◌≡◌, ◌∷◌, [], ◌++◌, ◌+◌, true, replicate, sym, ap, ◌∙◌, rules}
use Rattle.cq_model.specs.Own.{names_only}
use Rattle.cq_model.specs.Sizes.{stored_size}
use Rattle.cq_views_state.proofs.Naming.{stored-columns}
use Rattle.cq_views_state.proofs.columns.stored_columns.Goals as goal

pub returns : goal.returns
returns c =
    let greatest = c.greatest_column.result in
    let sizes : c.push.new.self.items ≡ replicate greatest stored_size ++ stored_size ∷ [] = search rules in
    let named : names_only 0 (greatest + 1) c.args.expr.now ≡ true =
    ap (names_only 0 (greatest + 1)) (sym c.tree.ensures) ∙ c.greatest_column.ensures in
    stored-columns c.args.expr.now greatest c.push.new.self.items sizes named
