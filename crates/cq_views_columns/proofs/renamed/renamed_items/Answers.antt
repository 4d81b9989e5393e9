use Rattle.std.proofs.Common.{◌∙◌, sym, ap}
use Rattle.std.proofs.lemmas.Result.{IfOk-weaker}
use Rattle.cq_model.specs.declared.query.Shape.{Shape}
use Rattle.cq_model_terms.specs.Places.{place_in}
use Rattle.cq_views_columns.specs.Renamed.{renamed_items}
use Rattle.cq_model_terms.proofs.Trees.{same-exprs}
use Rattle.cq_views_columns.proofs.renamed.renamed_items.Goals as goal

pub returns-in-Grouped : goal.returns-in-Grouped
returns-in-Grouped c =
    let stay = ap (λ (shape : Shape). renamed_items (place_in c.args.places.now) shape c.args.items.now) c.in-Grouped.is in
    IfOk-weaker c.renamed_all-in-Grouped.result _ _ (λ es h. h ∙ same-exprs c.args.items.now ∙ sym stay) c.renamed_all-in-Grouped.ensures
