use Rattle.std.proofs.Common.{◌∙◌, ap, sym}
use Rattle.std.specs.Prelude.{Option}
use Rattle.std.specs.List.{range_with_len}
use Rattle.cq_model.specs.Expr.{Cond}
use Rattle.cq_model.specs.Meaning.{keeps}
use Rattle.cq_table_columns.specs.Stored.{front_rows}
use Rattle.cq_operators_conditions.specs.Kept.{places_where}
use Rattle.cq_operators_conditions.proofs.PlacesWhere.{all-places}
use Rattle.cq_operators_conditions.proofs.keeping.kept_places.Goals as goal

pub returns-in-None : goal.returns-in-None
returns-in-None c =
    let rows = front_rows c.args.front.now in
    c.set_all.ensures ∙ ap (range_with_len 0) c.len.ensures ∙ all-places rows ∙ sym (ap (λ (o : Option Cond). places_where 0 (keeps o) rows) c.in-None.is)
