use Rattle.std.proofs.Common.{Bool, List, ◌||◌, map, sym, ap, ◌∙◌}
use Rattle.std.specs.List.{list_any}
use Rattle.cq_model.specs.declared.query.Join.{Join}
use Rattle.cq_test_plain.specs.Named.{is_view}
use Rattle.cq_test_plain.proofs.Agreeing.{any_source}
use Rattle.cq_test_plain.proofs.answering.is_named.Goals as goal

pub returns-else-is_view : goal.returns-else-is_view
returns-else-is_view c =
    let first = sym c.is_view.ensures ∙ c.if-is_view.false in
    let joins = c.args.query.now.joins in
    c.is_joined.ensures ∙ ap (λ (js : List Join). list_any (λ join. is_view c.args.view join.source) js) c.as_slice.ensures ∙ any_source c.args.view joins
    ∙ ap (λ (b : Bool). b || list_any (is_view c.args.view) (map (λ join. join.source) joins)) (sym first)
