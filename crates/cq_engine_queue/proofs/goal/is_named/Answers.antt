use Rattle.std.proofs.Common.{◌≡◌, ℕ, Bool, List, [], ◌∷◌, ◌||◌, map, refl, sym, ap, ◌∙◌}
use Rattle.std.specs.List.{list_any}
use Rattle.cq_model.specs.declared.query.Join.{Join}
use Rattle.cq_model.specs.Views.{is_view}
use Rattle.cq_engine_queue.proofs.goal.is_named.Goals as goal

-- the joins that a view is a source of, by their sources
any-source : (n : ℕ) (joins : List Join)
    → list_any (λ join. is_view n join.source) joins ≡ list_any (is_view n) (map (λ join. join.source) joins)
any-source n [] = refl
any-source n (j ∷ joins) = ap (λ (b : Bool). is_view n j.source || b) (any-source n joins)

pub returns-else-is_view : goal.returns-else-is_view
returns-else-is_view c =
    let first = sym c.is_view.ensures ∙ c.if-is_view.false in
    let joins = c.args.query.now.joins in
    c.is_joined.ensures ∙ ap (λ (js : List Join). list_any (λ join. is_view c.args.place join.source) js) c.as_slice.ensures
    ∙ any-source c.args.place joins
    ∙ ap (λ (b : Bool). b || list_any (is_view c.args.place) (map (λ join. join.source) joins)) (sym first)
