use Rattle.std.proofs.Common.{◌≡◌, ℕ, Bool, List, [], ◌∷◌, ◌||◌, map, refl, sym, ap, ◌∙◌}
use Rattle.std.specs.List.{list_any}
use Rattle.cq_model.specs.declared.query.Join.{Join}
use Rattle.cq_model.specs.Views.{is_table}
use Rattle.cq_views_state.proofs.query.reads.Goals as goal

-- the joins that a table is a source of, by their sources
any-source : (n : ℕ) (joins : List Join)
    → list_any (λ join. is_table n join.source) joins ≡ list_any (is_table n) (map (λ join. join.source) joins)
any-source n [] = refl
any-source n (j ∷ joins) = ap (λ (b : Bool). is_table n j.source || b) (any-source n joins)

pub returns-else-is_table : goal.returns-else-is_table
returns-else-is_table c =
    let first = sym c.is_table.ensures ∙ c.if-is_table.false in
    let joins = c.args.query.now.joins in
    c.is_joined.ensures ∙ ap (λ (js : List Join). list_any (λ join. is_table c.args.table join.source) js) c.as_slice.ensures
    ∙ any-source c.args.table joins
    ∙ ap (λ (b : Bool). b || list_any (is_table c.args.table) (map (λ join. join.source) joins)) (sym first)
