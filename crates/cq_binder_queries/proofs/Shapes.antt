-- How the rows of a query become the rows that its items read.
use Rattle.std.proofs.Common.{◌≡◌, ℕ, Bool, true, false, List, [], ◌∷◌, Option, refl, sym, ap, ◌∙◌}
use Rattle.std.specs.Prelude.{◌||◌, if◌then◌else◌, option_map}
use Rattle.std.specs.List.{list_any}
use Rattle.cq_sql_language.specs.declared.statement.Select.{Select}
use Rattle.cq_sql_language.specs.declared.statement.SelectItem.{SelectItem}
use Rattle.cq_model.specs.declared.query.Aggregate.{Aggregate}
use Rattle.cq_model.specs.declared.query.Shape.{Shape}
use Rattle.cq_model.specs.declared.query.Shape.TheVariants.{Grouped, Plain}
use Rattle.cq_model.specs.Expr.{Cond}
use Rattle.cq_binder_rules.specs.Grouping.{has_aggregate, is_grouped, item_scope}
use Rattle.cq_binder_rules.specs.Headers.{shown_by}
use Rattle.cq_binder_rules.specs.Placed.{placed_cond}
use Rattle.cq_binder_rules.specs.Queries.{bound_group, bound_shape, grouped_shape, having_aggregates, item_aggregates}
use Rattle.cq_binder_rules.specs.Scopes.{in_groups, of_rows}
use Rattle.cq_binder_rules.specs.Typing.{Scope, ScopeColumn}
use Rattle.cq_binder_queries.specs.Grouping.{IsHaving}

-- an aggregate stands among the items where it stands among what they show
pub any_shown : (items : List SelectItem) → list_any (λ item. has_aggregate item.value) items ≡ list_any has_aggregate (shown_by items)
any_shown [] = refl
any_shown (item ∷ items) = ap (λ (b : Bool). has_aggregate item.value || b) (any_shown items)

module _ (q : Select) (columns : List ScopeColumn) where
  -- groups, whose items and HAVING read this
  abbrev shape_over : Scope → Shape
  shape_over s =
      let before = item_aggregates s q.items in
      Grouped (bound_group columns q.group) (having_aggregates s before q.having) (option_map (placed_cond s before) q.having)

  -- a grouped query has the groups that are made of its parts
  pub shape_of_groups : (keys : Option (List ℕ)) (before aggregates : List Aggregate) (having : Option Cond) → is_grouped q ≡ true
      → keys ≡ bound_group columns q.group → before ≡ item_aggregates (item_scope q columns) q.items → IsHaving (item_scope q columns) before aggregates q.having having
      → Grouped keys aggregates having ≡ bound_shape q columns
  shape_of_groups keys before aggregates having grouped is_keys is_before kept =
      let s = item_scope q columns in
      let own : s ≡ in_groups q.group columns = ap (λ (b : Bool). if b then in_groups q.group columns else of_rows columns) grouped in
      let shown = kept.aggregates ∙ ap (λ (a : List Aggregate). having_aggregates s a q.having) is_before in
      let condition = kept.is ∙ ap (λ (a : List Aggregate). option_map (placed_cond s a) q.having) is_before in
      let made : Grouped keys aggregates having ≡ shape_over s = λ k. Grouped (is_keys k) (shown k) (condition k) in
      made ∙ ap shape_over own ∙ sym (ap (λ (b : Bool). if b then grouped_shape q columns else Plain) grouped)

  -- any other shows the joined rows themselves
  pub shape_of_rows : is_grouped q ≡ false → Plain ≡ bound_shape q columns
  shape_of_rows plain = sym (ap (λ (b : Bool). if b then grouped_shape q columns else Plain) plain)
