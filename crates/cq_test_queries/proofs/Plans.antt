-- Queries of the tests can be opened on the rows of their sources.
use Rattle.std.proofs.Common.{◌≡◌, ◌∷◌, [], ℕ, ◌+◌, List, Option, None, filter, length, subst, sym}
use Rattle.std.specs.List.{AllByRecursion}
use Rattle.cq_values.specs.Value.{Row}
use Rattle.cq_hash_groups.specs.Exact.{AreExactOver}
use Rattle.cq_model.specs.Exact.{AreExactAt, AreExactIn}
use Rattle.cq_model.specs.Expr.{Cond, Expr}
use Rattle.cq_model.specs.Meaning.{keeps}
use Rattle.cq_model.specs.Own.{in_place}
use Rattle.cq_model.specs.declared.query.Order.{Order}
use Rattle.cq_model.specs.declared.query.Query.{Query}
use Rattle.cq_model.specs.declared.query.Shape.{Shape}
use Rattle.cq_model.specs.declared.query.Shape.TheVariants.{Plain, Grouped}
use Rattle.cq_model_bags.proofs.Lists.{all-of}
use Rattle.cq_plan.specs.Chain.{joined_lists}
use Rattle.cq_plan.specs.Plan.{IsPlanOf}
use Rattle.cq_plan.specs.Planned.{AreAllOwn, CanAskEach, HaveColumns, below_of, widths_of}
use Rattle.cq_plan.specs.declared.plans.Plan.{Plan}
use Rattle.cq_plan.specs.declared.plans.PlannedSource.{PlannedSource}
use Rattle.cq_operators.specs.Exec.{CanOpen}
use Rattle.cq_operators_joins.specs.Linked.{IsExactBy}
use Rattle.cq_operators.specs.Selected.{CanSelect, CanShape}
use Rattle.cq_test_queries.specs.Opened.{HaveWidths, IsAlwaysExact, IsOpenTo}

-- ---- the rows of each source
-- they have the columns of the plan
have-columns : (ss : List PlannedSource) (widths : List ℕ) (sources : List (List Row)) → widths_of ss ≡ widths → HaveWidths widths sources → HaveColumns ss sources
have-columns [] [] [] wide have = tt
have-columns [] [] (rows ∷ others) wide have = absurd have
have-columns [] (w ∷ widths) sources wide have = absurd (cc wide)
have-columns (s ∷ ss) [] sources wide have = absurd (cc wide)
have-columns (s ∷ ss) (w ∷ widths) [] wide have = absurd have
have-columns (s ∷ ss) (w ∷ widths) (rows ∷ others) wide have =
    let head : s.wide ≡ w = cc wide in
    let tail : widths_of ss ≡ widths = cc wide in
    (subst (λ (n : ℕ). AllByRecursion (λ row. length row ≡ n) rows) (sym head) have.0, have-columns ss widths others tail have.1)

-- and are asked nothing
none-asked : (ss : List PlannedSource) (before : ℕ) (widths : List ℕ) (sources : List (List Row)) → widths_of ss ≡ widths → HaveWidths widths sources → AreAllOwn None before ss → CanAskEach ss sources
none-asked [] before [] [] wide have own = tt
none-asked [] before [] (rows ∷ others) wide have own = absurd have
none-asked [] before (w ∷ widths) sources wide have own = absurd (cc wide)
none-asked (s ∷ ss) before [] sources wide have own = absurd (cc wide)
none-asked (s ∷ ss) before (w ∷ widths) [] wide have own = absurd have
none-asked (s ∷ ss) before (w ∷ widths) (rows ∷ others) wide have own =
    let tail : widths_of ss ≡ widths = cc wide in (
      subst (λ (cs : List Cond). AllByRecursion (λ row. AllByRecursion (λ c. AreExactIn c (in_place s.before row)) cs) rows) (sym own.0.own) (all-of _ (λ row. tt) rows),
      none-asked ss (before + s.wide) widths others tail have.1 own.1,
    )

-- ---- the query
-- its shape and its items can be worked out on all rows
always-shaped : (shape : Shape) (items : List Expr) (rows : List Row) → IsAlwaysExact shape → ((row : Row) → AreExactAt items row) → CanShape shape items rows
always-shaped Plain items rows exact each = all-of (AreExactAt items) each rows
always-shaped (Grouped keys aggregates having) items rows exact each = (
  all-of (AreExactOver aggregates) exact.0 rows,
  λ counted. record { exact = all-of (IsExactBy having) exact.1 _; kept = all-of (AreExactAt items) each _ },
)

module _ (q : Query) (is_open : IsOpenTo q) where
  can-select : (rows : List Row) → CanSelect q rows
  can-select rows = record {
    exact = all-of (IsExactBy q.filter) is_open.filter rows;
    shape = always-shaped q.shape q.items (filter (keeps q.filter) rows) is_open.shape is_open.items;
  }

  -- a plan of it can be opened
  pub can-open : (asked : Order) (widths : List ℕ) (plan : Plan) → IsPlanOf q asked widths plan → (sources : List (List Row)) → HaveWidths widths sources → CanOpen plan sources
  can-open asked widths plan is sources have = record {
    whole = is.whole;
    wide = have-columns plan.sources.items widths sources is.wide have;
    own = none-asked plan.sources.items 0 widths sources is.wide have
        (subst (λ (c : Option Cond). AreAllOwn c 0 plan.sources.items) is_open.below (subst (λ (p : Query). AreAllOwn (below_of p) 0 plan.sources.items) is.query is.whole.own));
    can = subst (λ (p : Query). CanSelect p (joined_lists p.joins sources)) (sym is.query) (can-select (joined_lists q.joins sources));
  }
