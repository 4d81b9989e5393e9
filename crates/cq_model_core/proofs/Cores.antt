-- The test of cores tells exactly the queries that have one.
use Rattle.std.proofs.Common.{◌≡◌, true, Some, None, refl, ap₂}
use Rattle.std.specs.Prelude.{◌&&◌, nat_eq}
use Rattle.std.specs.Cmp.Lexicographic.{pointwise, pointwise_decides}
use Rattle.std.specs.Option.{option_eq}
use Rattle.cq_model.specs.Sources.{same_source}
use Rattle.cq_model.specs.declared.query.Query.{Query}
use Rattle.cq_model.specs.declared.query.Shape.{Shape}
use Rattle.cq_model.specs.declared.query.Shape.TheVariants.{Plain, Grouped}
use Rattle.cq_views_model.specs.Query.{HasNoHaving}
use Rattle.cq_model_core.specs.Core.{HasCoreOf, has_core, same_join, same_shape}
use Rattle.cq_model_core.specs.Laws.{CoreIsTold}
use Rattle.cq_model_core.specs.Same.{same_aggregate, same_cond, same_expr}
use Rattle.cq_model_core.proofs.Tests.{aggregate_told, both_true, expr_told, filter_told, join_told, keys_told, source_is, source_itself}

-- shapes that pass are one, and have no HAVING
shape_is : (s t : Shape) → same_shape s t ≡ true → (s ≡ t) × HasNoHaving s
shape_is Plain Plain h = (refl, tt)
shape_is (Grouped keys aggregates None) (Grouped others bs None) h =
    let p = both_true (option_eq (pointwise nat_eq) keys others) (pointwise same_aggregate aggregates bs) h in
    (λ i. Grouped ((keys_told keys others).0 p.0 i) ((pointwise_decides aggregate_told aggregates bs).0 p.1 i) None, refl)
shape_is s t h = absurd (cc h)

-- and a shape without HAVING passes with itself
shape_itself : (s : Shape) → HasNoHaving s → same_shape s s ≡ true
shape_itself Plain none = refl
shape_itself (Grouped keys aggregates None) none =
    ap₂ (λ s t. s && t) ((keys_told keys keys).1 refl) ((pointwise_decides aggregate_told aggregates aggregates).1 refl)
shape_itself (Grouped keys aggregates (Some c)) none = absurd (cc none)

-- a query that passes has the core
core_is : (q other : Query) → has_core q other ≡ true → HasCoreOf q other
core_is q other h =
    let first = both_true (same_source q.first other.first) _ h in
    let joins = both_true (pointwise same_join q.joins other.joins) _ first.1 in
    let where_is = both_true (option_eq same_cond q.filter other.filter) _ joins.1 in
    let shape = both_true (same_shape q.shape other.shape) (pointwise same_expr q.items other.items) where_is.1 in
    let shaped = shape_is q.shape other.shape shape.0 in
    record {
      first = source_is q.first other.first first.0;
      joins = (pointwise_decides join_told q.joins other.joins).0 joins.0;
      filter = (filter_told q.filter other.filter).0 where_is.0;
      shape = shaped.0;
      groups = shaped.1;
      items = (pointwise_decides expr_told q.items other.items).0 shape.1;
    }

-- and one that has the core passes
core_passes : (q other : Query) → HasCoreOf q other → has_core q other ≡ true
core_passes q other core =
    rw (← core.first, ← core.joins, ← core.filter, ← core.shape, ← core.items)
    (ap₂ (λ s t. s && t) (source_itself q.first)
    (ap₂ (λ s t. s && t) ((pointwise_decides join_told q.joins q.joins).1 refl)
    (ap₂ (λ s t. s && t) ((filter_told q.filter q.filter).1 refl)
    (ap₂ (λ s t. s && t) (shape_itself q.shape core.groups) ((pointwise_decides expr_told q.items q.items).1 refl)))))

pub core-told : CoreIsTold
core-told q other = (core_is q other, core_passes q other)
