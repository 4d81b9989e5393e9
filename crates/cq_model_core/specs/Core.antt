-- The core of a query: what it means but for HAVING, DISTINCT, ORDER BY and LIMIT (docs/LANGUAGE.md, Views).
use Rattle.std.specs.Prelude.{◌≡◌, ◌==◌, ◌&&◌, Bool, false, true, nat_eq, None}
use Rattle.std.specs.Cmp.Lexicographic.{pointwise}
use Rattle.std.specs.Option.{option_eq}
use Rattle.cq_model.specs.Sources.{same_source}
use Rattle.cq_model.specs.declared.query.Equality.{Equality}
use Rattle.cq_model.specs.declared.query.Join.{Join}
use Rattle.cq_model.specs.declared.query.Query.{Query}
use Rattle.cq_model.specs.declared.query.Shape.{Shape}
use Rattle.cq_model.specs.declared.query.Shape.TheVariants.{Plain, Grouped}
use Rattle.cq_views_model.specs.Query.{HasNoHaving}
use Rattle.cq_model_core.specs.Same.{same_aggregate, same_cond, same_expr}

-- the query has no HAVING, and its sources, ON equalities, WHERE, GROUP BY and items are those of the other
pub record HasCoreOf (q other : Query) : Type 0 where
  pub first : q.first ≡ other.first
  pub joins : q.joins ≡ other.joins
  pub filter : q.filter ≡ other.filter
  pub shape : q.shape ≡ other.shape
  pub groups : HasNoHaving q.shape
  pub items : q.items ≡ other.items

-- ---- whether it has
-- two equalities of ON
abbrev pub same_equality : Equality → Equality → Bool
same_equality e f = e.left == f.left && e.right == f.right

-- two sources that are joined
abbrev pub same_join : Join → Join → Bool
same_join j k = same_source j.source k.source && pointwise same_equality j.on k.on

-- two shapes without HAVING
abbrev pub same_shape : Shape → Shape → Bool
same_shape Plain Plain = true
same_shape (Grouped keys aggregates None) (Grouped others bs None) = option_eq (pointwise nat_eq) keys others && pointwise same_aggregate aggregates bs
same_shape a b = false

-- whether a query has the core of another
abbrev pub has_core : Query → Query → Bool
has_core q other =
    same_source q.first other.first && (pointwise same_join q.joins other.joins && (option_eq same_cond q.filter other.filter
    && (same_shape q.shape other.shape && pointwise same_expr q.items other.items)))
