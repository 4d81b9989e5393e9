-- Expressions whose names become places.
use Rattle.std.specs.Prelude.{◌≡◌, ◌<◌, ◌≤◌, ◌+◌, ◌++◌, ℕ, true, length, List, Option, Some, None, IsSome, option_map, slice_get, Result, Ok, MatchResult}
use Rattle.std.specs.List.{AllByRecursion}
use Rattle.cq_model.specs.Width.{number_limit, widest_in, width}
use Rattle.cq_sql_language.specs.Written.{Written}
use Rattle.cq_binder_rules.specs.declared.fault.Fault.{Fault}
use Rattle.cq_binder_rules.specs.declared.typing.Typing.{Typing}
use Rattle.cq_binder_rules.specs.Checks.{MayRefuse}
use Rattle.cq_model.specs.declared.query.Aggregate.{Aggregate}
use Rattle.cq_model.specs.Sizes.{IsArgumentNarrow, aggregate_size}
use Rattle.cq_binder_rules.specs.Placed.{placed_cond, placed_expr, with_aggregates}
use Rattle.cq_binder_rules.specs.Places.{key_length, read_place}
use Rattle.cq_model.specs.Expr.{Cond, Expr}
use Rattle.cq_binder_rules.specs.Typing.{Scope, condition_fault, kept_fault, may_read, rows_in, size_at, typed, value_fault}
use Rattle.cq_binder_expressions.specs.declared.scope.Scope.{Scope as Seen}

-- the columns, and the places of GROUP BY, as lists
abbrev pub scope_of : Seen → Scope
scope_of s = record { columns = s.columns.now; grouped = option_map (λ group. group.now) s.grouped }

-- an expression that is asked for as a whole is put in places where it has no fault, and else refused with its first
abbrev pub Places : {X : Type 0} → (Scope → Written → X) → (Result Typing Fault → Option Fault) → Scope → Written → Result X Fault → Type 0
Places put fault s w result = MatchResult result (λ x. (fault (typed s w) ≡ None) × (x ≡ put s w)) (MayRefuse (fault (typed s w)))

-- one that stands behind aggregates puts its own behind them
pub record IsBehind {X : Type 0} (put : Scope → List Aggregate → Written → X) (s : Scope) (before after : List Aggregate) (w : Written) (x : X) : Type 0 where
  pub is : x ≡ put s before w
  pub aggregates : after ≡ with_aggregates s before w

-- an expression of groups is put in places behind aggregates where it has no fault, and else refused with its first
abbrev pub PlacesBehind : {X : Type 0} → (Scope → List Aggregate → Written → X) → (Result Typing Fault → Option Fault) → Scope → List Aggregate → List Aggregate → Written → Result X Fault → Type 0
PlacesBehind put fault s before after w result =
    MatchResult result (λ x. (fault (typed s w) ≡ None) × IsBehind put s before after w x) (MayRefuse (fault (typed s w)))

-- the same of a condition, of an item, and of a column that a view keeps
abbrev pub PlacesCondition : Scope → List Aggregate → List Aggregate → Written → Result Cond Fault → Type 0
PlacesCondition s before after w result = PlacesBehind placed_cond condition_fault s before after w result

abbrev pub PlacesItem : Scope → List Aggregate → List Aggregate → Written → Result Expr Fault → Type 0
PlacesItem s before after w result = PlacesBehind placed_expr value_fault s before after w result

abbrev pub PlacesKept : Scope → List Aggregate → List Aggregate → Written → Result Expr Fault → Type 0
PlacesKept s before after w result = PlacesBehind placed_expr kept_fault s before after w result

-- a value with places, whose aggregates stand behind those before it
abbrev pub IsValueBehind : Scope → List Aggregate → List Aggregate → Written → Expr → Type 0
IsValueBehind s before after w e = IsBehind placed_expr s before after w e

-- a column that may be read is no larger than its source promises
abbrev pub KeepSizes : Scope → (ℕ → ℕ) → Type 0
KeepSizes s sizes =
    (place : ℕ) → place < length s.columns → may_read s.grouped place ≡ true → sizes (read_place s.grouped place) ≤ size_at s.columns place

-- each of these aggregates is no larger than it can be over the rows, where it stands in its group's row; over rows there is
-- none
abbrev pub KeepShown : Scope → List Aggregate → (ℕ → ℕ) → Type 0
KeepShown s shown sizes =
    IsSome s.grouped → (i : ℕ) (a : Aggregate) → slice_get shown i ≡ Some a → sizes (key_length s + i) ≤ aggregate_size (size_at s.columns) a

-- over columns of these sizes nothing that is written or worked out is too wide, and a value is no larger than its typing says
pub record IsNarrow (s : Scope) (before : List Aggregate) (w : Written) (t : Typing) (sizes : ℕ → ℕ) : Type 0 where
  pub value : (width (placed_expr s before w) sizes).widest < number_limit
  pub size : (width (placed_expr s before w) sizes).size ≤ t.size
  pub condition : widest_in (placed_cond s before w) sizes < number_limit

-- what has no fault is narrow wherever the columns and the aggregates keep their sizes
abbrev pub TypedIsNarrow : Type 0
TypedIsNarrow =
    (s : Scope) (before more : List Aggregate) (w : Written) (t : Typing) (sizes : ℕ → ℕ)
    → typed s w ≡ Ok t → KeepSizes s sizes → KeepShown s (with_aggregates s before w ++ more) sizes → IsNarrow s before w t sizes

-- so are the arguments of its aggregates, over rows whose columns keep their sizes
abbrev pub ArgumentsAreNarrow : Type 0
ArgumentsAreNarrow =
    (s : Scope) (before : List Aggregate) (w : Written) (t : Typing) (sizes : ℕ → ℕ)
    → typed s w ≡ Ok t → KeepSizes (rows_in s) sizes → AllByRecursion (IsArgumentNarrow sizes) before
    → AllByRecursion (IsArgumentNarrow sizes) (with_aggregates s before w)
