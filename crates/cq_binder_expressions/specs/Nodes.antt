-- Nodes with places for names, behind the aggregates before them.
use Rattle.std.specs.Prelude.{◌≡◌, ◌⊎◌, ◌<◌, Bool, Box, false, fold, length, List, map, true, Vec}
use Rattle.std.specs.Global.{Global}
use Rattle.cq_values.specs.declared.value.Value.TheVariants.{Null}
use Rattle.cq_sql_language.specs.declared.written.ExprNode.{ExprNode}
use Rattle.cq_sql_language.specs.declared.written.ExprNode.TheFolds.{fold-ExprNode}
use Rattle.cq_sql_language.specs.declared.written.ExprNode.TheOpen as node
use Rattle.cq_sql_language.specs.declared.written.Sign.{Sign}
use Rattle.cq_sql_language.specs.Written.{Written, written}
use Rattle.cq_model.specs.declared.expr.CondTree.{CondTree}
use Rattle.cq_model.specs.declared.expr.CondTree.TheViews as conditions
use Rattle.cq_model.specs.declared.expr.ExprTree.{ExprTree}
use Rattle.cq_model.specs.declared.expr.ExprTree.TheViews as values
use Rattle.cq_model.specs.declared.query.Aggregate.{Aggregate}
use Rattle.cq_model.specs.Expr.{Cond, Expr, IsNull, Literal}
use Rattle.cq_model.specs.Trees.{cond_of, expr_of}
use Rattle.cq_binder_rules.specs.Placed.{placed_cond, placed_expr, with_aggregates}
use Rattle.cq_binder_rules.specs.Typing.{Scope}
use Rattle.cq_binder_expressions.specs.Expressions.{IsValueBehind, scope_of}
use Rattle.cq_binder_expressions.specs.declared.scope.Scope.{Scope as Seen}
use Rattle.cq_binder_expressions.specs.declared.trees.Tree.{Tree}
use Rattle.cq_binder_expressions.specs.declared.trees.Tree.TheVariants.{Condition, Value}
use Rattle.cq_binder_expressions.specs.Terms.{each_placed, later_terms, with_terms}

-- the kinds of a node, each by the node alone
abbrev pub operation_step : node.ExprNode-F Bool → Bool
operation_step (node.Extract part e) = true
operation_step (node.Negative e) = true
operation_step (node.Product e es) = true
operation_step (node.Sum e ss es) = true
operation_step n = false

abbrev pub test_step : node.ExprNode-F Bool → Bool
test_step (node.Compare c a b) = true
test_step (node.IsNull negated e) = true
test_step (node.Between negated e a b) = true
test_step (node.In negated e es) = true
test_step (node.Like negated e pattern) = true
test_step n = false

abbrev pub connective_step : node.ExprNode-F Bool → Bool
connective_step (node.Not e) = true
connective_step (node.And e es) = true
connective_step (node.Or e es) = true
connective_step n = false

-- whether a node works a value out: EXTRACT, a negation, a product or a sum
abbrev pub is_operation : ExprNode → Bool
is_operation = fold-ExprNode Bool operation_step

-- whether a node tests values: a comparison, IS NULL, BETWEEN, IN or LIKE
abbrev pub is_test : ExprNode → Bool
is_test = fold-ExprNode Bool test_step

-- whether a node is made of conditions: NOT, AND or OR
abbrev pub is_connective : ExprNode → Bool
is_connective = fold-ExprNode Bool connective_step

-- the value of a tree; NULL stands for a condition
abbrev pub value_in : Tree → Expr
value_in (Value t) = expr_of t
value_in (Condition t) = Literal Null

-- the condition of a tree; IS NULL stands for a value
abbrev pub condition_in : Tree → Cond
condition_in (Value t) = IsNull (expr_of t)
condition_in (Condition t) = cond_of t

-- a tree is what is written, and its aggregates are put behind the others
pub record IsPlaced (s : Scope) (before : List Aggregate) (w : Written) (tree : Tree) (after : List Aggregate) : Type 0 where
  pub value : value_in tree ≡ placed_expr s before w
  pub condition : condition_in tree ≡ placed_cond s before w
  pub aggregates : after ≡ with_aggregates s before w

-- a tree is what a node says in a scope, and the node's aggregates are put behind the others
abbrev pub PlacesNode : Seen → List Aggregate → ExprNode → List Aggregate → Tree → Type 0
PlacesNode seen before node after tree = IsPlaced (scope_of seen) before (written node) tree after

-- an expression is the value of a node, whose aggregates are put behind the others
abbrev pub PlacesValue : Seen → List Aggregate → List Aggregate → ExprNode → Expr → Type 0
PlacesValue seen before after node e = IsValueBehind (scope_of seen) before after (written node) e

-- the aggregates that stand in these nodes, behind those before them
abbrev pub with_nodes : Scope → List Aggregate → List ExprNode → List Aggregate
with_nodes s before nodes = fold (with_aggregates s) before (map written nodes)

-- trees are what these nodes come to
pub record ArePlaced {T X : Type 0} (of : T → X) (put : Scope → List Aggregate → Written → X) (s : Scope) (before : List Aggregate) (nodes : List ExprNode) (trees : List T) (after : List Aggregate) : Type 0 where
  pub each : map of trees ≡ each_placed put s before (map written nodes)
  pub aggregates : after ≡ with_nodes s before nodes

-- trees are the values of these nodes
abbrev pub AreValues : Scope → List Aggregate → List ExprNode → List ExprTree → List Aggregate → Type 0
AreValues = ArePlaced expr_of placed_expr

-- trees are the conditions of these nodes
abbrev pub AreConditions : Scope → List Aggregate → List ExprNode → List CondTree → List Aggregate → Type 0
AreConditions = ArePlaced cond_of placed_cond

-- trees are the later terms of a sum
pub record AreTerms (s : Scope) (before : List Aggregate) (signs : List Sign) (nodes : List ExprNode) (trees : List ExprTree) (after : List Aggregate) : Type 0 where
  pub values : map expr_of trees ≡ later_terms s before signs (map written nodes)
  pub aggregates : after ≡ with_terms s before signs (map written nodes)

-- these are made of what the scope sees: values, conditions, and the later terms of a sum
abbrev pub MakesValues : Seen → List Aggregate → List ExprNode → List Aggregate → Vec ExprTree Global → Type 0
MakesValues seen before nodes after made = AreValues (scope_of seen) before nodes made.items after

abbrev pub MakesConditions : Seen → List Aggregate → List ExprNode → List Aggregate → Vec CondTree Global → Type 0
MakesConditions seen before nodes after made = AreConditions (scope_of seen) before nodes made.items after

abbrev pub MakesTerms : Seen → List Aggregate → List Sign → List ExprNode → List Aggregate → Vec ExprTree Global → Type 0
MakesTerms seen before signs nodes after made = AreTerms (scope_of seen) before signs nodes made.items after

-- ---- Chains
-- a chain of trees is its first one where no other follows, and else it has the first in a box and the others
abbrev pub MakesChain : {T : Type 0} → (Box T Global → Type 0) → (Box T Global → Vec T Global → Tree) → Tree → Vec T Global → Tree → Type 0
MakesChain {T = T} IsFirst made first rest tree =
    ((length rest.items ≡ 0) × (tree ≡ first)) ⊎ ((0 < length rest.items) × (head : Box T Global) × IsFirst head × (tree ≡ made head rest))

-- a box holds the value of a tree, or its condition
abbrev pub HasValue : Tree → Box ExprTree Global → Type 0
HasValue tree head = expr_of head.value ≡ value_in tree

abbrev pub HasCondition : Tree → Box CondTree Global → Type 0
HasCondition tree head = cond_of head.value ≡ condition_in tree

-- these chains are made: of factors, of terms, and of conditions
abbrev pub MakesProduct : Tree → Vec ExprTree Global → Tree → Type 0
MakesProduct first = MakesChain (HasValue first) (λ head rest. Value (values.Product head rest)) first

abbrev pub MakesSum : Tree → Vec ExprTree Global → Tree → Type 0
MakesSum first = MakesChain (HasValue first) (λ head rest. Value (values.Sum head rest)) first

abbrev pub MakesAnd : Tree → Vec CondTree Global → Tree → Type 0
MakesAnd first = MakesChain (HasCondition first) (λ head rest. Condition (conditions.And head rest)) first

abbrev pub MakesOr : Tree → Vec CondTree Global → Tree → Type 0
MakesOr first = MakesChain (HasCondition first) (λ head rest. Condition (conditions.Or head rest)) first
