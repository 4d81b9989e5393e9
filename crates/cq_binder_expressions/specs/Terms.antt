-- What is written one thing behind another, each behind the aggregates of those before it.
use Rattle.std.specs.Prelude.{List, [], ◌∷◌}
use Rattle.cq_sql_language.specs.declared.written.Sign.{Sign}
use Rattle.cq_sql_language.specs.declared.written.Sign.TheVariants as signs
use Rattle.cq_sql_language.specs.Written.{Written}
use Rattle.cq_model.specs.declared.query.Aggregate.{Aggregate}
use Rattle.cq_model.specs.Expr.{Expr, Negate}
use Rattle.cq_binder_rules.specs.Placed.{placed_expr, with_aggregates}
use Rattle.cq_binder_rules.specs.Typing.{Scope}

-- a term behind a minus is negated
abbrev pub signed_term : Sign → Expr → Expr
signed_term signs.Plus e = e
signed_term signs.Minus e = Negate e

-- the terms behind the first, as long as there are signs
abbrev pub later_terms : Scope → List Aggregate → List Sign → List Written → List Expr
later_terms s before [] ws = []
later_terms s before ss [] = []
later_terms s before (sign ∷ ss) (w ∷ ws) = signed_term sign (placed_expr s before w) ∷ later_terms s (with_aggregates s before w) ss ws

-- the aggregates that stand in these terms, behind those before them
abbrev pub with_terms : Scope → List Aggregate → List Sign → List Written → List Aggregate
with_terms s before [] ws = before
with_terms s before ss [] = before
with_terms s before (sign ∷ ss) (w ∷ ws) = with_terms s (with_aggregates s before w) ss ws

-- what each of these comes to
abbrev pub each_placed : {X : Type 0} → (Scope → List Aggregate → Written → X) → Scope → List Aggregate → List Written → List X
each_placed put s before [] = []
each_placed put s before (w ∷ ws) = put s before w ∷ each_placed put s (with_aggregates s before w) ws
