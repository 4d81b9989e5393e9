-- Expressions and conditions with their columns at other places.
use Rattle.std.specs.Prelude.{ℕ, map}
use Rattle.cq_model.specs.Expr.{Expr, Column, Literal, Negate, Plus, Times, Extract, Cond, Compare, IsNull, Between, In, Like, Not, And, Or}

-- an expression with each column at its new place
abbrev pub renamed : (ℕ → ℕ) → Expr → Expr
renamed to (Column i) = Column (to i)
renamed to (Literal v) = Literal v
renamed to (Negate e) = Negate (renamed to e)
renamed to (Plus a b) = Plus (renamed to a) (renamed to b)
renamed to (Times a b) = Times (renamed to a) (renamed to b)
renamed to (Extract part e) = Extract part (renamed to e)

-- and a condition
abbrev pub renamed_cond : (ℕ → ℕ) → Cond → Cond
renamed_cond to (Compare c a b) = Compare c (renamed to a) (renamed to b)
renamed_cond to (IsNull e) = IsNull (renamed to e)
renamed_cond to (Between e a b) = Between (renamed to e) (renamed to a) (renamed to b)
renamed_cond to (In e es) = In (renamed to e) (map (renamed to) es)
renamed_cond to (Like e pattern) = Like (renamed to e) pattern
renamed_cond to (Not c) = Not (renamed_cond to c)
renamed_cond to (And a b) = And (renamed_cond to a) (renamed_cond to b)
renamed_cond to (Or a b) = Or (renamed_cond to a) (renamed_cond to b)
