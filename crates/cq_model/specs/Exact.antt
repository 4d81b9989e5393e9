-- Where the exact results of arithmetic fit 128 bits, in a row. What is written and what a column holds has been read already.
use Rattle.std.specs.Prelude.{List}
use Rattle.std.specs.List.{AllByRecursion}
use Rattle.cq_values.specs.declared.value.Value.{Value}
use Rattle.cq_values.specs.declared.value.Value.TheVariants.{Number}
use Rattle.cq_values.specs.Value.{Row}
use Rattle.cq_model.specs.Eval.{eval, negated, plus, times}
use Rattle.cq_model.specs.Expr.{Expr, Column, Literal, Negate, Plus, Times, Extract, Cond, Compare, IsNull, Between, In, Like, Not, And, Or}
use Rattle.cq_model.specs.Group.{InRange}

-- a number fits 128 bits, and so does what is no number
abbrev pub ValueInRange : Value → Type 0
ValueInRange (Number n) = InRange n
ValueInRange v = Unit {0}

-- each minus, sum and product on the way to the expression's value fits 128 bits
abbrev pub IsExactAt : Expr → Row → Type 0
IsExactAt (Column i) row = Unit {0}
IsExactAt (Literal v) row = Unit {0}
IsExactAt (Negate e) row = IsExactAt e row × ValueInRange (negated (eval e row))
IsExactAt (Plus a b) row = IsExactAt a row × IsExactAt b row × ValueInRange (plus (eval a row) (eval b row))
IsExactAt (Times a b) row = IsExactAt a row × IsExactAt b row × ValueInRange (times (eval a row) (eval b row))
IsExactAt (Extract part e) row = IsExactAt e row

-- the same for each of several expressions
abbrev pub AreExactAt : List Expr → Row → Type 0
AreExactAt es row = AllByRecursion (λ e. IsExactAt e row) es

-- and for each expression of a condition
abbrev pub AreExactIn : Cond → Row → Type 0
AreExactIn (Compare c a b) row = IsExactAt a row × IsExactAt b row
AreExactIn (IsNull e) row = IsExactAt e row
AreExactIn (Between e a b) row = IsExactAt e row × IsExactAt a row × IsExactAt b row
AreExactIn (In e es) row = IsExactAt e row × AreExactAt es row
AreExactIn (Like e pattern) row = IsExactAt e row
AreExactIn (Not c) row = AreExactIn c row
AreExactIn (And a b) row = AreExactIn a row × AreExactIn b row
AreExactIn (Or a b) row = AreExactIn a row × AreExactIn b row
