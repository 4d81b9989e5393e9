-- What is written as an expression over the columns of a row: places stand for names (ISO 9075-2, 6.28, 6.39 and 8.1 to 8.5).
-- An aggregate is a column of its group's row: they stand behind the key, in the order in which they are written (10.9).
use Rattle.std.specs.Prelude.{ℕ, pos, nat_lt, Bool, if◌then◌else◌, List, [], ◌∷◌, ◌++◌, Some, None}
use Rattle.cq_values.specs.declared.value.Value.{Value}
use Rattle.cq_values.specs.declared.value.Value.TheVariants as values
use Rattle.cq_values.specs.Dates.{day_named}
use Rattle.cq_sql_language.specs.declared.written.AggregateFunction.{AggregateFunction}
use Rattle.cq_sql_language.specs.declared.written.AggregateFunction.TheVariants as functions
use Rattle.cq_sql_language.specs.Written.{Written, Choices, Number, Text, Date, Column, Extract, CountAll, Aggregate, Parens, Negative, Times, Plus, Minus, Compare, IsNull, Between, In, Like, Not, And, Or, NoChoice, Choice}
use Rattle.cq_model.specs.declared.query.Aggregate.{Aggregate as Shown}
use Rattle.cq_model.specs.declared.query.Aggregate.TheVariants as shown
use Rattle.cq_model.specs.Expr.{Expr, Cond}
use Rattle.cq_model.specs.Expr as placed
use Rattle.cq_model.specs.Width.{number_limit}
use Rattle.cq_binder_rules.specs.Places.{next_place, place_of}
use Rattle.cq_binder_rules.specs.Typing.{Scope, rows_in}

-- the day that a text names, and NULL where it names none
abbrev pub named_day : List ℕ → Value
named_day t = elim (day_named t) [ None ↦ values.Null | Some d ↦ values.Day d ]

-- a whole number, and NULL where it has more than 127 bits; the walk refuses such a number, as it does a text that names no day
abbrev pub written_number : ℕ → Value
written_number n = if nat_lt n number_limit then values.Number (pos n) else values.Null

-- an aggregate of an argument's values
abbrev pub aggregate_of : AggregateFunction → Expr → Shown
aggregate_of functions.Count e = shown.Count e
aggregate_of functions.CountDistinct e = shown.CountDistinct e
aggregate_of functions.Sum e = shown.Sum e
aggregate_of functions.Min e = shown.Min e
aggregate_of functions.Max e = shown.Max e

abbrev mutual
  -- the value that is written, behind these aggregates. For a condition, which is no value, NULL stands: the walk refuses it,
  -- so it is never reached
  pub placed_expr : Scope → List Shown → Written → Expr
  placed_expr s before (Number n) = placed.Literal (written_number n)
  placed_expr s before (Text t) = placed.Literal (values.Text t)
  placed_expr s before (Date t) = placed.Literal (named_day t)
  placed_expr s before (Column c) = placed.Column (place_of s c)
  placed_expr s before (Extract part a) = placed.Extract part (placed_expr s before a)
  placed_expr s before CountAll = placed.Column (next_place s before)
  placed_expr s before (Aggregate function a) = placed.Column (next_place s before)
  placed_expr s before (Parens a) = placed_expr s before a
  placed_expr s before (Negative a) = placed.Negate (placed_expr s before a)
  placed_expr s before (Times a b) = placed.Times (placed_expr s before a) (placed_expr s (with_aggregates s before a) b)
  placed_expr s before (Plus a b) = placed.Plus (placed_expr s before a) (placed_expr s (with_aggregates s before a) b)
  placed_expr s before (Minus a b) = placed.Plus (placed_expr s before a) (placed.Negate (placed_expr s (with_aggregates s before a) b))
  placed_expr s before w = placed.Literal values.Null

  -- these aggregates, and behind them those that stand in what is written. Their arguments are read in the rows
  pub with_aggregates : Scope → List Shown → Written → List Shown
  with_aggregates s before CountAll = before ++ shown.CountAll ∷ []
  with_aggregates s before (Aggregate function a) = before ++ aggregate_of function (placed_expr (rows_in s) [] a) ∷ []
  with_aggregates s before (Extract part a) = with_aggregates s before a
  with_aggregates s before (Parens a) = with_aggregates s before a
  with_aggregates s before (Negative a) = with_aggregates s before a
  with_aggregates s before (Times a b) = with_aggregates s (with_aggregates s before a) b
  with_aggregates s before (Plus a b) = with_aggregates s (with_aggregates s before a) b
  with_aggregates s before (Minus a b) = with_aggregates s (with_aggregates s before a) b
  with_aggregates s before (Compare c a b) = with_aggregates s (with_aggregates s before a) b
  with_aggregates s before (IsNull negated a) = with_aggregates s before a
  with_aggregates s before (Between negated a least greatest) =
      with_aggregates s (with_aggregates s (with_aggregates s before a) least) greatest
  with_aggregates s before (In negated a bs) = with_choices s (with_aggregates s before a) bs
  with_aggregates s before (Like negated a pattern) = with_aggregates s before a
  with_aggregates s before (Not a) = with_aggregates s before a
  with_aggregates s before (And a b) = with_aggregates s (with_aggregates s before a) b
  with_aggregates s before (Or a b) = with_aggregates s (with_aggregates s before a) b
  with_aggregates s before w = before

  -- and those of the list behind IN
  pub with_choices : Scope → List Shown → Choices → List Shown
  with_choices s before NoChoice = before
  with_choices s before (Choice b bs) = with_choices s (with_aggregates s before b) bs

-- the values of the list behind IN
abbrev pub placed_exprs : Scope → List Shown → Choices → List Expr
placed_exprs s before NoChoice = []
placed_exprs s before (Choice a bs) = placed_expr s before a ∷ placed_exprs s (with_aggregates s before a) bs

-- NOT in a test negates the whole test
abbrev pub turned : Bool → Cond → Cond
turned negated c = if negated then placed.Not c else c

-- the condition that is written, behind these aggregates. For a value, which is no condition, IS NULL stands: the walk
-- refuses it, so it is never reached
abbrev pub placed_cond : Scope → List Shown → Written → Cond
placed_cond s before (Parens a) = placed_cond s before a
placed_cond s before (Compare c a b) = placed.Compare c (placed_expr s before a) (placed_expr s (with_aggregates s before a) b)
placed_cond s before (IsNull negated a) = turned negated (placed.IsNull (placed_expr s before a))
placed_cond s before (Between negated a least greatest) =
    let low = with_aggregates s before a in
    turned negated (placed.Between (placed_expr s before a) (placed_expr s low least) (placed_expr s (with_aggregates s low least) greatest))
placed_cond s before (In negated a bs) =
    turned negated (placed.In (placed_expr s before a) (placed_exprs s (with_aggregates s before a) bs))
placed_cond s before (Like negated a pattern) = turned negated (placed.Like (placed_expr s before a) pattern)
placed_cond s before (Not a) = placed.Not (placed_cond s before a)
placed_cond s before (And a b) = placed.And (placed_cond s before a) (placed_cond s (with_aggregates s before a) b)
placed_cond s before (Or a b) = placed.Or (placed_cond s before a) (placed_cond s (with_aggregates s before a) b)
placed_cond s before w = placed.IsNull (placed_expr s before w)
