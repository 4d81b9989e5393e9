-- Expressions as trees of what is written, whose chains group to the left.
use Rattle.std.specs.Prelude.{ℕ, Bool, List, [], ◌∷◌, fold}
use Rattle.cq_values.specs.declared.day_part.DayPart.{DayPart}
use Rattle.cq_values.specs.declared.comparison.Comparison.{Comparison}
use Rattle.cq_sql_language.specs.declared.written.AggregateFunction.{AggregateFunction}
use Rattle.cq_sql_language.specs.declared.written.ColumnName.{ColumnName}
use Rattle.cq_sql_language.specs.declared.written.Sign.{Sign}
use Rattle.cq_sql_language.specs.declared.written.Sign.TheVariants as signs
use Rattle.cq_sql_language.specs.declared.written.ExprNode.{ExprNode}
use Rattle.cq_sql_language.specs.declared.written.ExprNode.TheOpen as node
use Rattle.cq_sql_language.specs.declared.written.ExprNode.TheFolds.{fold-ExprNode}

mutual
  -- an expression, as a value or as a condition; a test that is true has NOT in it
  pub data Written : Type 0 where
    Number : ℕ → Written
    Text : List ℕ → Written
    Date : List ℕ → Written
    Null : Written
    Column : ColumnName → Written
    Extract : DayPart → Written → Written
    CountAll : Written
    Aggregate : AggregateFunction → Written → Written
    Parens : Written → Written
    Negative : Written → Written
    Times : Written → Written → Written
    Plus : Written → Written → Written
    Minus : Written → Written → Written
    Compare : Comparison → Written → Written → Written
    IsNull : Bool → Written → Written
    Between : Bool → Written → Written → Written → Written
    In : Bool → Written → Choices → Written
    Like : Bool → Written → List ℕ → Written
    Not : Written → Written
    And : Written → Written → Written
    Or : Written → Written → Written

  -- the list behind IN
  pub data Choices : Type 0 where
    NoChoice : Choices
    Choice : Written → Choices → Choices

-- a list of expressions as the list behind IN
abbrev pub choices : List Written → Choices
choices [] = NoChoice
choices (w ∷ ws) = Choice w (choices ws)

-- one more term of a sum
abbrev pub signed : Sign → Written → Written → Written
signed signs.Plus a b = Plus a b
signed signs.Minus a b = Minus a b

-- a chain of terms from the left
abbrev pub terms : Written → List Sign → List Written → Written
terms first [] ws = first
terms first ss [] = first
terms first (s ∷ ss) (w ∷ ws) = terms (signed s first w) ss ws

-- one node of an expression, with what its parts stand for
abbrev pub written_step : node.ExprNode-F Written → Written
written_step (node.Number n) = Number n
written_step (node.Text t) = Text t
written_step (node.Date t) = Date t
written_step node.Null = Null
written_step (node.Column c) = Column c
written_step (node.Extract part e) = Extract part e.value
written_step node.CountAll = CountAll
written_step (node.Aggregate function e) = Aggregate function e.value
written_step (node.Parens e) = Parens e.value
written_step (node.Negative e) = Negative e.value
written_step (node.Product e es) = fold Times e.value es.items
written_step (node.Sum e ss es) = terms e.value ss.items es.items
written_step (node.Compare c a b) = Compare c a.value b.value
written_step (node.IsNull negated e) = IsNull negated e.value
written_step (node.Between negated e a b) = Between negated e.value a.value b.value
written_step (node.In negated e es) = In negated e.value (choices es.items)
written_step (node.Like negated e pattern) = Like negated e.value pattern
written_step (node.Not e) = Not e.value
written_step (node.And e es) = fold And e.value es.items
written_step (node.Or e es) = fold Or e.value es.items

-- the tree that a node stands for
abbrev pub written : ExprNode → Written
written = fold-ExprNode Written written_step
