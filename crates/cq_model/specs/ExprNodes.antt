-- The nodes of expressions and conditions over places, each before its parts, and the trees that they make.
use Rattle.std.specs.Prelude.{ℕ, List, [], ◌∷◌}
use Rattle.cq_values.specs.declared.value.Value.{Value}
use Rattle.cq_values.specs.declared.value.Value.TheVariants.{Null}
use Rattle.cq_values.specs.declared.day_part.DayPart.{DayPart}
use Rattle.cq_values.specs.declared.comparison.Comparison.{Comparison}
use Rattle.cq_model.specs.Expr.{Expr, Cond}
use Rattle.cq_model.specs.Expr as tree

-- a node of an expression, of a list behind IN or of a condition, without its parts
pub data Node : Type 0 where
  Column : ℕ → Node
  Literal : Value → Node
  Negate : Node
  Plus : Node
  Times : Node
  Extract : DayPart → Node
  NoChoice : Node
  Choice : Node
  Compare : Comparison → Node
  IsNull : Node
  Between : Node
  In : Node
  Like : List ℕ → Node
  Not : Node
  And : Node
  Or : Node

-- the nodes of an expression, and others behind them
abbrev pub nodes : Expr → List Node → List Node
nodes (tree.Column i) rest = Column i ∷ rest
nodes (tree.Literal v) rest = Literal v ∷ rest
nodes (tree.Negate e) rest = Negate ∷ nodes e rest
nodes (tree.Plus a b) rest = Plus ∷ nodes a (nodes b rest)
nodes (tree.Times a b) rest = Times ∷ nodes a (nodes b rest)
nodes (tree.Extract part e) rest = Extract part ∷ nodes e rest

-- the nodes of a list behind IN, and others behind them
abbrev pub choice_nodes : List Expr → List Node → List Node
choice_nodes [] rest = NoChoice ∷ rest
choice_nodes (e ∷ es) rest = Choice ∷ nodes e (choice_nodes es rest)

-- the nodes of a condition, and others behind them
abbrev pub cond_nodes : Cond → List Node → List Node
cond_nodes (tree.Compare c a b) rest = Compare c ∷ nodes a (nodes b rest)
cond_nodes (tree.IsNull e) rest = IsNull ∷ nodes e rest
cond_nodes (tree.Between e a b) rest = Between ∷ nodes e (nodes a (nodes b rest))
cond_nodes (tree.In e es) rest = In ∷ nodes e (choice_nodes es rest)
cond_nodes (tree.Like e pattern) rest = Like pattern ∷ nodes e rest
cond_nodes (tree.Not c) rest = Not ∷ cond_nodes c rest
cond_nodes (tree.And a b) rest = And ∷ cond_nodes a (cond_nodes b rest)
cond_nodes (tree.Or a b) rest = Or ∷ cond_nodes a (cond_nodes b rest)

-- the expressions, lists and conditions that nodes make, the first of them first
pub record Made : Type 0 where
  exprs : List Expr
  lists : List (List Expr)
  conds : List Cond

abbrev pub with_expr : Expr → Made → Made
with_expr e made = record { exprs = e ∷ made.exprs; lists = made.lists; conds = made.conds }

abbrev pub with_list : List Expr → Made → Made
with_list es made = record { exprs = made.exprs; lists = es ∷ made.lists; conds = made.conds }

abbrev pub with_cond : Cond → Made → Made
with_cond c made = record { exprs = made.exprs; lists = made.lists; conds = c ∷ made.conds }

-- the first of the expressions, of the lists and of the conditions, and what is left without it
abbrev first_expr : List Expr → Expr
first_expr [] = tree.Literal Null
first_expr (e ∷ es) = e

abbrev first_list : List (List Expr) → List Expr
first_list [] = []
first_list (es ∷ lists) = es

abbrev first_cond : List Cond → Cond
first_cond [] = tree.IsNull (tree.Literal Null)
first_cond (c ∷ cs) = c

abbrev others : {A : Type 0} → List A → List A
others [] = []
others (x ∷ xs) = xs

abbrev less_expr : Made → Made
less_expr made = record { exprs = others made.exprs; lists = made.lists; conds = made.conds }

abbrev less_list : Made → Made
less_list made = record { exprs = made.exprs; lists = others made.lists; conds = made.conds }

abbrev less_cond : Made → Made
less_cond made = record { exprs = made.exprs; lists = made.lists; conds = others made.conds }

abbrev pub expr : Made → Expr
expr made = first_expr made.exprs

abbrev list : Made → List Expr
list made = first_list made.lists

abbrev pub cond : Made → Cond
cond made = first_cond made.conds

-- a node takes its parts from what stands behind it
abbrev put : Node → Made → Made
put (Column i) m = with_expr (tree.Column i) m
put (Literal v) m = with_expr (tree.Literal v) m
put Negate m = with_expr (tree.Negate (expr m)) (less_expr m)
put Plus m = with_expr (tree.Plus (expr m) (expr (less_expr m))) (less_expr (less_expr m))
put Times m = with_expr (tree.Times (expr m) (expr (less_expr m))) (less_expr (less_expr m))
put (Extract part) m = with_expr (tree.Extract part (expr m)) (less_expr m)
put NoChoice m = with_list [] m
put Choice m = with_list (expr m ∷ list m) (less_expr (less_list m))
put (Compare c) m = with_cond (tree.Compare c (expr m) (expr (less_expr m))) (less_expr (less_expr m))
put IsNull m = with_cond (tree.IsNull (expr m)) (less_expr m)
put Between m = with_cond (tree.Between (expr m) (expr (less_expr m)) (expr (less_expr (less_expr m)))) (less_expr (less_expr (less_expr m)))
put In m = with_cond (tree.In (expr m) (list m)) (less_expr (less_list m))
put (Like pattern) m = with_cond (tree.Like (expr m) pattern) (less_expr m)
put Not m = with_cond (tree.Not (cond m)) (less_cond m)
put And m = with_cond (tree.And (cond m) (cond (less_cond m))) (less_cond (less_cond m))
put Or m = with_cond (tree.Or (cond m) (cond (less_cond m))) (less_cond (less_cond m))

-- what nodes make, from the last of them on
abbrev pub made_by : List Node → Made
made_by [] = record { exprs = []; lists = []; conds = [] }
made_by (node ∷ rest) = put node (made_by rest)
