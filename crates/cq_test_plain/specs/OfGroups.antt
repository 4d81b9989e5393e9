-- What is told of groups, and of the rows of one.
use Rattle.std.specs.Prelude.{ℕ, List, [], ◌∷◌, Option, filter, map, not}
use Rattle.std.specs.List.{AllByRecursion}
use Rattle.cq_values.specs.declared.value.Value.{Value}
use Rattle.cq_values.specs.Value.{Row, column}
use Rattle.cq_model_bags.specs.Bag.{Weighted, once_each}
use Rattle.cq_model.specs.declared.query.Aggregate.{Aggregate}
use Rattle.cq_model.specs.Condition.{is_null}
use Rattle.cq_model.specs.Eval.{eval}
use Rattle.cq_model.specs.Expr.{Expr}
use Rattle.cq_model.specs.Group.{SumInRange, SumsInRange, group_row, grouped, rows_of_key}

-- the values of an expression in the rows, one by one, without NULL
abbrev pub known_values : Expr → List Row → List Value
known_values e rows = filter (λ v. not (is_null v)) (map (eval e) rows)

-- the value of an expression in each row, as a row of one column
abbrev pub value_rows : Expr → List Row → List Row
value_rows e rows = map (λ r. eval e r ∷ []) rows

-- the first values of rows, one by one, without NULL
abbrev pub first_values : List Row → List Value
first_values rows = filter (λ v. not (is_null v)) (map (λ r. column r 0) rows)

-- the totals over the rows of a group can be shown
abbrev pub GroupInRange : List Aggregate → Weighted → Type 0
GroupInRange aggregates xs = AllByRecursion (λ a. SumInRange a xs) aggregates

-- the row of the group that has this key
abbrev pub row_of_key : List ℕ → List Aggregate → Row → List Row → Row
row_of_key columns aggregates key rows = group_row aggregates key (rows_of_key columns key (once_each rows))

-- the totals over the rows of this key can be shown
abbrev pub KeyInRange : List ℕ → List Aggregate → Row → List Row → Type 0
KeyInRange columns aggregates key rows = GroupInRange aggregates (rows_of_key columns key (once_each rows))

-- the groups of listed rows
abbrev pub groups_of : Option (List ℕ) → List Aggregate → List Row → Weighted
groups_of keys aggregates rows = grouped keys aggregates (once_each rows)

-- the totals in each group can be shown
abbrev pub GroupsInRange : Option (List ℕ) → List Aggregate → List Row → Type 0
GroupsInRange keys aggregates rows = SumsInRange keys aggregates (once_each rows)
