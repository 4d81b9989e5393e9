-- What a group of rows gives (ISO 9075-2, 10.9), and how rows fall into groups (7.13).
use Rattle.std.specs.Prelude.{ℕ, ℤ, pos, neg_ℤ, ◌≤ℤ◌, ◌<ℤ◌, not, if◌then◌else◌, List, [], ◌∷◌, ◌++◌, map, filter, length, Option, Some, None}
use Rattle.std.specs.Ordering.{int_eq, is_gt}
use Rattle.std.specs.List.{AllByRecursion}
use Rattle.cq_values.specs.declared.value.Value.{Value}
use Rattle.cq_values.specs.declared.value.Value.TheVariants.{Null, Number}
use Rattle.cq_values.specs.Value.{Row, column}
use Rattle.cq_values.specs.Order.{value_cmp, same_row}
use Rattle.cq_model_bags.specs.Bag.{Weighted, total, filtered, projected, distinct_rows, once_each}
use Rattle.cq_model.specs.Expr.{Expr}
use Rattle.cq_model.specs.declared.query.Aggregate.{Aggregate}
use Rattle.cq_model.specs.declared.query.Aggregate.TheVariants.{CountAll, Count, CountDistinct, Sum, Min, Max}
use Rattle.cq_model.specs.Condition.{is_null}
use Rattle.cq_model.specs.Eval.{eval}
use Rattle.cq_model.specs.Width.{number_limit}

-- what a value adds to a sum: NULL adds nothing
abbrev pub addend : Value → ℤ
addend (Number n) = n
addend v = pos 0

-- how many rows there are, each as often as it occurs
abbrev pub count_all : Weighted → ℤ
count_all xs = total (λ r. pos 1) xs

-- how many rows have a value other than NULL
abbrev pub count_values : Expr → Weighted → ℤ
count_values e xs = total (λ r. if is_null (eval e r) then pos 0 else pos 1) xs

-- the exact total of the values, however large it is
abbrev pub sum_values : Expr → Weighted → ℤ
sum_values e xs = total (λ r. addend (eval e r)) xs

-- the values other than NULL that the rows have
abbrev pub values_of : Expr → Weighted → List Value
values_of e xs = filter (λ v. not (is_null v)) (map (eval e) (distinct_rows xs))

-- the one of two values that comes first in the order
abbrev pub lower : Value → Value → Value
lower v w = if is_gt (value_cmp v w) then w else v

-- the one of two values that comes last in the order
abbrev pub higher : Value → Value → Value
higher v w = if is_gt (value_cmp v w) then v else w

-- the bag of an argument's values, each as a row of one column
abbrev pub value_bag : Expr → Weighted → Weighted
value_bag e xs = projected (λ r. eval e r ∷ []) xs

-- the values of such a bag, each once, NULL left out
abbrev pub distinct_values : Weighted → List Value
distinct_values values = filter (λ v. not (is_null v)) (map (λ r. column r 0) (distinct_rows values))

-- how many different values other than NULL the rows have
abbrev pub count_distinct : Expr → Weighted → ℤ
count_distinct e xs = pos (length (distinct_values (value_bag e xs)))

-- the extreme of several values, and NULL where there is none
abbrev pub extreme : (Value → Value → Value) → List Value → Value
extreme best [] = Null
extreme best (v ∷ []) = v
extreme best (v ∷ w ∷ vs) = best v (extreme best (w ∷ vs))

-- an aggregate of a group: over no value COUNT is 0, and the others NULL
abbrev pub aggregate : Aggregate → Weighted → Value
aggregate CountAll xs = Number (count_all xs)
aggregate (Count e) xs = Number (count_values e xs)
aggregate (CountDistinct e) xs = Number (count_distinct e xs)
aggregate (Sum e) xs = if int_eq (count_values e xs) (pos 0) then Null else Number (sum_values e xs)
aggregate (Min e) xs = extreme lower (values_of e xs)
aggregate (Max e) xs = extreme higher (values_of e xs)

-- the extreme of a bag of values, NULL left out
abbrev pub extreme_of : (Value → Value → Value) → Weighted → Value
extreme_of best values = extreme best (distinct_values values)

-- the key of a row: its values in the columns of GROUP BY
abbrev pub key_of : List ℕ → Row → Row
key_of columns r = map (λ c. column r c) columns

-- the rows that have this key, where NULL keys are the same
abbrev pub rows_of_key : List ℕ → Row → Weighted → Weighted
rows_of_key columns k xs = filtered (λ r. same_row (key_of columns r) k) xs

-- a group's row: its key, and then its aggregates
abbrev pub group_row : List Aggregate → Row → Weighted → Row
group_row aggregates k xs = k ++ map (λ a. aggregate a xs) aggregates

-- the keys that occur, each of them once
abbrev pub keys_of : List ℕ → Weighted → List Row
keys_of columns xs = distinct_rows (projected (key_of columns) xs)

-- a row for each key that occurs, and without GROUP BY one row always
abbrev pub grouped : Option (List ℕ) → List Aggregate → Weighted → Weighted
grouped None aggregates xs = once_each (group_row aggregates [] xs ∷ [])
grouped (Some columns) aggregates xs = once_each (map (λ k. group_row aggregates k (rows_of_key columns k xs)) (keys_of columns xs))

-- a total that an answer can show: it fits 128 bits
pub record InRange (n : ℤ) : Type 0 where
  pub low : neg_ℤ (pos number_limit) ≤ℤ n
  pub high : n <ℤ pos number_limit

-- a SUM's total over these rows can be shown
abbrev pub SumInRange : Aggregate → Weighted → Type 0
SumInRange (Sum e) xs = InRange (sum_values e xs)
SumInRange a xs = Unit {0}

-- each SUM's total can be shown, in each group
abbrev pub SumsInRange : Option (List ℕ) → List Aggregate → Weighted → Type 0
SumsInRange None aggregates xs = AllByRecursion (λ a. SumInRange a xs) aggregates
SumsInRange (Some columns) aggregates xs =
    AllByRecursion (λ k. AllByRecursion (λ a. SumInRange a (rows_of_key columns k xs)) aggregates) (keys_of columns xs)
