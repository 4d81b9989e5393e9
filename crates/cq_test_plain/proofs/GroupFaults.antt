-- What is wrong with a group is wrong with the rows.
use Rattle.std.proofs.Common.{◌≡◌, ℕ, ◌<◌, Bool, List, Some, length, get_or, sym, subst}
use Rattle.std.specs.List.{AllByRecursion, Any}
use Rattle.cq_values.specs.Value.{Row}
use Rattle.cq_values.specs.Order.{same_row}
use Rattle.cq_model_bags.specs.Bag.{Weighted, filtered}
use Rattle.cq_model.specs.declared.query.Aggregate.{Aggregate}
use Rattle.cq_model.specs.declared.query.Aggregate.TheVariants.{CountAll, Count, CountDistinct, Sum, Min, Max}
use Rattle.cq_model.specs.Group.{SumInRange, SumsInRange, key_of, keys_of, rows_of_key}
use Rattle.cq_test_plain.specs.Wide.{AtSomeRow, IsWideAt, IsWideOver}
use Rattle.cq_test_plain.proofs.Exits.{any_more}
use Rattle.cq_model_bags.proofs.Lists.{all-at}
use Rattle.cq_model_bags.proofs.Positives.{kept-there}

at_passing : (P : Row → Type 0) (keep : Row → Bool) (xs : Weighted) → AtSomeRow P (filtered keep xs) → AtSomeRow P xs
at_passing P keep xs h = (h.0, kept-there keep xs h.0 h.1, h.2)

-- an aggregate that is too wide over some rows is so over all
wide_over_passing : (keep : Row → Bool) (xs : Weighted) (a : Aggregate) → IsWideOver (filtered keep xs) a → IsWideOver xs a
wide_over_passing keep xs CountAll h = h
wide_over_passing keep xs (Count e) h = at_passing (IsWideAt e) keep xs h
wide_over_passing keep xs (CountDistinct e) h = at_passing (IsWideAt e) keep xs h
wide_over_passing keep xs (Sum e) h = at_passing (IsWideAt e) keep xs h
wide_over_passing keep xs (Min e) h = at_passing (IsWideAt e) keep xs h
wide_over_passing keep xs (Max e) h = at_passing (IsWideAt e) keep xs h

-- so is the query where a group is
pub group_wide : (columns : List ℕ) (aggregates : List Aggregate) (key : Row) (xs : Weighted) → Any (IsWideOver (rows_of_key columns key xs)) aggregates → Any (IsWideOver xs) aggregates
group_wide columns aggregates key xs h = any_more (wide_over_passing (λ r. same_row (key_of columns r) key) xs) aggregates h

-- totals that cannot be shown in one group are not all in range
pub group_outside : (columns : List ℕ) (aggregates : List Aggregate) (key : Row) (xs : Weighted) (keys : List Row) (i : ℕ) → keys ≡ keys_of columns xs → i < length keys → key ≡ get_or keys i key
    → (AllByRecursion (λ a. SumInRange a (rows_of_key columns key xs)) aggregates → ⊥) → SumsInRange (Some columns) aggregates xs → ⊥
group_outside columns aggregates key xs keys i are h is outside all =
    let P : Row → Type 0 = λ k. AllByRecursion (λ a. SumInRange a (rows_of_key columns k xs)) aggregates in
    outside (subst P (sym is) (all-at P keys i key h (subst (AllByRecursion P) (sym are) all)))
