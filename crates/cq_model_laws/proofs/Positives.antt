-- Over bags, with no negative row, a query means a bag.
use Rattle.std.proofs.Common.{ℕ, pos, ◌≤ℤ◌, List, [], ◌∷◌, map, Option, Some, None, sym, subst, arith}
use Rattle.std.proofs.lemmas.Int.{ints}
use Rattle.cq_values.specs.Value.{Row}
use Rattle.cq_model_bags.specs.Bag.{Weighted, IsBag, once_each, joined, distinct_rows}
use Rattle.cq_model_bags.proofs.Totals.{by_test}
use Rattle.cq_model_bags.proofs.Listings.{weight_of-once_each}
use Rattle.cq_model_bags.proofs.Positives.{filtered-bag, projected-bag, joined-bag}
use Rattle.cq_model.specs.declared.query.Aggregate.{Aggregate}
use Rattle.cq_model.specs.declared.query.Join.{Join}
use Rattle.cq_model.specs.declared.query.Query.{Query}
use Rattle.cq_model.specs.declared.query.Shape.{Shape}
use Rattle.cq_model.specs.declared.query.Shape.TheVariants.{Plain, Grouped}
use Rattle.cq_model.specs.declared.query.Source.{Source}
use Rattle.cq_model.specs.Group.{grouped, group_row, rows_of_key, keys_of}
use Rattle.cq_model.specs.Meaning.{Tables, meets, chain, keeps, joined_rows, items_of, shaped, shown, meaning}

-- rows that stand once each are a bag
pub once_each-bag : (rows : List Row) → IsBag (once_each rows)
once_each-bag rows = record { at = λ r. subst (λ n. pos 0 ≤ℤ n) (sym (weight_of-once_each rows r)) (omega (arith, ints)) }

-- a chain over bags is a bag
chain-bag : (tables : Tables) → ((source : Source) → IsBag (tables source)) → (xs : Weighted) → IsBag xs → (js : List Join) → IsBag (chain tables xs js)
chain-bag tables b xs c [] = c
chain-bag tables b xs c (j ∷ js) = chain-bag tables b (joined (meets j.on) xs (tables j.source)) (joined-bag (meets j.on) xs (tables j.source) c (b j.source)) js

-- the joined rows over bags are a bag
pub joined_rows-bag : (q : Query) (tables : Tables) → ((source : Source) → IsBag (tables source)) → IsBag (joined_rows q tables)
joined_rows-bag q tables b = filtered-bag (keeps q.filter) (chain tables (tables q.first) q.joins) (chain-bag tables b (tables q.first) (b q.first) q.joins)

-- groups are a bag
grouped-bag : (columns : Option (List ℕ)) (aggregates : List Aggregate) (xs : Weighted) → IsBag (grouped columns aggregates xs)
grouped-bag None aggregates xs = once_each-bag (group_row aggregates [] xs ∷ [])
grouped-bag (Some columns) aggregates xs = once_each-bag (map (λ k. group_row aggregates k (rows_of_key columns k xs)) (keys_of columns xs))

-- and so are those that HAVING keeps
shaped-bag : (s : Shape) (xs : Weighted) → IsBag xs → IsBag (shaped s xs)
shaped-bag Plain xs b = b
shaped-bag (Grouped keys aggregates having) xs b = filtered-bag (keeps having) (grouped keys aggregates xs) (grouped-bag keys aggregates xs)

-- so a query's bag is one
pub meaning-bag : (q : Query) (tables : Tables) → ((source : Source) → IsBag (tables source)) → IsBag (meaning q tables)
meaning-bag q tables b =
    let rows = joined_rows q tables in
    let whole = projected-bag (items_of q.items) (shaped q.shape rows) (shaped-bag q.shape rows (joined_rows-bag q tables b)) in
    by_test q.distinct
    (λ d. rw d (once_each-bag (distinct_rows (shown q rows))))
    (λ d. rw d whole)
