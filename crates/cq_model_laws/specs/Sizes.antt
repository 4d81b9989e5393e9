-- How large the numbers are in the rows of joined sources, and of a grouped query that counts and adds.
use Rattle.std.specs.Prelude.{◌≡◌, ℕ, pos, ◌<ℤ◌, ◌≤ℤ◌, List, [], ◌++◌, length, map, Option, unwrap_or}
use Rattle.std.specs.List.{AllByRecursion, flat_map}
use Rattle.cq_values.specs.Value.{Row}
use Rattle.cq_model_bags.specs.Bag.{IsBag, Weighted, weight_of}
use Rattle.cq_model.specs.declared.query.Aggregate.{Aggregate}
use Rattle.cq_model.specs.declared.query.Query.{Query}
use Rattle.cq_model.specs.declared.query.Source.{Source}
use Rattle.cq_model.specs.Group.{SumsInRange, count_all, grouped}
use Rattle.cq_model.specs.Meaning.{Tables, chain, joined_rows}
use Rattle.cq_model.specs.Sizes.{IsSized, aggregate_size, count_size}
use Rattle.cq_model.specs.Views.{sources_of}
use Rattle.cq_model.specs.Width.{limits_of}

-- a row of as many values as there are sizes, and the number in each column is within the column's size
pub record HasSizes (sizes : List ℕ) (row : Row) : Type 0 where
  pub values : length row ≡ length sizes
  pub sized : IsSized (limits_of sizes) row

-- each row that is there has these sizes
abbrev pub KeepsColumns : List ℕ → Weighted → Type 0
KeepsColumns sizes xs = (row : Row) → pos 0 <ℤ weight_of xs row → HasSizes sizes row

-- each of the joined rows has these sizes, before WHERE and behind it
pub record JoinedHaveSizes (sizes : List ℕ) (q : Query) (tables : Tables) : Type 0 where
  pub joined : KeepsColumns sizes (chain tables (tables q.first) q.joins)
  pub kept : KeepsColumns sizes (joined_rows q tables)

-- joined rows keep the sizes of the columns of their sources, one source behind the other
abbrev pub JoinedRowsKeepSizes : Type 0
JoinedRowsKeepSizes =
    (q : Query) (tables : Tables) (sizes : Source → List ℕ)
    → AllByRecursion (λ s. IsBag (tables s)) (sources_of q) → AllByRecursion (λ s. KeepsColumns (sizes s) (tables s)) (sources_of q)
    → JoinedHaveSizes (flat_map sizes (sources_of q)) q tables

-- the sizes of a group's row: those of its key's columns, and then of what it shows
abbrev pub grouped_sizes : List ℕ → Option (List ℕ) → List Aggregate → List ℕ
grouped_sizes sizes keys aggregates = map (limits_of sizes) (unwrap_or keys []) ++ map (aggregate_size (limits_of sizes)) aggregates

-- groups have these sizes where no group has too many rows and the totals can be shown
abbrev pub GroupsKeepSizes : Type 0
GroupsKeepSizes =
    (sizes : List ℕ) (keys : Option (List ℕ)) (aggregates : List Aggregate) (xs : Weighted)
    → IsBag xs → KeepsColumns sizes xs → count_all xs ≤ℤ pos count_size → SumsInRange keys aggregates xs
    → KeepsColumns (grouped_sizes sizes keys aggregates) (grouped keys aggregates xs)
