-- What holds of queries and of the states that views keep. Each statement is the contract of a function in laws.rt.
use Rattle.std.specs.Prelude.{◌≡◌, ◌↔◌, ℕ, List, ◌++◌, Option, Some}
use Rattle.std.specs.List.{AllByRecursion}
use Rattle.cq_values.specs.Value.{Row}
use Rattle.cq_model_bags.specs.Bag.{Weighted, SameBag, IsBag}
use Rattle.cq_model.specs.Expr.{Expr, Cond}
use Rattle.cq_model.specs.declared.query.Aggregate.{Aggregate}
use Rattle.cq_model.specs.declared.query.Aggregate.TheVariants.{Min, Max}
use Rattle.cq_model.specs.declared.query.Join.{Join}
use Rattle.cq_model.specs.declared.query.Query.{Query}
use Rattle.cq_model.specs.declared.query.Source.{Source}
use Rattle.cq_model.specs.Group.{count_all, count_values, sum_values, aggregate, value_bag, extreme_of, lower, higher, group_row, grouped}
use Rattle.cq_model.specs.Meaning.{Tables, chain, keeps, joined_rows, shown, meaning, MeaningInRange}
use Rattle.cq_model.specs.Views.{with_views, AnswerInRange, sources_of}
use Rattle.cq_views_model.specs.Delta.{SameTables, changed, chain_change, joined_change}
use Rattle.cq_model.specs.Pushed.{Pushed, pushed_rows, HaveWidths, IsImplied, AreBelow}
use Rattle.cq_model.specs.Own.{passes_own, AreOwn}
use Rattle.cq_views_model.specs.Kept.{Kept, IsKept, kept_value, Group, GroupStands, Last, LastStands, shown_row}
use Rattle.cq_views_model.specs.Shown.{shown_rows, ListsKeys}

-- the chain over changed sources is the old chain with its change
abbrev pub ChainLaw : Type 0
ChainLaw =
    (tables changes : Tables) (xs dxs : Weighted) (js : List Join)
    → SameBag (chain (changed tables changes) (xs ++ dxs) js) (chain tables xs js ++ chain_change tables changes xs dxs js)

-- the rows that WHERE keeps change by what it keeps of the chain's change
abbrev pub JoinedRowsGoOn : Type 0
JoinedRowsGoOn =
    (q : Query) (tables changes : Tables) → SameBag (joined_rows q (changed tables changes)) (joined_rows q tables ++ joined_change q tables changes)

-- two lists of rows have the same counts, totals, extremes and groups
pub record SameGroups (xs ys : Weighted) : Type 0 where
  pub rows : count_all xs ≡ count_all ys
  pub values : (e : Expr) → count_values e xs ≡ count_values e ys
  pub totals : (e : Expr) → sum_values e xs ≡ sum_values e ys
  pub aggregates : (a : Aggregate) → aggregate a xs ≡ aggregate a ys
  pub groups : (columns : Option (List ℕ)) (aggregates : List Aggregate) → SameBag (grouped columns aggregates xs) (grouped columns aggregates ys)

-- counts, totals, extremes and groups of rows depend on their bag alone
abbrev pub GroupsDependOnBag : Type 0
GroupsDependOnBag = (xs ys : Weighted) → SameBag xs ys → SameGroups xs ys

-- MIN and MAX over rows are the extremes of the bag of their values
pub record AreExtremes (e : Expr) (xs : Weighted) : Type 0 where
  pub least : aggregate (Min e) xs ≡ extreme_of lower (value_bag e xs)
  pub greatest : aggregate (Max e) xs ≡ extreme_of higher (value_bag e xs)

-- MIN and MAX are read off the values with their counts
abbrev pub ExtremesAreCounted : Type 0
ExtremesAreCounted = (e : Expr) (xs : Weighted) → IsBag xs → AreExtremes e xs

-- what is kept of an aggregate shows its value
abbrev pub KeptShows : Type 0
KeptShows = (a : Aggregate) (xs : Weighted) (kept : Kept) → IsBag xs → IsKept a xs kept → kept_value a kept ≡ aggregate a xs

-- what is kept of a group shows the group's row
abbrev pub GroupShows : Type 0
GroupShows =
    (aggregates : List Aggregate) (k : Row) (xs : Weighted) (group : Group) → IsBag xs → GroupStands aggregates xs group
    → shown_row aggregates k group.kept ≡ group_row aggregates k xs

-- what stands behind the joins shows the rows that the query shows
abbrev pub LastShows : Type 0
LastShows =
    (q : Query) (xs : Weighted) (keys : List Row) (last : Last) → IsBag xs → LastStands q q.shape xs last → ListsKeys keys last
    → SameBag (shown_rows q q.shape keys last) (shown q xs)

-- with conditions below its joins that WHERE implies, a query keeps the same joined rows
abbrev pub ConditionBelowJoins : Type 0
ConditionBelowJoins =
    (width : Source → ℕ) (q : Query) (p : Pushed) (tables : Tables) → HaveWidths width tables → AreBelow width q p
    → SameBag (pushed_rows q p tables) (joined_rows q tables)

-- WHERE implies what names one source alone and AND joins to the rest
abbrev pub OwnConditionsAreImplied : Type 0
OwnConditionsAreImplied =
    (filter : Cond) (before wide : ℕ) (cs : List Cond) → AreOwn filter before wide cs
    → IsImplied (keeps (Some filter)) (passes_own before cs) before wide

-- a query has one bag over both, and its totals can be shown over both
pub record MeansSame (q : Query) (tables others : Tables) : Type 0 where
  pub bag : SameBag (meaning q tables) (meaning q others)
  pub range : MeaningInRange q tables ↔ MeaningInRange q others

-- what a query means depends on the bags of the sources that FROM names
abbrev pub MeaningDependsOnSources : Type 0
MeaningDependsOnSources =
    (q : Query) (tables others : Tables) → AllByRecursion (λ s. SameBag (tables s) (others s)) (sources_of q) → MeansSame q tables others

-- so it does where each source has the same bag
abbrev pub MeaningDependsOnBags : Type 0
MeaningDependsOnBags = (q : Query) (tables others : Tables) → SameTables tables others → MeansSame q tables others

-- a query that may name views means one bag over both, and answers over both
pub record AnswersSame (tables others : ℕ → Weighted) (queries : ℕ → Option Query) (q : Query) : Type 0 where
  pub bag : SameBag (meaning q (with_views tables queries)) (meaning q (with_views others queries))
  pub range : AnswerInRange tables queries q ↔ AnswerInRange others queries q

-- through the views that it names too, a query depends on the tables' bags alone
abbrev pub ViewsDependOnBags : Type 0
ViewsDependOnBags =
    (tables others : ℕ → Weighted) (queries : ℕ → Option Query) (q : Query) → ((t : ℕ) → SameBag (tables t) (others t))
    → AnswersSame tables others queries q

-- over bags a query means a bag, with no negative row
abbrev pub MeaningIsBag : Type 0
MeaningIsBag = (q : Query) (tables : Tables) → ((source : Source) → IsBag (tables source)) → IsBag (meaning q tables)
