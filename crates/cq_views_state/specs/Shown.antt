-- What a view shows: the bag of its query, or that a total is too large to show.
use Rattle.std.specs.Prelude.{◌≡◌, ◌≤◌, Bool, true, false, if◌then◌else◌, ℤ, List, [], ◌∷◌, ◌++◌, None, Some}
use Rattle.cq_values.specs.Value.{Row}
use Rattle.cq_model_bags.specs.Bag.{SameBag, Weighted, IsBag, once_each}
use Rattle.cq_model.specs.Group.{group_row}
use Rattle.cq_model.specs.Meaning.{MeaningInRange, ShapeInRange, Tables, meaning, shown}
use Rattle.cq_model.specs.Sizes.{count_size}
use Rattle.cq_model.specs.Views.{sources_of}
use Rattle.cq_model.specs.declared.query.Aggregate.{Aggregate}
use Rattle.cq_model.specs.declared.query.Query.{Query}
use Rattle.cq_model.specs.declared.query.Shape.{Shape}
use Rattle.cq_model.specs.declared.query.Shape.TheVariants.{Plain, Grouped}
use Rattle.cq_sides_weights.specs.Held.{sizes}
use Rattle.cq_deltas_joins.specs.Steps.{AreStored}
use Rattle.cq_deltas.specs.Keyed.{KeyedGroups, group_at}
use Rattle.cq_model.specs.declared.fault.ShowFault.{ShowFault}
use Rattle.cq_model.specs.declared.fault.ShowFault.TheVariants.{SumOutOfRange}
use Rattle.cq_deltas.specs.Shown.{GroupsCanBeShown, group_rows}
use Rattle.cq_views_model.specs.Kept.{Groups}
use Rattle.cq_views_model.specs.Shown.{ListsKeys}
use Rattle.cq_views_state.specs.Last.{StandsBehind}
use Rattle.cq_views_model.specs.Query.{CanBeKept, aggregates_in, aggregates_of}
use Rattle.cq_views_state.specs.State.{AreBags, HoldStored, StandsFor, crossed}
use Rattle.cq_views_state.specs.declared.last.Last.{Last as Stored}
use Rattle.cq_views_state.specs.declared.state.ViewState.{ViewState}

-- ---- groups
-- without GROUP BY there is one group always
abbrev pub is_one_group : Shape → Bool
is_one_group Plain = false
is_one_group (Grouped None aggregates having) = true
is_one_group (Grouped (Some keys) aggregates having) = false

-- these rows, and that of no rows where there is none
abbrev pub or_nothing : List Aggregate → List Row → List Row
or_nothing aggregates [] = group_row aggregates [] [] ∷ []
or_nothing aggregates (row ∷ rows) = row ∷ rows

-- the rows of all groups
abbrev pub all_rows : Shape → KeyedGroups → List Row
all_rows shape groups =
    let aggregates = aggregates_in shape in
    let rows = group_rows aggregates groups in
    if is_one_group shape then or_nothing aggregates rows else rows

-- these keys are those whose rows are counted
abbrev pub AreKeysOf : Query → KeyedGroups → List Row → Type 0
AreKeysOf query groups keys = ListsKeys keys (Groups (group_at (aggregates_of query) groups))

-- the totals of all groups can be shown
abbrev pub AreShowable : Query → KeyedGroups → Type 0
AreShowable query groups = GroupsCanBeShown (aggregates_of query) groups

-- ---- images
-- new is old with the row so many times more
abbrev pub AddsTimes : Row → ℤ → List Row → List Row → Type 0
AddsTimes row times old new = SameBag (once_each new) (once_each old ++ (row, times) ∷ [])

-- ---- what stands behind the joins
-- it stands for a bag of stored rows, not more of them than can be counted
pub record StandsOnStored (query : Query) (last : Stored) : Type 0 where
  pub xs : Weighted
  pub stands : StandsBehind query xs last
  pub few : sizes xs ≤ count_size
  pub stored : AreStored xs
  pub bag : IsBag xs

-- these are the rows that the query shows of each bag that it stands for
abbrev pub ShowsRows : Query → Stored → List Row → Type 0
ShowsRows query last rows = (xs : Weighted) → StandsBehind query xs last → IsBag xs → SameBag (once_each rows) (shown query xs)

-- all totals of such a bag can be shown
abbrev pub ShowsInRange : Query → Stored → Type 0
ShowsInRange query last = (xs : Weighted) → StandsBehind query xs last → IsBag xs → ShapeInRange query.shape xs

-- and one of them cannot
abbrev pub ShowsOutOfRange : Query → Stored → Type 0
ShowsOutOfRange query last = (xs : Weighted) → StandsBehind query xs last → IsBag xs → ShapeInRange query.shape xs → ⊥

-- the fault tells of one only where there is one
abbrev pub TellsOutOfRange : Query → Stored → ShowFault → Type 0
TellsOutOfRange query last fault = fault ≡ SumOutOfRange → ShowsOutOfRange query last

-- ---- views
-- a view of the query stands for bags of stored rows, and a join of them has not more rows than can be counted
pub record CanShowBags (query : Query) (standing : Tables → Type 0) : Type 0 where
  pub can : CanBeKept query
  pub tables : Tables
  pub stands : standing tables
  pub few : crossed tables (sources_of query) ≤ count_size
  pub stored : HoldStored query tables
  pub bags : AreBags tables

-- the view stands for such bags
abbrev pub CanShow : ViewState → Type 0
CanShow v = CanShowBags v.query (StandsFor v)

-- rows are the bag of a view's query on each tables that it stands for
abbrev pub AreRowsOf : ViewState → List Row → Type 0
AreRowsOf v rows = (tables : Tables) → StandsFor v tables → AreBags tables → SameBag (once_each rows) (meaning v.query tables)

-- its totals can be shown there
abbrev pub IsShown : ViewState → Type 0
IsShown v = (tables : Tables) → StandsFor v tables → AreBags tables → MeaningInRange v.query tables

-- and one of them cannot
abbrev pub IsNotShown : ViewState → Type 0
IsNotShown v = (tables : Tables) → StandsFor v tables → AreBags tables → MeaningInRange v.query tables → ⊥
