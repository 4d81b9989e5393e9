-- Queries that are worked out step by step, and what remains of their lists.
use Rattle.std.specs.Prelude.{◌≡◌, ◌++◌, ◌<◌, ◌≤◌, ℕ, Bool, true, false, List, [], drop, length, Option, Some, None, IfSome, Result, Ok, Err}
use Rattle.std.specs.Borrow.{Bor}
use Rattle.cq_values.specs.Value.{Row}
use Rattle.cq_model_bags.specs.Bag.{once_each}
use Rattle.cq_model_bags.specs.Canonical.{sorted_by}
use Rattle.cq_model_bags.specs.Listing.{IsListing, first_rows, listing_cmp}
use Rattle.cq_model.specs.Meaning.{ShapeInRange}
use Rattle.cq_model.specs.declared.fault.ShowFault.{ShowFault}
use Rattle.cq_model.specs.declared.fault.ShowFault.TheVariants.{Memory, SumOutOfRange}
use Rattle.cq_model.specs.declared.query.Order.{Order}
use Rattle.cq_model.specs.declared.query.Query.{Query}
use Rattle.cq_plan.specs.Chain.{HaveValues, joined_lists}
use Rattle.cq_plan.specs.Plan.{IsWhole, kept_of}
use Rattle.cq_plan.specs.Planned.{CanAskEach, HaveColumns}
use Rattle.cq_plan.specs.declared.plans.Plan.{Plan}
use Rattle.cq_vectors.specs.Batch.{rows_of}
use Rattle.cq_vectors.specs.declared.batch.Batch.{Batch}
use Rattle.cq_operators.specs.Selected.{CanSelect, bag_shown, rows_in}
use Rattle.cq_operators.specs.declared.progress.Progress.{Progress}
use Rattle.cq_operators.specs.declared.progress.Progress.TheVariants.{Opened, Listed, Broken}

-- a query with its order, the joined rows that WHERE keeps, whether its list stands, the rows of it that were not given, and the
-- fault that ended it
pub record Remaining : Type 0 where
  pub query : Query
  pub order : Order
  pub kept : List Row
  pub listed : Bool
  pub left : List Row
  pub fault : Option ShowFault

-- no total of the query is too large to show
abbrev pub IsInRange : Remaining → Type 0
IsInRange e = ShapeInRange e.query.shape (once_each e.kept)

-- of the query's list on the rows of its sources nothing was given
pub record IsOpened (q : Query) (asked : Order) (sources : List (List Row)) (e : Remaining) : Type 0 where
  pub query : e.query ≡ q
  pub order : e.order ≡ asked
  pub kept : e.kept ≡ kept_of q sources
  pub whole : IsListing asked.keys asked.limit (bag_shown q (kept_of q sources)) e.left
  pub unbroken : e.fault ≡ None

-- ---- A step
-- the batch is the first of the rows that remained, at least one and at most 1,024, and no total is too large
pub record Gives (old new : Remaining) (batch : Batch) : Type 0 where
  pub rows : old.left ≡ rows_of batch ++ new.left
  pub same : new ≡ record old { listed = true; left = new.left }
  pub fewer : length new.left < length old.left
  pub few : length (rows_of batch) ≤ 1024
  pub unbroken : old.fault ≡ None
  pub range : IsInRange old

-- no row remained, and the batch is as it was
pub record IsAtEnd (old new : Remaining) (before after : Batch) : Type 0 where
  pub none : old.left ≡ []
  pub same : new ≡ record old { listed = true }
  pub unbroken : old.fault ≡ None
  pub range : IsInRange old
  pub batch : after ≡ before

-- a total is told only where it is too large to show
abbrev pub IsTold : Remaining → ShowFault → Type 0
IsTold e Memory = Unit {0}
IsTold e SumOutOfRange = IsInRange e → ⊥

-- at the end of a list that stands there is nothing to break
abbrev pub CanBreak : Remaining → Type 0
CanBreak e = e.listed ≡ true → e.left ≡ [] → ⊥

-- a fault is kept and no row remains, it is the one before where there was one, and the batch is as it was
pub record Breaks (old new : Remaining) (before after : Batch) (f : ShowFault) : Type 0 where
  pub kept : new ≡ record old { listed = false; left = []; fault = Some f }
  pub can : CanBreak old
  pub first : IfSome old.fault (λ g. f ≡ g)
  pub told : IsTold old f
  pub batch : after ≡ before

-- what a step does: it gives rows, or is at the end, or tells the fault that ends it for ever
abbrev pub GivesNext : Remaining → Remaining → Batch → Batch → Result Bool ShowFault → Type 0
GivesNext old new before after (Ok true) = Gives old new after
GivesNext old new before after (Ok false) = IsAtEnd old new before after
GivesNext old new before after (Err f) = Breaks old new before after f

-- all rows that remain, or why they are not given
abbrev pub GivesRest : Remaining → Result (List Row) ShowFault → Type 0
GivesRest e (Ok rows) = (rows ≡ e.left) × (e.fault ≡ None) × IsInRange e
GivesRest e (Err f) = IfSome e.fault (λ g. f ≡ g) × IsTold e f

-- ---- How far it is
-- the query's list
abbrev pub list_of : Query → Order → List Row → List Row
list_of q asked kept = first_rows asked.limit (sorted_by (listing_cmp asked.keys) (rows_in (bag_shown q kept)))

-- the rows of the list that were not given
abbrev pub left_of : Progress → List Row → List Row
left_of Opened all = all
left_of (Listed list place) all = drop place list.now
left_of (Broken f) all = []

abbrev pub is_listed : Progress → Bool
is_listed Opened = false
is_listed (Listed list place) = true
is_listed (Broken f) = false

abbrev pub fault_of : Progress → Option ShowFault
fault_of Opened = None
fault_of (Listed list place) = None
fault_of (Broken f) = Some f

abbrev pub remaining : Query → Order → List Row → Progress → Remaining
remaining q asked kept progress = record { query = q; order = asked; kept = kept; listed = is_listed progress; left = left_of progress (list_of q asked kept); fault = fault_of progress }

-- the same of a plan on the rows of its sources
abbrev pub remaining_of : Plan → List (List Row) → Progress → Remaining
remaining_of plan sources progress = remaining plan.query.now plan.order.now (kept_of plan.query.now sources) progress

-- the list that was worked out has a value for each item, and what was told is so
abbrev pub IsReached : Query → List Row → Progress → Type 0
IsReached q kept Opened = Unit {0}
IsReached q kept (Listed list place) = (place ≤ length list.now) × HaveValues (length q.items) list.now × ShapeInRange q.shape (once_each kept)
IsReached q kept (Broken Memory) = Unit {0}
IsReached q kept (Broken SumOutOfRange) = ShapeInRange q.shape (once_each kept) → ⊥

-- a plan of a whole query that can be worked out on the rows of its sources
pub record CanOpen (plan : Plan) (sources : List (List Row)) : Type 0 where
  pub whole : IsWhole plan
  pub wide : HaveColumns plan.sources.items sources
  pub own : CanAskEach plan.sources.items sources
  pub can : CanSelect plan.query.now (joined_lists plan.query.now.joins sources)

-- there is room for the list until it is worked out
abbrev pub HasRoom : {R : Type 0} → Option R → Progress → Type 0
HasRoom None Opened = ⊥
HasRoom room progress = Unit {0}

-- and that went so far
pub record CanGoOn {R : Type 0} (plan : Plan) (sources : List (List Row)) (room : Option R) (progress : Progress) : Type 0 where
  pub can : CanOpen plan sources
  pub reached : IsReached plan.query.now (kept_of plan.query.now sources) progress
  pub place : HasRoom room progress

-- ---- Parts of a step
-- the whole list, or why there is none
abbrev pub WorksOut : Remaining → Result (List Row) ShowFault → Type 0
WorksOut e (Ok rows) = (rows ≡ list_of e.query e.order e.kept) × HaveValues (length e.query.items) rows × IsInRange e
WorksOut e (Err f) = IsTold e f

-- from this place on the rows of the list remain
pub record Stands (e : Remaining) (list : List Row) (place : ℕ) : Type 0 where
  pub inside : place ≤ length list
  pub left : e.left ≡ drop place list
  pub wide : HaveValues (length e.query.items) list
  pub unbroken : e.fault ≡ None
  pub range : IsInRange e

-- the list and the place from which on its rows remain, or the fault that ends it for ever
abbrev pub ListsFrom : Remaining → Remaining → Result (Bor (List Row) × ℕ) ShowFault → Type 0
ListsFrom old new (Ok l) = (new ≡ record old { listed = true }) × Stands old l.0.now l.1
ListsFrom old new (Err f) = (new ≡ record old { listed = false; left = []; fault = Some f }) × IfSome old.fault (λ g. f ≡ g) × IsTold old f × CanBreak old
