-- FROM, as it is bound.
use Rattle.std.specs.Prelude.{◌≡◌, ℕ, List, [], ◌∷◌, ◌++◌, map, Option, Some, is_none, Result, Ok, MatchResult}
use Rattle.std.specs.Global.{Vec}
use Rattle.cq_sql_language.specs.declared.statement.FromSource.{FromSource}
use Rattle.cq_sql_language.specs.declared.statement.JoinedSource.{JoinedSource}
use Rattle.cq_sql_language.specs.declared.statement.OnEquality.{OnEquality}
use Rattle.cq_sql_language.specs.declared.statement.Select.{Select}
use Rattle.cq_model.specs.declared.query.Equality.{Equality}
use Rattle.cq_model_state.specs.State.{State, TableOf}
use Rattle.cq_binder_rules.specs.declared.fault.Fault.{Fault}
use Rattle.cq_binder_rules.specs.declared.fault.Fault.TheVariants.{UnknownTable}
use Rattle.cq_binder_rules.specs.Checks.{MayRefuse, fault_if}
use Rattle.cq_binder_rules.specs.From.{From, any_source, equality_check, equality_of, first_walk, join_walk, no_view, sources_walk}
use Rattle.cq_binder_rules.specs.Scopes.{Named, from_table, source_columns, source_named}
use Rattle.cq_binder_rules.specs.Typing.{ScopeColumn, fault_in}
use Rattle.cq_binder_queries.specs.declared.from.Allowed.{Allowed}
use Rattle.cq_binder_queries.specs.declared.from.Allowed.TheVariants.{All, Tables}
use Rattle.cq_binder_queries.specs.declared.from.FoundSource.{FoundSource}
use Rattle.cq_binder_queries.specs.declared.from.FoundSource.TheVariants.{Table, View}
use Rattle.cq_binder_queries.specs.declared.from.FromClause.{FromClause}
use Rattle.cq_binder_queries.specs.declared.catalog.TableEntry.{TableEntry}
use Rattle.cq_binder_queries.specs.Catalog.{Describes, shown_table, shown_view}
use Rattle.cq_binder_queries.specs.Walk.{WalksTo}

-- a walk gives what stands, as it is seen, or is refused with its fault; want of memory may come at any point
abbrev pub Gives : {A X : Type 0} → Result A Fault → (X → A) → Result X Fault → Type 0
Gives walk seen result = MatchResult result (λ x. walk ≡ Ok (seen x)) (MayRefuse (fault_in walk))

-- whether a source may stand in FROM
abbrev pub may_stand : Allowed → Named → Option Fault
may_stand All = any_source
may_stand Tables = no_view

-- what was found, as FROM names it
abbrev pub shown_source : FoundSource → Named
shown_source (Table e) = shown_table e
shown_source (View e) = shown_view e

-- a name is looked up: what it stands for, or it is unknown
abbrev pub Finds : Option Named → Result FoundSource Fault → Type 0
Finds named result = MatchResult result (λ found. named ≡ Some (shown_source found)) (MayRefuse (fault_if (is_none named) UnknownTable))

-- what FROM has joined, by its columns
abbrev pub shown_from : FromClause → From
shown_from from = record { first = from.first; joins = from.joins; columns = from.columns.items; bases = from.bases }

-- the first source is looked up, and FROM begins with it
abbrev pub Begins : Allowed → State → FromSource → Result FromClause Fault → Type 0
Begins allowed s f result = Gives (first_walk (may_stand allowed) f (source_named f.name s)) shown_from result

-- a source is looked up, and joined to those so far
abbrev pub Joins : Allowed → State → From → JoinedSource → Result FromClause Fault → Type 0
Joins allowed s from j result = Gives (join_walk (may_stand allowed) from j (source_named j.source.name s)) shown_from result

-- so it is behind what FROM has joined
abbrev pub JoinsBehind : Allowed → State → FromClause → JoinedSource → Result FromClause Fault → Type 0
JoinsBehind allowed s from j result = Joins allowed s (shown_from from) j result

-- or with this source that is there
abbrev pub JoinsFound : Allowed → From → JoinedSource → FoundSource → Result FromClause Fault → Type 0
JoinsFound allowed from j found result = Gives (join_walk (may_stand allowed) from j (Some (shown_source found))) shown_from result

-- all sources of a query are looked up and joined
abbrev pub JoinsAll : Allowed → State → Select → Result FromClause Fault → Type 0
JoinsAll allowed s q result = Gives (sources_walk (may_stand allowed) s q) shown_from result

-- an equality of ON over these columns, of which the source that is joined has those from a place on
abbrev pub BindsEquality : List ScopeColumn → ℕ → OnEquality → Result Equality Fault → Type 0
BindsEquality columns before e result = WalksTo (equality_check columns before e ∷ []) (equality_of columns before e) result

-- all equalities of ON
abbrev pub BindsOn : List ScopeColumn → ℕ → List OnEquality → Result (List Equality) Fault → Type 0
BindsOn columns before on result = WalksTo (map (equality_check columns before) on) (map (equality_of columns before) on) result

-- the columns of a source that is known by a name stand behind those of old
abbrev pub AreBehind : List ScopeColumn → List ℕ → Named → List ScopeColumn → Type 0
AreBehind old known source new = new ≡ old ++ source_columns known source

-- so it is with a list of columns that is lent
abbrev pub PutsColumns : List ℕ → Named → Vec ScopeColumn → Vec ScopeColumn → Type 0
PutsColumns known source old new = AreBehind old.items known source new.items

-- these are the columns of the table that an entry describes, known by a name
abbrev pub AreOf : List ℕ → TableEntry → List ScopeColumn → Type 0
AreOf known e columns = (t : TableOf) → Describes e t → columns ≡ source_columns known (from_table t)
