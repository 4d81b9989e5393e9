-- Where the columns stand that names mean: in the joined rows, or in the rows of their groups.
use Rattle.std.specs.Prelude.{ℕ, ◌==◌, ◌+◌, List, [], map, length, Option, Some, None, unwrap_or, position}
use Rattle.cq_values.specs.Texts.{is_text}
use Rattle.cq_sql_language.specs.declared.written.ColumnName.{ColumnName}
use Rattle.cq_model.specs.declared.query.Aggregate.{Aggregate}
use Rattle.cq_binder_rules.specs.Typing.{Scope, ScopeColumn, is_meant}

-- where the column stands in the joined rows that a name means
abbrev pub row_place : List ScopeColumn → ColumnName → ℕ
row_place columns c = unwrap_or (position (is_meant c) columns) 0

-- where the column of a name stands in the rows of one source, if there is one
abbrev pub named_place : List ScopeColumn → List ℕ → Option ℕ
named_place columns name = position (λ c. is_text c.name name) columns

-- where the columns of GROUP BY stand in the joined rows
abbrev pub group_places : List ScopeColumn → List ColumnName → List ℕ
group_places columns group = map (row_place columns) group

-- where a column of the joined rows stands in the rows that expressions read: there, or in a group's key
abbrev pub read_place : Option (List ℕ) → ℕ → ℕ
read_place None place = place
read_place (Some group) place = unwrap_or (position (λ g. g == place) group) 0

-- where the column stands that a name means
abbrev pub place_of : Scope → ColumnName → ℕ
place_of s c = read_place s.grouped (row_place s.columns c)

-- how many columns a group's key has
abbrev pub key_length : Scope → ℕ
key_length s = length (unwrap_or s.grouped [])

-- where an aggregate stands in a group's row, which has the key first: behind the aggregates before it
abbrev pub next_place : Scope → List Aggregate → ℕ
next_place s before = key_length s + length before
