-- What the items of a query show, and the names above them (docs/LANGUAGE.md, Statements).
use Rattle.std.specs.Prelude.{ℕ, ◌+◌, List, [], ◌∷◌, ◌++◌, codes, map, Option, Some, None, unwrap_or}
use Rattle.std.specs.Fmt.{decimal}
use Rattle.cq_sql_language.specs.declared.statement.SelectItem.{SelectItem}
use Rattle.cq_sql_language.specs.Written.{Written}
use Rattle.cq_sql_language.specs.Written as tree

-- what the items show
abbrev pub shown_by : List SelectItem → List Written
shown_by items = map (λ item. item.value) items

-- the name of the column that an item is, where it is nothing more
abbrev pub bare_name : Written → Option (List ℕ)
bare_name (tree.Column c) = Some c.name
bare_name w = None

-- the name that an item has from its place
abbrev pub name_by_place : ℕ → List ℕ
name_by_place place = codes "c" ++ decimal place

-- what an item is called by itself: a bare column by its name, and any other by its place
abbrev pub shown_name : ℕ → Written → List ℕ
shown_name place w = unwrap_or (bare_name w) (name_by_place place)

-- what stands above the items from a place on: the name behind AS, or else their own
abbrev pub header : ℕ → List SelectItem → List (List ℕ)
header place [] = []
header place (item ∷ items) = unwrap_or item.alias (shown_name place item.value) ∷ header (place + 1) items
