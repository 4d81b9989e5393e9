-- What a write makes of a table's rows (ISO 9075-2, 14.9 and 14.14).
use Rattle.std.specs.Prelude.{not, if◌then◌else◌, List, [], ◌∷◌, map, filter, slice_set, Option}
use Rattle.cq_values.specs.Value.{Row}
use Rattle.cq_model.specs.declared.assignment.Assignment.{Assignment}
use Rattle.cq_model.specs.Expr.{Cond}
use Rattle.cq_model.specs.Eval.{eval}
use Rattle.cq_model.specs.Meaning.{keeps}

-- the rows of which WHERE is True
abbrev pub chosen : Option Cond → List Row → List Row
chosen condition rows = filter (keeps condition) rows

-- the rows that a DELETE leaves
abbrev pub left_by : Option Cond → List Row → List Row
left_by condition rows = filter (λ r. not (keeps condition r)) rows

-- a row with columns set, each to its expression's value in the old row
abbrev pub with_set : List Assignment → Row → Row → Row
with_set [] old row = row
with_set (a ∷ later) old row = with_set later old (slice_set row a.column (eval a.value old))

-- the image of a row under SET
abbrev pub image_of : List Assignment → Row → Row
image_of assignments row = with_set assignments row row

-- the rows that an UPDATE leaves: each one that WHERE chooses is replaced by its image
abbrev pub updated : List Assignment → Option Cond → List Row → List Row
updated assignments condition rows = map (λ r. if keeps condition r then image_of assignments r else r) rows
