-- What a write changes in a table: rows that go, and rows that come.
use Rattle.std.specs.Prelude.{◌+◌, ◌<◌, ◌^◌, ℕ, ℤ, pos, neg_ℤ, nat_abs, List, ◌++◌, map}
use Rattle.cq_segments_pieces.specs.Rows.{stored_rows}
use Rattle.cq_values.specs.Value.{Row}
use Rattle.cq_model_bags.specs.Bag.{Weighted, once_each, weight_of}
use Rattle.cq_views.specs.Filling.{only}
use Rattle.cq_views.specs.declared.changes.TableChange.{TableChange}
use Rattle.cq_model.specs.Meaning.{Tables}
use Rattle.cq_model.specs.declared.query.Source.TheVariants.{Table as FromTable}

-- each of these rows with one weight: 1 where they come, -1 where they go
abbrev pub weighed : List Row → ℤ → Weighted
weighed rows weight = map (λ r. (r, weight)) rows

-- the first rows go, and the others come
abbrev pub exchanged : List Row → List Row → Weighted
exchanged gone come = weighed gone (neg_ℤ (pos 1)) ++ once_each come

-- the changes of all tables, where these rows of one table go and come
abbrev pub changes_of : TableChange → Tables
changes_of change = only (FromTable change.table) (exchanged (stored_rows change.gone.now) (stored_rows change.come.now))

-- no weight leaves 127 bits and a sign while so many rows come or go
abbrev pub StaysInRange : ℕ → Weighted → Type 0
StaysInRange count xs = (r : Row) → nat_abs (weight_of xs r) + count < 2 ^ 127
