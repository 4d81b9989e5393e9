use Rattle.std.proofs.Common.{◌≡◌, take}
use Rattle.cq_operators_joins.specs.Shown.{columns_shown}
use Rattle.cq_operators_joins.proofs.items.item_columns.Given as goal

-- the columns of the items so far
abbrev pub invariant-loop-item : goal.invariant-loop-item
invariant-loop-item l = l.columns.items ≡ columns_shown (take l.item-index l.items) l.scan
