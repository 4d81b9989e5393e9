use Rattle.std.proofs.Common.{◌≡◌, ◌+◌, ◌*◌, List, length, take}
use Rattle.cq_values.specs.Value.{Row}
use Rattle.cq_hash_groups.specs.Groups.{Holds}
use Rattle.cq_hash_groups.proofs.Showing.{AreShown, shown_rows}
use Rattle.cq_writestore_rows.specs.Filling.{IsReadyFor}
use Rattle.cq_hash_groups.proofs.group_table.GroupTable.rows.Given as goal

-- the groups of the blocks so far are shown, whichever rows the table is of
abbrev pub invariant-loop-block : goal.invariant-loop-block
invariant-loop-block l = record {
  ready : IsReadyFor (l.width + length l.told.items) l.filling;
  count : length l.filling.rows ≡ 1024 * l.block;
  rows : (of : List Row) → Holds l.self of → l.filling.rows ≡ shown_rows l.self.keys l.self.aggregates of (take (1024 * l.block) l.self.found);
  range : (of : List Row) → Holds l.self of → AreShown l.self.keys l.self.aggregates of (take (1024 * l.block) l.self.found);
}

-- the groups so far are shown, whichever rows the table is of
abbrev pub invariant-loop-group : goal.invariant-loop-group
invariant-loop-group l = record {
  ready : IsReadyFor (l.width + length l.told.items) l.filling;
  rows : (of : List Row) → Holds l.self of → l.filling.rows ≡ shown_rows l.self.keys l.self.aggregates of (take l.group l.self.found);
  range : (of : List Row) → Holds l.self of → AreShown l.self.keys l.self.aggregates of (take l.group l.self.found);
}
