use Rattle.std.proofs.Common.{◌≡◌, ◌≤◌, ◌++◌, length}
use Rattle.cq_segments_pieces.specs.Marked.{unmarked}
use Rattle.cq_writestore.proofs.tail_store.push_all.Given as goal

-- the rows that are left come behind those of the tail, and there is room for them
abbrev pub invariant-loop-row : goal.invariant-loop-row
invariant-loop-row l = record {
  rows : l.initial.tail.rows ++ unmarked l.fn.rows.items ≡ l.tail.rows ++ unmarked l.row-iterator.rest.items;
  room : length l.row-iterator.rest.items ≤ l.tail.room;
}
