use Rattle.std.proofs.Common.{◌≡◌, [], take}
use Rattle.cq_deltas.specs.Shown.{EntriesCanBeShown, entry_rows}
use Rattle.cq_deltas.proofs.groups.Groups.shown_rows.Given as goal

-- the groups so far that have rows are shown
abbrev pub invariant-loop-place : goal.invariant-loop-place
invariant-loop-place l = record {
  rows : l.rows.rows ≡ entry_rows l.aggregates (take l.place l.self);
  begun : l.rows.begun ≡ [];
  range : EntriesCanBeShown l.aggregates (take l.place l.self);
}
