use Rattle.std.proofs.Common.{◌≡◌, ◌++◌, map, take}
use Rattle.cq_views_model.specs.Kept.{shown_row}
use Rattle.cq_deltas.specs.Kept.{seen}
use Rattle.cq_deltas.specs.Shown.{AllCanBeShown}
use Rattle.cq_deltas.proofs.group.shown_row.Given as goal

-- the begun row goes on with the key and the aggregates so far
abbrev pub invariant-loop-place : goal.invariant-loop-place
invariant-loop-place l = record {
  rows : l.rows.rows ≡ l.fn.rows.rows;
  begun : l.rows.begun ≡ l.fn.rows.begun ++ shown_row (take l.place l.aggregates) l.key (take l.place (map seen l.kept));
  range : AllCanBeShown (take l.place l.aggregates) (take l.place (map seen l.kept));
}
