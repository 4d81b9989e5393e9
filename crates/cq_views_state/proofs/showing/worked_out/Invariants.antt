use Rattle.std.proofs.Common.{◌≡◌, map, take}
use Rattle.cq_model.specs.Meaning.{items_of}
use Rattle.cq_views_state.proofs.showing.worked_out.Given as goal

-- the items of the rows so far
abbrev pub invariant-loop-place : goal.invariant-loop-place
invariant-loop-place l = l.shown.items ≡ map (items_of l.items) (take l.place l.rows.rows)
