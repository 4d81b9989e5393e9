use Rattle.std.proofs.Common.{◌∙◌, ap, arith, map, to_z, w32}
use Rattle.cq_prims.specs.DaySide.{days_in}
use Rattle.cq_prims.proofs.SideLanes.{column_lanes, constant_lanes}
use Rattle.cq_prims.proofs.day_side.DaySide.lanes.Goals as goal
use Rattle.cq_prims.proofs.day_side.DaySide.lanes.Goals.{in-Column, in-Constant}

pub returns-clause-value : goal.returns-clause-value
returns-clause-value c =
    elim c.match-self.branch [
      | in-Column w ↦ ap (map (to_z w32)) w.result-is ∙ column_lanes w32 16 c.args.from c.self.view_is c.self.invariant w.in-Column.values.now (ap days_in w.in-Column.is)
      | in-Constant w ↦ ap (map (to_z w32)) w.result-is ∙ constant_lanes w32 16 c.args.from c.self.view_is c.self.invariant w.in-Constant.value w.in-Constant.field-1 (ap days_in w.in-Constant.is) (omega arith) c.requires
    ]
