use Rattle.std.proofs.Common.{◌≡◌, false, take}
use Rattle.std.specs.List.{list_any}
use Rattle.cq_model.specs.Eval.{eval}
use Rattle.cq_binder_rules.specs.UpdateChecks.{is_outside}
use Rattle.cq_table.proofs.images.gives_outside.Given as goal

-- none of the rows so far has such a value
abbrev pub invariant-loop-row : goal.invariant-loop-row
invariant-loop-row l = list_any (λ r. is_outside (eval l.value r)) (take l.row-index l.rows) ≡ false
