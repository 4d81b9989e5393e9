use Rattle.std.proofs.Common.{◌∙◌, sym, ap, subst, map, not, length, replicate, false, ◌≡◌}
use Rattle.std.specs.Bool.{OnTrue}
use Rattle.cq_values.specs.Lent.{owned}
use Rattle.cq_model.specs.Condition.{is_null}
use Rattle.cq_vectors.specs.Form.{values_in}
use Rattle.cq_prims.proofs.NullLemmas.{known_constant}
use Rattle.cq_prims.proofs.nulls.is_known_constant.Goals as goal

pub returns-in-Constant : goal.returns-in-Constant
returns-in-Constant c =
    let is = sym (ap values_in c.in-Constant.is) ∙ c.form.ensures.values in
    subst (λ vs. OnTrue (not c.is_null.result) (map is_null vs ≡ replicate (length vs) false)) is (known_constant c.is_null.result (owned c.in-Constant.value) c.in-Constant.field-1 c.is_null.ensures)
