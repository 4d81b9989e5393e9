use Rattle.std.proofs.Common.{◌∙◌, ap, replicate, sym}
use Rattle.cq_values.specs.Lent.{owned}
use Rattle.cq_vectors.specs.Form.{values_in}
use Rattle.cq_model.specs.Eval.{extracted}
use Rattle.cq_prims_arithmetic.proofs.ConstantLemmas.{one_of_all}
use Rattle.cq_prims_arithmetic.proofs.parts.extract.Goals as goal

pub returns-in-Constant : goal.returns-in-Constant
returns-in-Constant c =
    let one = c.in-Constant in
    c.new.ensures ∙ ap (replicate one.len) c.part_of_value-value.ensures
    ∙ sym (one_of_all (extracted c.args.part) c.args.a.now (owned one.value) one.len (sym c.form.ensures.values ∙ ap values_in one.is))
