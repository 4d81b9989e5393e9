use Rattle.std.proofs.Common.{◌∙◌, ap, replicate, sym}
use Rattle.cq_values.specs.Lent.{owned}
use Rattle.cq_vectors.specs.Form.{values_in}
use Rattle.cq_prims_arithmetic.specs.Operation.{lifted}
use Rattle.cq_prims_arithmetic.proofs.ConstantLemmas.{one_in_range, one_result}
use Rattle.cq_prims_arithmetic.proofs.constants.of_constants.Goals as goal

pub result_of-value-requires : goal.result_of-value-requires
result_of-value-requires g c =
    let two = c.in-Constant-Constant in
    let of = c.args.of.now in
    one_in_range (lifted g.O.Operation.apply) of.a.now of.b.now of.same (owned two.a) (owned two.b) two.len two.field-1-1
    (sym c.form.ensures.values ∙ ap values_in two.is-0) (sym c.form-2.ensures.values ∙ ap values_in two.is-1) c.if-len-gt0.true of.fits

pub returns-in-Constant-Constant : goal.returns-in-Constant-Constant
returns-in-Constant-Constant g c =
    let two = c.in-Constant-Constant in
    let of = c.args.of.now in
    c.new.ensures ∙ ap (λ v. replicate two.len v) c.result_of-value.ensures
    ∙ sym (one_result (lifted g.O.Operation.apply) of.a.now of.b.now of.same (owned two.a) (owned two.b) two.len two.field-1-1
    (sym c.form.ensures.values ∙ ap values_in two.is-0) (sym c.form-2.ensures.values ∙ ap values_in two.is-1))
