use Rattle.std.proofs.Common.{◌∙◌, sym, ap, map, length, replicate, Bool}
use Rattle.std.proofs.lemmas.List.{length-map}
use Rattle.cq_values.specs.Lent.{owned}
use Rattle.cq_values.specs.declared.value.Value.TheVariants.{Null}
use Rattle.cq_model.specs.Condition.{is_null}
use Rattle.cq_vectors.specs.Form.{values_in}
use Rattle.cq_prims_lanes.proofs.Places.{map-all_places, map-replicate}
use Rattle.cq_prims.proofs.nulls.nulls_of.Goals as goal

pub returns-in-Values : goal.returns-in-Values
returns-in-Values c =
    let is = sym (ap values_in c.in-Values.is) ∙ c.form.ensures.values in
    let lent = c.as_slice-values.result.now in
    c.set_where.ensures
    ∙ map-all_places is_null Null (map owned lent) (length lent) (length-map lent owned)
    ∙ ap (λ l. map is_null (map owned l)) c.as_slice-values.ensures.value
    ∙ ap (map is_null) is

pub returns-in-Constant : goal.returns-in-Constant
returns-in-Constant c =
    let is = sym (ap values_in c.in-Constant.is) ∙ c.form.ensures.values in
    c.set_all.ensures
    ∙ ap (λ (b : Bool). replicate c.in-Constant.len b) c.is_null.ensures
    ∙ sym (map-replicate is_null c.in-Constant.len (owned c.in-Constant.value))
    ∙ ap (map is_null) is
