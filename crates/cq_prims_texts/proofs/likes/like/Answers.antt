use Rattle.std.proofs.Common.{◌∙◌, sym, ap, arith, length, map, replicate}
use Rattle.std.proofs.lemmas.Simd.{length-replicate}
use Rattle.cq_values.specs.Lent.{owned}
use Rattle.cq_values.specs.declared.truth.Truth.{Truth}
use Rattle.cq_prims_lanes.proofs.Places.{map-replicate}
use Rattle.cq_model.specs.Condition.{liked}
use Rattle.cq_vectors.specs.Form.{values_in}
use Rattle.cq_vectors_stored.specs.Columns.{texts_of}
use Rattle.cq_prims_texts.proofs.Shown.{column_shows_texts}
use Rattle.cq_prims_texts.proofs.Liked.{by_liked_texts}
use Rattle.cq_prims_texts.proofs.likes.like.Goals as goal

pub returns-in-Texts : goal.returns-in-Texts
returns-in-Texts c =
    let is = sym (ap values_in c.in-Texts.is) ∙ c.form.ensures.values in
    let texts = texts_of c.values-texts.result.now in
    let shown = column_shows_texts texts texts c.in-Texts.texts c.values-texts.ensures.values c.values-texts.ensures.whole in
    c.set_known_by.ensures
    ∙ by_liked_texts c.args.pattern.now c.in-Texts.texts texts c.nulls-nulls.result.now shown c.nulls-nulls.ensures
    ∙ ap (map (λ v. liked v c.args.pattern.now)) is

pub returns-in-Run : goal.returns-in-Run
returns-in-Run c = c.like_run.ensures ∙ ap (map (λ v. liked v c.args.pattern.now)) (sym (ap values_in c.in-Run.is) ∙ c.form.ensures.values)

pub set_all-requires : goal.set_all-requires
set_all-requires c =
    let is = sym (ap values_in c.in-Constant.is) ∙ c.form.ensures.values in
    omega (arith, ap length is, length-replicate c.in-Constant.len (owned c.in-Constant.value), c.form.ensures.few)

pub returns-in-Constant : goal.returns-in-Constant
returns-in-Constant c =
    let is = sym (ap values_in c.in-Constant.is) ∙ c.form.ensures.values in
    let one = c.in-Constant in
    c.set_all.ensures
    ∙ ap (λ (t : Truth). replicate one.len t) c.like_one.ensures
    ∙ sym (map-replicate (λ v. liked v c.args.pattern.now) one.len (owned one.value))
    ∙ ap (map (λ v. liked v c.args.pattern.now)) is
