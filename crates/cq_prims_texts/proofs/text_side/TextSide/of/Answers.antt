use Rattle.std.proofs.Common.{◌∙◌, sym, ap, subst}
use Rattle.cq_vectors.specs.Form.{values_in}
use Rattle.cq_vectors_stored.specs.Columns.{texts_of}
use Rattle.cq_prims_texts.specs.Kinds.{ShowsTexts}
use Rattle.cq_prims_texts.proofs.Shown.{column_shows_texts}
use Rattle.cq_prims_texts.proofs.text_side.TextSide.of.Goals as goal

pub returns-in-Texts : goal.returns-in-Texts
returns-in-Texts c =
    let is = sym (ap values_in c.in-Texts.is) ∙ c.form.ensures.values in
    subst (ShowsTexts c.column.result) is (column_shows_texts c.column.result (texts_of c.values.result.now) c.in-Texts.texts (c.column.ensures ∙ c.values.ensures.values) c.values.ensures.whole)
