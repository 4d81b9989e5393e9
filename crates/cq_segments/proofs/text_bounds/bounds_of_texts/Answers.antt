use Rattle.std.proofs.Common.{◌≡◌, ◌∙◌, ap, sym, subst, Bor, List, ℕ, ◌++◌}
use Rattle.std.proofs.lemmas.Result.{IfOk-weaker}
use Rattle.cq_encodings.specs.Dict.{different_texts}
use Rattle.cq_encodings.specs.Texts.{text_values}
use Rattle.cq_segments.specs.Texts.{AreTextEnds, text_ends}
use Rattle.cq_vectors_stored.specs.Columns.{texts_of}
use Rattle.cq_segments.proofs.TextEnds.{copied_bounds, different_ends}
use Rattle.cq_segments.proofs.text_bounds.bounds_of_texts.Goals as goal

pub returns-in_ok-lend_behind-in-Dict : goal.returns-in_ok-lend_behind-in-Dict
returns-in_ok-lend_behind-in-Dict c =
    let texts = texts_of c.args.texts.now in
    let entries = c.parts.result.0.now in
    let ends = text_ends c.ends_of.result in
    let same : c.in-Dict.dict ≡ text_values texts = rw c.in-Dict.is at c.requires in
    let lent : texts_of c.deref.result.now ≡ entries =
    ap texts_of c.deref.ensures.value ∙ c.in_ok-lend_behind-in-Dict.ensures ∙ ap (λ (items : List (Bor (List ℕ))). texts_of items ++ entries) c.new-different.ensures.items in
    let bounds = different_ends ends entries texts c.parts.result.1.now c.parts.result.2.now (c.parts.ensures.different ∙ ap different_texts same) (sym same ∙ c.parts.ensures.whole)
    c.parts.ensures.parts.known (subst (AreTextEnds ends) lent c.ends_of.ensures) in
    IfOk-weaker c.held.result _ _ (λ b is. copied_bounds b.has_null b.ends ends (text_values texts) is bounds) c.held.ensures

pub returns-in_default : goal.returns-in_default
returns-in_default c =
    let values = text_values (texts_of c.args.texts.now) in
    IfOk-weaker c.held-in_default.result _ _ (λ b is. copied_bounds b.has_null b.ends (text_ends c.ends_of-in_default.result) values is c.ends_of-in_default.ensures)
    c.held-in_default.ensures
