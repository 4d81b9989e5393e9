use Rattle.std.proofs.Common.{◌∙◌, ◌≡◌, ap, arith, length, map, sym}
use Rattle.std.proofs.lemmas.List.{length-map}
use Rattle.cq_model.specs.Condition.{is_null, liked}
use Rattle.cq_vectors_stored.specs.LentColumns.{texts_from}
use Rattle.cq_prims_texts.proofs.RunTruths.{liked_part}
use Rattle.cq_prims_texts.proofs.likes.like_run.Goals as goal

pub set_known_by-requires : goal.set_known_by-requires
set_known_by-requires c = omega (arith, ap length c.nulls.ensures, length-map c.args.part.now is_null, c.len-len.ensures.len)

pub returns : goal.returns
returns c =
    let part = c.args.part.now in
    let flags = c.nulls.result.now in
    let texts = c.parts-start.result.0.now in
    let start = c.parts-start.result.1 in
    let long : length flags ≡ length part = ap length c.nulls.ensures ∙ length-map part is_null in
    c.set_known_by.ensures ∙ liked_part texts start flags (omega (arith, long, c.parts-start.ensures.there)) c.args.pattern.now
    ∙ ap (map (λ v. liked v c.args.pattern.now)) (ap (texts_from texts start) c.nulls.ensures ∙ sym c.parts-start.ensures.whole)
