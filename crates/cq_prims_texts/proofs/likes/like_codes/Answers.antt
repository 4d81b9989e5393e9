use Rattle.std.proofs.Common.{◌∙◌, ap, arith, length}
use Rattle.std.proofs.lemmas.List.{length-map}
use Rattle.cq_model.specs.Condition.{is_null}
use Rattle.cq_vectors_stored.specs.Offsets.{offsets_in}
use Rattle.cq_prims_texts.specs.Bytes.{entry_bytes}
use Rattle.cq_prims_texts.proofs.Shown.{codes_show_texts}
use Rattle.cq_prims_texts.proofs.Liked.{by_liked_texts}
use Rattle.cq_prims_texts.proofs.likes.like_codes.Goals as goal

pub set_known_by-requires : goal.set_known_by-requires
set_known_by-requires c = omega (arith, ap length c.nulls-nulls.ensures, length-map c.args.texts.now is_null, c.parts.ensures.long)

pub returns : goal.returns
returns c =
    let values = c.args.texts.now in
    let entries = c.parts.result.0.now in
    let codes = offsets_in c.parts.result.1 in
    let flags = c.nulls-nulls.result.now in
    c.set_known_by.ensures ∙ by_liked_texts c.args.pattern.now values (entry_bytes entries codes flags) flags (codes_show_texts entries codes values c.parts.ensures.whole flags c.nulls-nulls.ensures) c.nulls-nulls.ensures
