use Rattle.std.proofs.Common.{◌∙◌, ◌*◌, Bool, List, [], ap, arith, drop, length, refl, subst, sym, take}
use Rattle.std.specs.Simd.Lanes.{zip2}
use Rattle.std.proofs.lemmas.Simd.{length-zip2}
use Rattle.cq_encodings_plain.specs.Nulls.{NothingWhere}
use Rattle.cq_encodings_vectors.specs.Parts.{items_of}
use Rattle.cq_encodings_vectors.proofs.PartsLemmas.{clear-part, part-taken, part-within, zip2-part}
use Rattle.cq_vectors_stored.specs.Columns.{text_unless}
use Rattle.cq_encodings_vectors.proofs.texts.lend_texts.Goals as goal

pub new-requires-clause-there : goal.new-requires-clause-there
new-requires-clause-there c =
    let all = c.parts.result.0.now in
    let flags = c.parts.result.1.now in
    let long = c.parts.ensures.long in
    omega (
      arith,
      ap length c.in_ok-plane.ensures.there,
      part-within [] c.args.k all flags long (omega (arith, c.requires, ap length c.parts.ensures.whole, length-zip2 text_unless all flags (sym long))),
    )

pub new-requires-clause-clear : goal.new-requires-clause-clear
new-requires-clause-clear c =
    let all = c.parts.result.0.now in
    let flags = c.parts.result.1.now in
    let k = c.args.k in
    subst (λ (bs : List Bool). NothingWhere [] bs (take (length bs) (drop (1024 * k) all))) (sym c.in_ok-plane.ensures.there)
    (subst (NothingWhere [] (items_of k flags)) (sym (part-taken [] k all flags c.parts.ensures.long)) (clear-part [] k all flags c.parts.ensures.long c.parts.ensures.clear))

pub returns : goal.returns
returns c =
    let all = c.parts.result.0.now in
    let flags = c.parts.result.1.now in
    let k = c.args.k in
    c.new.ensures
    ∙ ap (λ (bs : List Bool). zip2 text_unless (take (length bs) (drop (1024 * k) all)) bs) c.in_ok-plane.ensures.there
    ∙ ap (λ xs. zip2 text_unless xs (items_of k flags)) (part-taken [] k all flags c.parts.ensures.long)
    ∙ zip2-part [] k all flags c.parts.ensures.long text_unless text_unless (λ j b. refl)
    ∙ ap (items_of k) (sym c.parts.ensures.whole)
