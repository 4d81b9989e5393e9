use Rattle.std.proofs.Common.{◌∙◌, Bool, List, ap, ap₂, arith, get_or, length, pos, subst, sym}
use Rattle.std.specs.Simd.Lanes.{zip2}
use Rattle.std.proofs.lemmas.Simd.{length-zip2}
use Rattle.cq_encodings_plain.specs.Kind.{datum}
use Rattle.cq_encodings_plain.specs.declared.kind.Kind.TheVariants.{Numbers}
use Rattle.cq_encodings_plain.specs.Nulls.{NothingWhere}
use Rattle.cq_encodings_vectors.specs.Parts.{items_of}
use Rattle.cq_encodings_vectors.proofs.Packing.{number_datum}
use Rattle.cq_encodings_vectors.proofs.PartsLemmas.{clear-part, few-part, same-part, zip2-part}
use Rattle.cq_vectors_stored.specs.Columns.{number_unless}
use Rattle.cq_encodings_vectors.proofs.numbers.lend_numbers.Goals as goal

pub numbers_of-numbers-requires : goal.numbers_of-numbers-requires
numbers_of-numbers-requires c =
    let parts = c.parts-kind in
    omega (arith, c.requires, ap length parts.ensures.whole, length-zip2 (datum parts.result.0) parts.result.1.now parts.result.2.now (sym parts.ensures.long))

pub new-requires-clause-few : goal.new-requires-clause-few
new-requires-clause-few c = omega (arith, ap length c.numbers_of-numbers.ensures.part, few-part c.args.k c.parts-kind.result.1.now)

pub new-requires-clause-same : goal.new-requires-clause-same
new-requires-clause-same c =
    ap length c.in_ok-plane.ensures.there ∙ same-part (pos 0) c.args.k c.parts-kind.result.1.now c.parts-kind.result.2.now c.parts-kind.ensures.long ∙ sym (ap length c.numbers_of-numbers.ensures.part)

pub new-requires-clause-zero : goal.new-requires-clause-zero
new-requires-clause-zero c =
    let all = c.parts-kind.result.1.now in
    let flags = c.parts-kind.result.2.now in
    let k = c.args.k in
    subst (λ (bs : List Bool). NothingWhere (pos 0) bs c.numbers_of-numbers.result.now) (sym c.in_ok-plane.ensures.there)
    (subst (NothingWhere (pos 0) (items_of k flags)) (sym c.numbers_of-numbers.ensures.part) (clear-part (pos 0) k all flags c.parts-kind.ensures.long c.parts-kind.ensures.clear))

pub returns-in-Numbers : goal.returns-in-Numbers
returns-in-Numbers c =
    let all = c.parts-kind.result.1.now in
    let flags = c.parts-kind.result.2.now in
    let k = c.args.k in
    c.new.ensures
    ∙ ap₂ (zip2 number_unless) c.numbers_of-numbers.ensures.part c.in_ok-plane.ensures.there
    ∙ zip2-part (pos 0) k all flags c.parts-kind.ensures.long number_unless (datum Numbers) (λ j b. number_datum (get_or all j (pos 0)) b)
    ∙ ap (items_of k) (sym (c.parts-kind.ensures.whole ∙ ap (λ kind. zip2 (datum kind) all flags) c.in-Numbers.is))
