use Rattle.std.proofs.Common.{◌∙◌, ◌*◌, ◌<◌, ℕ, [], ap, ap₂, arith, drop, get_or, length, refl, subst, sym}
use Rattle.std.specs.Simd.Lanes.{zip2}
use Rattle.std.proofs.lemmas.List.Elements.{All-drop, All-take}
use Rattle.cq_encodings_vectors.specs.Parts.{items_of}
use Rattle.cq_encodings_vectors.proofs.PartsLemmas.{clear-shown, few-part, length-made, same-part, zip2-made, zip2-part}
use Rattle.cq_vectors_stored.specs.Columns.{text_unless}
use Rattle.cq_vectors_stored.specs.LentColumns.{AreCodes, entry_unless}
use Rattle.cq_encodings_vectors.proofs.texts.lend_dict.Goals as goal

pub lend_offsets-requires : goal.lend_offsets-requires
lend_offsets-requires c =
    let long = length-made text_unless (λ code. get_or c.parts.result.0.now code []) c.parts.result.1.now c.parts.result.2.now c.parts.ensures.parts.long in
    omega (arith, c.requires, ap length c.parts.ensures.whole, long)

pub new-requires-clause-few : goal.new-requires-clause-few
new-requires-clause-few c = omega (arith, ap length c.in_ok-codes.ensures, few-part c.args.k c.parts.result.1.now)

pub new-requires-clause-same : goal.new-requires-clause-same
new-requires-clause-same c =
    ap length c.in_ok-plane.ensures.there ∙ same-part 0 c.args.k c.parts.result.1.now c.parts.result.2.now c.parts.ensures.parts.long ∙ sym (ap length c.in_ok-codes.ensures)

pub new-requires-clause-clear : goal.new-requires-clause-clear
new-requires-clause-clear c =
    let parts = c.parts.ensures.parts in
    clear-shown 0 c.args.k c.parts.result.1.now c.parts.result.2.now parts.long c.in_ok-codes.ensures c.in_ok-plane.ensures.there parts.clear

pub new-requires-clause-known : goal.new-requires-clause-known
new-requires-clause-known c =
    let entries = c.parts.result.0.now in
    let all = c.parts.result.1.now in
    let known = λ (code : ℕ). code < length entries in
    subst (AreCodes entries) (sym c.in_ok-codes.ensures) (All-take known 1024 (drop (1024 * c.args.k) all) (All-drop known (1024 * c.args.k) all c.parts.ensures.parts.known))

pub returns : goal.returns
returns c =
    let entries = c.parts.result.0.now in
    let all = c.parts.result.1.now in
    let flags = c.parts.result.2.now in
    let k = c.args.k in
    c.new.ensures
    ∙ ap₂ (zip2 (entry_unless entries)) c.in_ok-codes.ensures c.in_ok-plane.ensures.there
    ∙ zip2-part 0 k all flags c.parts.ensures.parts.long (entry_unless entries) (entry_unless entries) (λ j b. refl)
    ∙ ap (items_of k) (sym (c.parts.ensures.whole ∙ zip2-made text_unless (λ code. get_or entries code []) all flags))
