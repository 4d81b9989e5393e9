use Rattle.std.proofs.Common.{◌∙◌, ◌≡◌, ◌≤◌, ℕ, Bool, List, ap, arith, false, get_or, length, subst, sym}
use Rattle.std.proofs.lemmas.List.{length-map, take_all}
use Rattle.cq_encodings.specs.Texts.{text_values}
use Rattle.cq_values.specs.declared.value.Value.TheVariants.{Text}
use Rattle.cq_vectors_stored.specs.Columns.{text_unless}
use Rattle.cq_segments.proofs.PieceColumns.{first_plane, zip_clear}
use Rattle.cq_segments.proofs.pieces_texts.whole_texts.Goals as goal

pub returns-then-is_clear : goal.returns-then-is_clear
returns-then-is_clear c =
    let run = c.parts.result.0.now in
    let flags = c.parts.result.1.now in
    let few : length flags ≤ 1024 = omega (arith, c.parts.ensures.long, c.if-len.true, c.len.ensures.len, c.requires) in
    let plane = c.in_ok-plane.ensures.there ∙ first_plane flags few in
    let clear = subst (λ (fs : List Bool). (k : ℕ) → get_or fs k false ≡ false) plane c.if-is_clear.ensures in
    let same : c.args.plain.now ≡ text_values run = c.parts.ensures.whole ∙ zip_clear text_unless run flags c.parts.ensures.long clear in
    let all : length c.args.plain.now ≤ 1024 = omega (arith, ap length same, length-map run Text, c.parts.ensures.long, few) in
    sym (take_all 1024 c.args.plain.now all ∙ same)
