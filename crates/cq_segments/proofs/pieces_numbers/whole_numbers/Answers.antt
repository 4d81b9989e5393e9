use Rattle.std.proofs.Common.{◌∙◌, ◌≡◌, ◌≤◌, ℕ, Bool, List, ap, arith, false, get_or, length, subst, sym}
use Rattle.std.proofs.lemmas.List.{length-map, take_all}
use Rattle.cq_encodings_plain.specs.Kind.{datum, number_values}
use Rattle.cq_segments.proofs.PieceColumns.{first_plane, zip_clear}
use Rattle.cq_segments.proofs.pieces_numbers.whole_numbers.Goals as goal

pub returns-then-is_clear : goal.returns-then-is_clear
returns-then-is_clear c =
    let kind = c.parts-kind.result.0 in
    let numbers = c.parts-kind.result.1.now in
    let flags = c.parts-kind.result.2.now in
    let few : length flags ≤ 1024 = omega (arith, c.parts-kind.ensures.long, c.if-numbers-len.true, c.requires) in
    let plane = c.in_ok-plane.ensures.there ∙ first_plane flags few in
    let clear = subst (λ (fs : List Bool). (k : ℕ) → get_or fs k false ≡ false) plane c.if-is_clear.ensures in
    let same : c.args.plain.now ≡ number_values kind numbers = c.parts-kind.ensures.whole ∙ zip_clear (datum kind) numbers flags c.parts-kind.ensures.long clear in
    let all : length c.args.plain.now ≤ 1024 =
    omega (arith, ap length same, length-map numbers (λ number. datum kind number false), c.parts-kind.ensures.long, few) in
    sym (take_all 1024 c.args.plain.now all ∙ same)
