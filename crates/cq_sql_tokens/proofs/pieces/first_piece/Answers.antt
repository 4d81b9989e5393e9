use Rattle.std.proofs.Common.{◌≡◌, length, get_or, arith, rules, ap, ◌∙◌, sym, ℕ, List}
use Rattle.std.proofs.lemmas.Str.{IsCharBoundary-after_ascii}
use Rattle.cq_sql_tokens.proofs.FirstPieces.{first_cut, no_cut}
use Rattle.cq_sql_tokens.proofs.pieces.first_piece.Goals as goal

-- a character begins after the semicolon
pub range_from-requires : goal.range_from-requires
range_from-requires c =
    let same = c.as_bytes.ensures.value in
    let end : ℕ = c.first_cut-cut.result.end in
    let semicolon : get_or c.as_bytes.result.now end 0 ≡ 59 = c.first_cut-cut.ensures.semicolon (omega (arith, ap (λ (xs : List ℕ). length xs) same)) in
    let here : get_or c.args.text.now end 0 ≡ 59 = ap (λ (xs : List ℕ). get_or xs end 0) (sym same) ∙ semicolon in
    λ _. IsCharBoundary-after_ascii c.args.text.now end c.utf8.text c.if-cut-text.true (omega (arith, here))

pub returns-then-cut-text : goal.returns-then-cut-text
returns-then-cut-text c =
    first_cut c.args.text.now c.as_bytes.result.now c.first_cut-cut.result.end c.first_cut-cut.result.blank c.as_bytes.ensures.value c.first_cut-cut.ensures.end c.first_cut-cut.ensures.blank c.range.result.now c.range_from.result.now c.if-cut-text.true (search rules) (search rules)

pub returns-else-cut-text : goal.returns-else-cut-text
returns-else-cut-text c =
    no_cut c.args.text.now c.as_bytes.result.now c.first_cut-cut.result.end c.first_cut-cut.result.blank c.as_bytes.ensures.value c.first_cut-cut.ensures.end c.first_cut-cut.ensures.blank c.if-cut-text.false
