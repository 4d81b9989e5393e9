use Rattle.std.proofs.Common.{◌≡◌, ◌∙◌, ◌∷◌, ◌++◌, sym, ap, subst, arith, [], List, ℕ, All, true}
use Rattle.std.specs.Str.{chars, IsUtf8}
use Rattle.std.proofs.lemmas.Str.Pattern.{split_parts}
use Rattle.std.proofs.lemmas.List.Elements.{All-push}
use Rattle.cq_model.specs.Like.{percent}
use Rattle.cq_prims_like.specs.Patterns.{closed, is_ordinary, IsPiece}
use Rattle.cq_prims_like.proofs.PieceLemmas.{one_piece_more, parts_valid}
use Rattle.cq_prims_like.proofs.pieces.pieces_of.Goals as goal

pub loop-piece-preserved : goal.loop-piece-preserved
loop-piece-preserved c =
    let rest = c.loop-piece.rest.now in
    let pieces = c.loop-piece.pieces.items in
    let piece = c.in-Some-split_once.piece.now in
    let more = c.in-Some-split_once.more.now in
    let known = c.loop-piece.invariant in
    let parts = rw c.in-Some-split_once.is at (split_parts percent rest c.split_once.result c.split_once.ensures.cases (omega arith)) in
    let split : rest ≡ piece ++ percent ∷ more = parts.0 in
    let valid = parts_valid piece more rest split known.0 in
    let kept : c.new.result ≡ piece = c.new.ensures ∙ c.as_bytes.ensures.value in
    let items : c.push.new.self.items ≡ pieces ++ piece ∷ [] = c.in_ok-push.ensures.items ∙ ap (λ (l : List ℕ). pieces ++ l ∷ []) kept in
    let ordinary : is_ordinary (chars piece) ≡ true = sym c.is_ordinary.ensures ∙ c.if-not-is_ordinary.false in
    subst (λ ps. IsUtf8 more × (c.args.pattern.now ≡ percent ∷ (closed ps ++ more)) × All IsPiece ps) (sym items)
    (valid.1, one_piece_more pieces piece more rest c.args.pattern.now known.1 split, All-push IsPiece pieces piece known.2 (valid.0, ordinary))
