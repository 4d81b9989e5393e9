use Rattle.std.proofs.Common.{◌≡◌, ◌∷◌, [], List, Bool, subst, sym, arith, rules}
use Rattle.cq_encodings_plain.specs.Nulls.{ArePieces, joined}
use Rattle.cq_encodings_plain.proofs.Pieces.{one_piece}
use Rattle.cq_encodings_plain.proofs.nulls.Nulls.of_plane.Goals as goal

pub invariant_of-result : goal.invariant_of-result
invariant_of-result c =
    let made : c.push.new.self.items ≡ c.args.plane ∷ [] = search rules in
    subst (λ (l : List (List Bool)). ArePieces l (joined l)) (sym made) (one_piece c.args.plane (omega (arith, c.len-len.ensures.len, c.len-len.ensures.few)))
