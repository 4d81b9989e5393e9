use Rattle.std.proofs.Common.{◌≡◌, ◌∙◌, ap, nat_eq, sym}
use Rattle.std.proofs.lemmas.Bool.{OnTrue_from, eqb-true}
use Rattle.cq_segments_pieces.specs.Marked.{marked_count, rows_of, unmarked}
use Rattle.cq_segments_pieces.proofs.Marks.{none-marked}
use Rattle.cq_segments_pieces.proofs.piece.Piece.is_whole.Goals as goal

pub returns : goal.returns
returns c =
    OnTrue_from (nat_eq c.self.inside.marked 0) (c.args.self.now ≡ unmarked (rows_of c.args.self.now))
    (λ e. none-marked c.args.self.now (ap marked_count (sym c.self.view_is) ∙ sym c.self.invariant.count ∙ eqb-true c.self.inside.marked 0 e))
