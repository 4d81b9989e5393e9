use Rattle.std.proofs.Common.{List, [], arith, refl}
use Rattle.std.proofs.lemmas.List.Folds.{length-flat_map-take}
use Rattle.std.proofs.lemmas.List.Sorted.{IsPermutation-refl}
use Rattle.cq_segments_pieces.specs.Marked.{MarkedRow, rows_of}
use Rattle.cq_segments_pieces.specs.Pieces.{joined}
use Rattle.cq_segments.proofs.SegmentRows.{is_built}
use Rattle.cq_segments.proofs.segment.Segment.of_pieces.Goals as goal

pub overflow_add-len : goal.overflow_add-len
overflow_add-len c =
    omega (
      arith,
      c.loop-piece.invariant,
      c.len-len.ensures.few,
      c.requires.few,
      length-flat_map-take (λ (l : List MarkedRow). l) c.args.pieces.now c.loop-piece.piece-index [] c.loop-piece-test.true,
    )

pub returns : goal.returns
returns c =
    let rows = rows_of (joined c.args.pieces.now) in
    is_built rows rows c.in_ok-built.built c.in_ok-built.ensures (IsPermutation-refl rows) [] (λ k d low high. refl) (λ x. refl)
