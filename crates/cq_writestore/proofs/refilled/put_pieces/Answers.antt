use Rattle.std.proofs.Common.{◌∙◌, ◌++◌, List, ap, subst, sym}
use Rattle.cq_values.specs.Value.{Row}
use Rattle.cq_segments_pieces.specs.Marked.{rows_of}
use Rattle.cq_segments_pieces.specs.Pieces.{joined}
use Rattle.cq_segments_pieces.proofs.Marks.{rows_of-append}
use Rattle.cq_writestore_rows.specs.Filling.{CanTake}
use Rattle.cq_writestore_rows.proofs.Adding.{can-front, left-can, left-rows}
use Rattle.cq_writestore.proofs.refilled.put_pieces.Goals as goal

pub put_columns-requires : goal.put_columns-requires
put_columns-requires c =
    let l = c.loop-piece in
    let rest = c.next.new.self.rest.items in
    let back = rows_of (joined rest) in
    let are = ap (λ ps. rows_of (joined ps)) c.in-Some.ensures.steps.0 ∙ rows_of-append c.in-Some.piece (joined rest) ∙ ap (λ rs. rs ++ back) (sym c.columns.ensures) in
    can-front c.columns.result.now back l.filling (subst (λ (rs : List Row). CanTake rs l.filling) are l.invariant.can)

pub loop-piece-preserved : goal.loop-piece-preserved
loop-piece-preserved c =
    let l = c.loop-piece in
    let rest = c.next.new.self.rest.items in
    let back = rows_of (joined rest) in
    let here = c.columns.result.now in
    let are = ap (λ ps. rows_of (joined ps)) c.in-Some.ensures.steps.0 ∙ rows_of-append c.in-Some.piece (joined rest) ∙ ap (λ rs. rs ++ back) (sym c.columns.ensures) in
    let adds = c.in_ok-put_columns.ensures in
    record {
      rows = left-rows _ here back are l.filling c.put_columns.new.filling adds _ l.invariant.rows;
      can = left-can _ here back are l.filling c.put_columns.new.filling adds l.invariant.can;
      wide = adds.wide ∙ l.invariant.wide;
    }
