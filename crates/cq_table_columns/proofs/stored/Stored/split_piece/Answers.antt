use Rattle.std.proofs.Common.{◌∙◌, ◌++◌, ap, arith, length, sym}
use Rattle.cq_segments_pieces.specs.Marked.{live}
use Rattle.cq_segments_pieces.specs.Pieces.{joined}
use Rattle.cq_writestore.specs.Writes.{written_rows}
use Rattle.cq_table_columns.specs.Stored.{stored_marked}
use Rattle.cq_table_columns.proofs.Parts.{first_piece}
use Rattle.cq_table_columns.proofs.stored.Stored.split_piece.Goals as goal

pub overflow_sub-rest : goal.overflow_sub-rest
overflow_sub-rest c =
    let source = c.entered-source.result in
    let parts = first_piece (stored_marked c.args.self.now) source.pieces.now c.in-Some.pieces.now source.segments.now (written_rows source.written) c.in-Some.piece.now c.entered-source.ensures.same c.in-Some.ensures.cases.0 in
    omega (arith, c.len.ensures, ap length c.of_piece-front.ensures.rows, parts.count, source.counted, ap (λ s. length (live s)) c.entered-source.ensures.same)

pub invariant_of-rest : goal.invariant_of-rest
invariant_of-rest c =
    let source = c.entered-source.result in
    let parts = first_piece (stored_marked c.args.self.now) source.pieces.now c.in-Some.pieces.now source.segments.now (written_rows source.written) c.in-Some.piece.now c.entered-source.ensures.same c.in-Some.ensures.cases.0 in
    record { counted = omega (arith, c.len.ensures, ap length c.of_piece-front.ensures.rows, parts.count, source.counted, ap (λ s. length (live s)) c.entered-source.ensures.same) }

pub returns-in-Some-clause-rows : goal.returns-in-Some-clause-rows
returns-in-Some-clause-rows c =
    let source = c.entered-source.result in
    let parts = first_piece (stored_marked c.args.self.now) source.pieces.now c.in-Some.pieces.now source.segments.now (written_rows source.written) c.in-Some.piece.now c.entered-source.ensures.same c.in-Some.ensures.cases.0 in
    parts.rows ∙ ap (λ l. l ++ live (joined c.in-Some.pieces.now ++ joined source.segments.now ++ written_rows source.written)) (sym c.of_piece-front.ensures.rows)
