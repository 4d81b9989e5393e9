use Rattle.std.proofs.Common.{◌∙◌, ◌++◌, ◌+◌, [], ℕ, ap, arith, get_or, length, length-append, sym}
use Rattle.std.proofs.lemmas.List.{get_or-append-add, get_or_append_left}
use Rattle.cq_segments_pieces.specs.Marked.{rows_of}
use Rattle.cq_segments_pieces.specs.Pieces.{joined}
use Rattle.cq_segments_pieces.proofs.Marks.{length-flags, length-rows_of, rows_of-append, rows_of-flags}
use Rattle.cq_writestore.specs.Writes.{tail_rows}
use Rattle.cq_writestore.proofs.SpotLists.{in_all, row_read}
use Rattle.cq_writestore.proofs.written.Written.at.Goals as goal

pub row_at-requires : goal.row_at-requires
row_at-requires c =
    let w = c.args.self.now in
    omega (arith, c.requires, c.in-Behind.ensures, length-append (joined w.pieces.now) (tail_rows w.tail), length-flags w.tail.rows.now w.tail.marks.now)

pub returns-in-InPiece : goal.returns-in-InPiece
returns-in-InPiece c =
    let w = c.args.self.now in
    let held = joined w.pieces.now in
    let tail = tail_rows w.tail in
    let place = c.args.place in
    let k = c.in-InPiece.piece in
    let at = c.in-InPiece.at in
    let is = c.in-InPiece.ensures in
    c.row.ensures ∙ ap (λ l. get_or l at []) c.columns.ensures ∙ row_read w.pieces.now place k at is c.index-pieces-piece.result c.index-pieces-piece.is
    ∙ sym (get_or_append_left (rows_of held) (rows_of tail) [] place (omega (arith, in_all w.pieces.now place k at is, length-rows_of held)))
    ∙ ap (λ l. get_or l place []) (sym (rows_of-append held tail))

pub returns-in-Behind : goal.returns-in-Behind
returns-in-Behind c =
    let w = c.args.self.now in
    let held = joined w.pieces.now in
    let tail = tail_rows w.tail in
    let at = c.in-Behind.at in
    c.row_at.ensures ∙ ap (λ l. get_or l at []) (sym (rows_of-flags w.tail.rows.now w.tail.marks.now))
    ∙ sym (get_or-append-add (rows_of held) (rows_of tail) at [])
    ∙ ap (λ (n : ℕ). get_or (rows_of held ++ rows_of tail) n []) {x = length (rows_of held) + at} {y = c.args.place} (omega (arith, c.in-Behind.ensures, length-rows_of held))
    ∙ ap (λ l. get_or l c.args.place []) (sym (rows_of-append held tail))
