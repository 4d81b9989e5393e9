use Rattle.std.proofs.Common.{◌<◌, ◌∙◌, [], ap, arith, get_or, length, sym}
use Rattle.cq_segments_pieces.specs.Marked.{live, rows_of}
use Rattle.cq_writestore.specs.Writes.{tail_rows}
use Rattle.cq_table_columns.specs.Stored.{front_rows}
use Rattle.cq_table_columns.proofs.LiveRows.{live_row}
use Rattle.cq_table_columns.proofs.front.Front.row.Goals as goal

pub returns-in-Marked : goal.returns-in-Marked
returns-in-Marked c =
    let place = c.args.place in
    let stored = c.in-Marked.piece.now in
    let lt : place < length (live stored) = omega (arith, c.requires, ap (λ f. length (front_rows f)) c.in-Marked.is) in
    c.row-in-Marked.ensures ∙ ap (λ l. get_or l c.live_place.result []) c.columns.ensures
    ∙ ap (λ n. get_or (rows_of stored) n []) c.live_place.ensures.place ∙ live_row stored place lt ∙ ap (λ f. get_or (front_rows f) place []) (sym c.in-Marked.is)

pub returns-in-Written : goal.returns-in-Written
returns-in-Written c =
    let place = c.args.place in
    let stored = tail_rows c.in-Written.written.written in
    let lt : place < length (live stored) = omega (arith, c.requires, ap (λ f. length (front_rows f)) c.in-Written.is) in
    c.row_at-in-Written.ensures ∙ ap (λ l. get_or l c.live_place-in-Written.result []) c.rows.ensures.rows
    ∙ ap (λ n. get_or (rows_of stored) n []) c.live_place-in-Written.ensures.place ∙ live_row stored place lt ∙ ap (λ f. get_or (front_rows f) place []) (sym c.in-Written.is)
