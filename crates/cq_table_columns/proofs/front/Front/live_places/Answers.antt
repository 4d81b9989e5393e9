use Rattle.std.proofs.Common.{◌∙◌, ap, sym}
use Rattle.std.specs.List.{range_with_len}
use Rattle.std.proofs.lemmas.Result.{IfOk-weaker}
use Rattle.cq_segments_pieces.specs.Marked.{live_from}
use Rattle.cq_table_columns.specs.Stored.{marked_rows}
use Rattle.cq_table_columns.proofs.LiveRows.{live_from-unmarked}
use Rattle.cq_table_columns.proofs.front.Front.live_places.Goals as goal

pub returns-in-Rows : goal.returns-in-Rows
returns-in-Rows c =
    let all = sym (live_from-unmarked 0 c.in-Rows.rows.now) ∙ ap (λ f. live_from 0 (marked_rows f)) (sym c.in-Rows.is) in
    IfOk-weaker c.first_places.result _ _ (λ places is. is ∙ all) c.first_places.ensures

pub returns-in-Columns : goal.returns-in-Columns
returns-in-Columns c =
    let all = ap (range_with_len 0) c.len.ensures.len ∙ sym (live_from-unmarked 0 c.in-Columns.columns.now) ∙ ap (λ f. live_from 0 (marked_rows f)) (sym c.in-Columns.is) in
    IfOk-weaker c.first_places-in-Columns.result _ _ (λ places is. is ∙ all) c.first_places-in-Columns.ensures
