use Rattle.std.proofs.Common.{◌≡◌, ◌∙◌, false, ap, arith, length, sym, take}
use Rattle.std.proofs.lemmas.List.{length-map, take_all}
use Rattle.std.proofs.lemmas.Result.{IfOk-weaker}
use Rattle.cq_segments_pieces.specs.Marked.{MarkedRow, live, unmarked}
use Rattle.cq_values.specs.Value.{Row}
use Rattle.cq_segments_pieces.proofs.Marks.{live-unmarked}
use Rattle.cq_table_columns.specs.Stored.{stored_marked}
use Rattle.cq_engine_queue.proofs.change.lent_rows.Goals as goal

pub new-requires : goal.new-requires
new-requires c = c.len-count.ensures.len ∙ sym (ap (λ rows. length (live rows)) c.of_new.ensures ∙ ap length (live-unmarked c.args.rows.now))

pub returns : goal.returns
returns c =
    let rows = c.args.rows.now in
    let mark : Row → MarkedRow = λ row. record { row = row; marked = false } in
    let count = c.len-count.result in
    let marked : stored_marked c.new.result ≡ unmarked rows = c.new.ensures.stored ∙ c.of_new.ensures in
    let all : take count (unmarked rows) ≡ unmarked rows = take_all count (unmarked rows) (omega (arith, c.len-count.ensures.len, length-map rows mark)) in
    IfOk-weaker c.first_live.result _ _ (λ lent is. is ∙ ap live (ap (take count) marked ∙ all) ∙ live-unmarked rows) c.first_live.ensures
