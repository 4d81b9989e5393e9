use Rattle.std.proofs.Common.{◌≤◌, ◌+◌, ◌*◌, ◌++◌, [], ap, arith, length}
use Rattle.cq_model_state.specs.Fitting.{rows_limit}
use Rattle.cq_engine_tables.proofs.Held.{rows-held}
use Rattle.cq_engine_tables.proofs.Stored.{rows_stored}
use Rattle.cq_engine_writes.proofs.Checks.{few-enough}
use Rattle.cq_engine_writes.proofs.Telling.{at_most, change_by, inserted_change, tells}
use Rattle.cq_engine_writes.proofs.insertion.insert_into.Goals as goal

pub insert-requires-clause-room : goal.insert-requires-clause-room
insert-requires-clause-room c =
    let held = rows-held c.table.result.now c.args.table.now c.table.ensures in
    omega (arith, few-enough c.args.max_rows (c.len.result + c.len-2.result) c.in_ok-check_room.ensures, c.len.ensures, c.len-2.ensures.len, ap length held)

pub returns-clause-change : goal.returns-clause-change
returns-clause-change c =
    let t = c.args.table.now.is in
    let rows = c.args.rows in
    let few : length rows ≤ 2 * rows_limit = omega (arith, few-enough c.args.max_rows (c.len.result + c.len-2.result) c.in_ok-check_room.ensures, c.len-2.ensures.len, c.requires.limited) in
    tells c.args.asked t.number t.rows (t.rows ++ rows) (change_by t.number [] rows) (inserted_change t.number t.rows rows (rows_stored t.columns rows c.requires.rows) few)
    c.in_ok-change.change c.in_ok-change.ensures.there (rw (c.number.ensures, c.new-gone.ensures.items) at c.in_ok-change.ensures.is)

pub returns-clause-most : goal.returns-clause-most
returns-clause-most c =
    let rows = c.args.rows in
    at_most c.args.table.now.is.number (length rows) [] rows (omega arith) c.in_ok-change.change (rw (c.number.ensures, c.new-gone.ensures.items) at c.in_ok-change.ensures.is)
