use Rattle.std.proofs.Common.{map}
use Rattle.std.proofs.lemmas.Result.{on_ok_weaker}
use Rattle.cq_table_columns.specs.Stored.{front_rows}
use Rattle.cq_model.specs.Group.{key_of}
use Rattle.cq_views.proofs.Taking.{can-prepare, copies-filled}
use Rattle.cq_views.proofs.filling.fill_with.Goals as goal

pub take_in-requires : goal.take_in-requires
take_in-requires c =
    let once = c.in_ok-rows in
    rw (c.in_ok-push.ensures.items, c.new-changes.ensures.items)
    (can-prepare c.args.view.now c.args.source (map (key_of c.args.columns.now) (front_rows c.args.front.now)) once.rows.entries once.ensures.clean once.ensures.bag c.requires.can)

pub returns : goal.returns
returns c =
    let once = c.in_ok-rows in
    let gains = rw (c.in_ok-push.ensures.items, c.new-changes.ensures.items) at c.take_in.ensures.gains in
    on_ok_weaker c.take_in.result
    (copies-filled c.args.view.now c.args.source (map (key_of c.args.columns.now) (front_rows c.args.front.now)) once.rows.entries once.ensures.clean once.ensures.bag c.take_in.new.self)
    gains
