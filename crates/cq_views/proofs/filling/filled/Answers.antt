use Rattle.std.proofs.Common.{rules}
use Rattle.cq_views.proofs.Bags.{cut-bags}
use Rattle.cq_views.proofs.Filled.{counted-anew, start-can}
use Rattle.cq_views.proofs.Told.{start-wide}
use Rattle.cq_views.specs.Cut.{cut_bags}
use Rattle.cq_views.proofs.Taking.{bags_at-bags}
use Rattle.cq_views.specs.Filling.{bags_at}
use Rattle.cq_views.proofs.filling.filled.Goals as goal

pub fill-requires : goal.fill-requires
fill-requires c =
    let empty = c.in_ok-view in
    let columns = c.args.columns.now in
    let rows = bags_at c.args.tables.now in
    start-can empty.view c.args.query (cut_bags columns rows) empty.ensures.query c.requires (cut-bags columns rows (bags_at-bags c.args.tables.now)) empty.ensures.stands
    (start-wide empty.view columns c.args.query rows empty.ensures.query empty.ensures.widths)

pub returns-in-Ok : goal.returns-in-Ok
returns-in-Ok c =
    let empty = c.in_ok-view in
    let taken = counted-anew c.args.columns.now c.args.query c.args.epoch (bags_at c.args.tables.now) empty.view c.fill.new.view
    empty.ensures.query empty.ensures.widths empty.ensures.epoch empty.ensures.built empty.ensures.stands c.in-Ok.ensures in
    search (rules, taken)
