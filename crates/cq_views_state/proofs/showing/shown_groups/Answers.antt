use Rattle.std.proofs.Common.{◌≡◌, rules}
use Rattle.cq_model.specs.declared.fault.ShowFault.TheVariants.{SumOutOfRange}
use Rattle.cq_views_state.proofs.Showings.{groups-in_range, groups-out_of_range, groups-shown, items-shown}
use Rattle.cq_views_state.proofs.Sizing.{all-narrow, groups-sized}
use Rattle.cq_views_state.specs.Shown.{ShowsOutOfRange}
use Rattle.cq_views_state.specs.declared.last.Last.TheVariants.{Groups}
use Rattle.cq_views_state.proofs.showing.shown_groups.Goals as goal

pub returns-in_err-rows-clause-fault : goal.returns-in_err-rows-clause-fault
returns-in_err-rows-clause-fault c =
    let query = c.args.query.now in
    let groups = c.args.groups.now in
    let fault : c.in_err-rows.field-0.0 ≡ SumOutOfRange → ShowsOutOfRange query (Groups groups) =
    λ is. groups-out_of_range query groups c.all_rows.ensures.keys (λ can. c.in_err-rows.ensures.fault is can) in
    search rules

pub item_rows-requires : goal.item_rows-requires
item_rows-requires c =
    let query = c.args.query.now in
    let groups = c.args.groups.now in
    rw (c.in_ok-rows.ensures.rows, c.as_slice.ensures) (all-narrow query groups c.requires.on c.all_rows.ensures.keys c.in_ok-rows.ensures.range c.requires.can)

pub returns-clause-rows : goal.returns-clause-rows
returns-clause-rows c =
    let shown = items-shown c.args.query.now c.args.groups.now _ _ _ c.as_slice.ensures c.in_ok-rows.ensures.rows c.in_ok-item_rows.ensures in
    groups-shown c.args.query.now c.args.groups.now c.all_rows.ensures.keys c.requires.can.groups c.in_ok-item_rows.field-0 shown

pub returns-clause-sized : goal.returns-clause-sized
returns-clause-sized c =
    let shown = items-shown c.args.query.now c.args.groups.now _ _ _ c.as_slice.ensures c.in_ok-rows.ensures.rows c.in_ok-item_rows.ensures in
    groups-sized c.args.query.now c.args.groups.now c.requires.on c.all_rows.ensures.keys c.in_ok-rows.ensures.range c.in_ok-item_rows.field-0 shown

pub returns-clause-range : goal.returns-clause-range
returns-clause-range c = groups-in_range c.args.query.now c.args.groups.now c.all_rows.ensures.keys c.in_ok-rows.ensures.range
