use Rattle.std.proofs.Common.{◌∙◌, ap}
use Rattle.cq_model.specs.Meaning.{keeps}
use Rattle.cq_model.specs.Width.{IsNarrowIn}
use Rattle.cq_operators_conditions.specs.Kept.{places_where}
use Rattle.cq_table.specs.Found.{passes}
use Rattle.cq_table.specs.Table.{live_rows, stored_in}
use Rattle.cq_table.proofs.Founds.{live-places, live_there}
use Rattle.cq_table.proofs.RowLists.{all_of_rows}
use Rattle.cq_table.proofs.Tables.{found-count, picks}
use Rattle.cq_table.proofs.table.Table.find.Goals as goal

pub found_places-requires-clause-narrow : goal.found_places-requires-clause-narrow
found_places-requires-clause-narrow c = rw c.rows.ensures.rows (all_of_rows (IsNarrowIn c.args.condition.now) (live_rows c.args.self.now) c.requires)

pub returns-clause-live : goal.returns-clause-live
returns-clause-live c =
    let test = keeps c.args.condition.now in
    let is = c.new.ensures ∙ c.in_ok-places.ensures ∙ ap (places_where 0 (passes test)) c.rows.ensures.stored in
    rw is (live-places test (stored_in c.args.self.now))

pub returns-clause-there : goal.returns-clause-there
returns-clause-there c =
    let test = keeps c.args.condition.now in
    let stored = stored_in c.args.self.now in
    let is = c.new.ensures ∙ c.in_ok-places.ensures ∙ ap (places_where 0 (passes test)) c.rows.ensures.stored in
    rw is (live_there (places_where 0 (passes test) stored) stored (live-places test stored))

pub returns-clause-chosen : goal.returns-clause-chosen
returns-clause-chosen c =
    let test = keeps c.args.condition.now in
    let is = c.new.ensures ∙ c.in_ok-places.ensures ∙ ap (places_where 0 (passes test)) c.rows.ensures.stored in
    picks c.args.self.now c.args.condition.now c.new.result is

pub returns-clause-count : goal.returns-clause-count
returns-clause-count c =
    let test = keeps c.args.condition.now in
    let is = c.new.ensures ∙ c.in_ok-places.ensures ∙ ap (places_where 0 (passes test)) c.rows.ensures.stored in
    found-count c.args.self.now c.args.condition.now c.new.result is
