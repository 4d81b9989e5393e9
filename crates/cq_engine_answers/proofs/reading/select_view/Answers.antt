use Rattle.std.proofs.Common.{◌≡◌, ◌∷◌, [], Err, List, Ok, length, map, refl, rules, subst, sym}
use Rattle.std.proofs.lemmas.Option.{slice_get_read}
use Rattle.std.proofs.lemmas.Result.{err_from_is_err_and}
use Rattle.cq_values.specs.Value.{Row}
use Rattle.cq_model_bags.specs.Bag.{once_each}
use Rattle.cq_model.specs.Meaning.{items_of, meaning}
use Rattle.cq_model.specs.Views.{sources_of}
use Rattle.cq_model.specs.declared.query.Query.{Query}
use Rattle.cq_engine_answers.specs.Gathered.{AreGathered, made_for}
use Rattle.cq_engine_answers.specs.Reading.{IsSourceThere}
use Rattle.cq_engine_answers.specs.Selects.{AreListed}
use Rattle.cq_engine_answers.proofs.Backed.{backed}
use Rattle.cq_engine_answers.proofs.Readings.{from_kept, place_there, present_there, shown_by}
use Rattle.cq_engine_answers.proofs.Results.{listing_plain, shown_whole}
use Rattle.cq_engine_tables.specs.HeldTables.{tables_of}
use Rattle.cq_engine_tables.specs.Views.{views_of}
use Rattle.cq_engine_answers.proofs.reading.select_view.Goals as goal

-- its tables back the view
pub rows_shown-requires : goal.rows_shown-requires
rows_shown-requires c =
    let tables = tables_of c.args.tables.now in
    let views = c.args.views.now in
    let q = c.args.query.now in
    let v = c.index-views-place.result in
    let inside = place_there views c.args.place (subst (IsSourceThere tables (views_of views)) c.requires.first c.requires.can_read.there.0) in
    let at = slice_get_read views (length views) c.args.place v refl inside c.index-views-place.is in
    backed tables c.requires.fitting c.requires.few v (present_there views q.first c.args.place v c.requires.first at tables c.requires.readable.0)

-- where it is not shown, SELECT is refused
pub returns-in_err-rows : goal.returns-in_err-rows
returns-in_err-rows c =
    let tables = tables_of c.args.tables.now in
    let views = c.args.views.now in
    let q = c.args.query.now in
    let v = c.index-views-place.result in
    let inside = place_there views c.args.place (subst (IsSourceThere tables (views_of views)) c.requires.first c.requires.can_read.there.0) in
    let at = slice_get_read views (length views) c.args.place v refl inside c.index-views-place.is in
    let present = present_there views q.first c.args.place v c.requires.first at tables c.requires.readable.0 in
    let p = err_from_is_err_and c.from_residual.result c.from_residual.ensures.1 in
    rw (p.1, p.2)
    (from_kept tables views q c.args.order.now c.args.place v present at c.requires.fitting (Err c.in_err-rows.field-0.0) c.requires.each.0 c.requires.first c.in_err-rows.ensures.fault)

-- rows that are shown whole are listed
pub returns-then-show_whole_rows : goal.returns-then-show_whole_rows
returns-then-show_whole_rows c =
    let tables = tables_of c.args.tables.now in
    let views = c.args.views.now in
    let q = c.args.query.now in
    let order = c.args.order.now in
    let v = c.index-views-place.result in
    let rows = c.in_ok-rows.rows in
    let list = c.in_ok-list_whole.field-0 in
    let inside = place_there views c.args.place (subst (IsSourceThere tables (views_of views)) c.requires.first c.requires.can_read.there.0) in
    let at = slice_get_read views (length views) c.args.place v refl inside c.index-views-place.is in
    let present = present_there views q.first c.args.place v c.requires.first at tables c.requires.readable.0 in
    let whole : map (items_of q.items) rows ≡ rows = search rules in
    let listed = subst (λ (rs : List Row). AreListed order (once_each rs) list) (sym (shown_whole q.filter q.items rows c.requires.each.1 whole)) c.in_ok-list_whole.ensures in
    from_kept tables views q order c.args.place v present at c.requires.fitting (Ok list) c.requires.each.0 c.requires.first
    (λ ts suit. (
      listing_plain q.filter q.items q.first (λ source. meaning v.kept.query ts) order rows list (c.in_ok-rows.ensures.ok ts suit) listed,
      c.in_ok-rows.ensures.range ts suit,
    ))

-- else they are gathered for the one source
pub select_gathered-requires-clause-gathered : goal.select_gathered-requires-clause-gathered
select_gathered-requires-clause-gathered c =
    let tables = tables_of c.args.tables.now in
    let views = c.args.views.now in
    let q = c.args.query.now in
    let v = c.index-views-place.result in
    let rows = c.in_ok-rows.rows in
    let inside = place_there views c.args.place (subst (IsSourceThere tables (views_of views)) c.requires.first c.requires.can_read.there.0) in
    let at = slice_get_read views (length views) c.args.place v refl inside c.index-views-place.is in
    rw (c.deref.ensures.value, c.in_ok-gathered.ensures)
    (subst (λ (p : Query). AreGathered views (sources_of p) (made_for q.first rows ∷ [])) (sym c.requires.each.0) (
      record {
        same = refl;
        shown = shown_by views q.first c.args.place v c.requires.first at rows c.in_ok-rows.ensures.ok c.in_ok-rows.ensures.sized c.in_ok-rows.ensures.range;
      },
      tt,
    ))
