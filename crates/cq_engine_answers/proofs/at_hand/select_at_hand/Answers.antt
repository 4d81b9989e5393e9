use Rattle.std.proofs.Common.{◌≡◌, ◌∙◌, length, refl, rules, sym, subst, arith, ap}
use Rattle.std.proofs.lemmas.List.{length-map}
use Rattle.std.proofs.lemmas.Option.{same_Some, slice_get_read}
use Rattle.cq_model.specs.declared.query.Query.{Query}
use Rattle.cq_engine_answers.specs.Narrow.{joined_sizes}
use Rattle.cq_engine_answers.specs.Reading.{AreReadable, CanRead}
use Rattle.cq_engine_answers.specs.Selects.{Selects}
use Rattle.cq_engine_answers.specs.AtHand.{of_view}
use Rattle.cq_engine_answers.proofs.AtHand.{columns-narrow, selects-at_hand}
use Rattle.cq_engine_answers.proofs.Readings.{query_there}
use Rattle.cq_engine_tables.specs.HeldTables.{tables_of}
use Rattle.cq_engine_tables.specs.Views.{IsPresent, NamedView, view_of, views_of}
use Rattle.cq_engine_answers.proofs.at_hand.select_at_hand.Goals as goal

-- the view is at the present
pub select_from-requires-clause-readable : goal.select_from-requires-clause-readable
select_from-requires-clause-readable c =
    let tables = tables_of c.args.tables.now in
    let views = c.args.views.now in
    let hand = c.requires.at_hand in
    subst (AreReadable tables views) (sym c.in_ok-rows.ensures.is)
    (λ v at. subst (IsPresent tables) (same_Some hand.view v (sym hand.there ∙ at)) hand.present, tt)

-- and nothing is worked out of its columns
pub select_from-requires-clause-can_read : goal.select_from-requires-clause-can_read
select_from-requires-clause-can_read c =
    let tables = tables_of c.args.tables.now in
    let views = views_of c.args.views.now in
    let shows = c.in_ok-rows.ensures in
    subst (CanRead tables views) (sym shows.is) (record {
      there = (omega (arith, c.requires.inside, length-map c.args.views.now view_of), tt);
      filter = λ row sized. tt;
      shown = columns-narrow (joined_sizes tables views (of_view c.args.place c.in_ok-rows.rows.items c.args.query.now.distinct)) c.in_ok-rows.rows.items shows.items.columns;
    })

-- all of its columns are what the query means
pub returns : goal.returns
returns c =
    let tables = tables_of c.args.tables.now in
    let views = c.args.views.now in
    let q = c.args.query.now in
    let order = c.args.order.now in
    let hand = c.requires.at_hand in
    let shows = c.in_ok-rows.ensures in
    let v = c.index-views-place.result in
    let same : v ≡ hand.view = same_Some v hand.view (sym (slice_get_read views (length views) c.args.place v refl c.requires.inside c.index-views-place.is) ∙ hand.there) in
    let wide : length c.in_ok-rows.rows.items ≡ length v.kept.query.items = search rules in
    selects-at_hand c.core_answers.ensures tables (views_of views) c.args.place c.in_ok-rows.rows.items shows.items.columns q hand.view.kept.query
    (query_there tables views c.args.place hand.view hand.there) hand.core hand.present.fits.can
    (wide ∙ ap (λ (w : NamedView). length w.kept.query.items) same)
    order c.select_from.result (subst (λ (p : Query). Selects tables (views_of views) p order c.select_from.result) shows.is c.select_from.ensures)
