use Rattle.std.proofs.Common.{◌≡◌, ◌∙◌, Some, ap, length, refl, sym}
use Rattle.std.specs.Prelude.{Option, option_map, slice_get}
use Rattle.std.proofs.lemmas.List.{length-map}
use Rattle.std.proofs.lemmas.Option.{slice_get-map, slice_get_read}
use Rattle.cq_model.specs.declared.query.Query.{Query}
use Rattle.cq_model.specs.declared.query.Source.{Source}
use Rattle.cq_model_state.specs.State.{ViewOf, columns_in}
use Rattle.cq_engine_answers.specs.Narrow.{source_sizes, view_sizes}
use Rattle.cq_engine_answers.proofs.Readings.{view_inside}
use Rattle.cq_engine_tables.proofs.Held.{columns-held}
use Rattle.cq_engine_tables.proofs.HeldTables.{at_number}
use Rattle.cq_engine_tables.proofs.Rows.{columns_numbered}
use Rattle.cq_engine_tables.specs.HeldTables.{tables_of}
use Rattle.cq_engine_tables.specs.Views.{view_of, views_of}
use Rattle.cq_engine_answers.proofs.widths.width_of.Goals as goal

-- the table at the place has the columns of its number
pub returns-in-Table : goal.returns-in-Table
returns-in-Table c =
    let tables = tables_of c.args.tables.now in
    let t = c.index-tables-place.result.is in
    let at = c.place_numbered-place.ensures in
    let here = at_number c.args.tables.now c.place_numbered-place.result c.index-tables-place.result c.in-Table.number at.within c.index-tables-place.is (at.numbered c.index-tables-place.result) in
    let columns = columns_numbered tables c.place_numbered-place.result t c.requires.numbered.0 c.in-Table.number c.requires.numbered.1 here.0 here.1 here.2 in
    ap length (c.columns.ensures ∙ columns-held c.table.result.now c.index-tables-place.result c.table.ensures ∙ sym columns)
    ∙ sym (length-map (columns_in tables c.in-Table.number) _)
    ∙ sym (ap (λ (s : Source). length (source_sizes tables (views_of c.args.views.now) s)) c.in-Table.is)

-- the view at the place has a column for each item of its query
pub returns-in-View : goal.returns-in-View
returns-in-View c =
    let tables = tables_of c.args.tables.now in
    let views = c.args.views.now in
    let place = c.in-View.place in
    let v = c.index-views-place.result in
    let inside = view_inside tables views c.args.source place c.in-View.is c.requires.there in
    let at = slice_get_read views (length views) place v refl inside c.index-views-place.is in
    let there : slice_get (views_of views) place ≡ Some (view_of v) = slice_get-map view_of views place ∙ ap (option_map view_of) at in
    c.len.ensures ∙ ap (λ (q : Query). length q.items) c.query.ensures ∙ sym (length-map v.kept.query.items _)
    ∙ sym (ap (λ (o : Option ViewOf). length (view_sizes o)) there)
    ∙ sym (ap (λ (s : Source). length (source_sizes tables (views_of views) s)) c.in-View.is)
