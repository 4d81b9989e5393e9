use Rattle.std.proofs.Common.{List, length, refl, sym, ◌∙◌, subst}
use Rattle.std.proofs.lemmas.Option.{slice_get_read}
use Rattle.std.proofs.lemmas.Result.{err_from_is_err_and}
use Rattle.cq_values.specs.Value.{Row}
use Rattle.cq_model.specs.declared.query.Source.{Source}
use Rattle.cq_engine_answers.specs.Gathered.{AreShownBy}
use Rattle.cq_engine_answers.proofs.Readings.{backed_there, read_fault, shown_by, view_inside}
use Rattle.cq_engine_answers.proofs.gathered.gather_one.Goals.{in-Table, in-View+in_ok-rows-in-View+in_ok-into_rows-in-View}
use Rattle.cq_engine_answers.proofs.gathered.gather_one.Goals as goal

-- the view that the source is is backed
pub rows_shown-requires : goal.rows_shown-requires
rows_shown-requires c =
    let views = c.args.views.now in
    let v = c.index-views-place.result in
    let inside = view_inside c.requires.there.0 views c.args.source c.in-View.place c.in-View.is c.requires.there.1 in
    let at = slice_get_read views (length views) c.in-View.place v refl inside c.index-views-place.is in
    backed_there views c.args.source c.in-View.place v c.in-View.is at c.requires.backed

-- a view that cannot be shown
pub returns-in_err-rows-in-View-clause-fault : goal.returns-in_err-rows-in-View-clause-fault
returns-in_err-rows-in-View-clause-fault c =
    let p = err_from_is_err_and c.from_residual.result c.from_residual.ensures.1 in
    let views = c.args.views.now in
    let v = c.index-views-place.result in
    let inside = view_inside c.requires.there.0 views c.args.source c.in-View.place c.in-View.is c.requires.there.1 in
    let at = slice_get_read views (length views) c.in-View.place v refl inside c.index-views-place.is in
    rw (p.1, p.2) (read_fault views c.args.source c.in-View.place v c.in-View.is at
    c.in_err-rows-in-View.field-0.0 c.in_err-rows-in-View.ensures.fault)

-- nothing is made of a table, and of a view what it shows
pub returns-clause-ok : goal.returns-clause-ok
returns-clause-ok c =
    let views = c.args.views.now in
    let source = c.args.source in
    elim c.match-source.branch [
      | in-Table w ↦ record {
        same =
            w.source-is;
        shown = subst (λ (s : Source). AreShownBy views s c.match-source.shown) (sym w.in-Table.is) tt;
      }
      | in-View+in_ok-rows-in-View+in_ok-into_rows-in-View w ↦
          let v = w.index-views-place.result in
          let read = w.in_ok-rows-in-View.ensures in
          let same = w.in_ok-into_rows-in-View.ensures in
          let inside = view_inside c.requires.there.0 views source w.in-View.place w.in-View.is c.requires.there.1 in
          let at = slice_get_read views (length views) w.in-View.place v refl inside w.index-views-place.is in
          record {
            same = w.source-is ∙ sym w.in-View.is;
            shown =
                subst (λ (shown : List Row). AreShownBy views source shown)
                (sym (w.shown-is ∙ w.from_vec-shown.ensures ∙ same))
                (shown_by views source w.in-View.place v w.in-View.is at w.in_ok-rows-in-View.rows read.ok read.sized read.range);
          }
    ]
