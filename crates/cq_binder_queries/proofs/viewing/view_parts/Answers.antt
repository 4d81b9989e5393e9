use Rattle.std.proofs.Common.{List, ap, subst, sym, ◌∙◌}
use Rattle.std.proofs.lemmas.Result.{err_from_is_err_and}
use Rattle.cq_values.specs.declared.column.ColumnDef.{ColumnDef}
use Rattle.cq_binder_queries.specs.declared.parts.BoundParts.{BoundParts}
use Rattle.cq_binder_queries.specs.Parts.{AreBoundParts}
use Rattle.cq_binder_queries.proofs.Creating.{absent_refused, clauses_refused, end_refused, names_refused, view_passes}
use Rattle.cq_binder_queries.proofs.viewing.view_parts.Goals as goal

pub returns-in_err-clauses : goal.returns-in_err-clauses
returns-in_err-clauses c =
    let p = err_from_is_err_and c.from_residual.result c.from_residual.ensures.1 in
    rw (p.1, p.2) (clauses_refused c.args.view.now c.args.columns.now c.in_err-clauses.field-0.0 c.in_err-clauses.ensures)

pub returns-in-Err : goal.returns-in-Err
returns-in-Err c = names_refused c.args.view.now c.args.columns.now c.in_ok-clauses.ensures.0 c.in-Err.fault c.in-Err.ensures

pub returns-in-Err-ended_parts : goal.returns-in-Err-ended_parts
returns-in-Err-ended_parts c =
    end_refused c.args.view.now c.args.columns.now c.in_ok-clauses.ensures.0 c.in-Ok.ensures.0 c.in-Err-ended_parts.fault c.in-Err-ended_parts.ensures

pub returns-in_err-shown : goal.returns-in_err-shown
returns-in_err-shown c =
    let p = err_from_is_err_and c.from_residual-in_err-shown.result c.from_residual-in_err-shown.ensures.1 in
    let absent = rw c.in_err-shown.ensures at c.refuse_absent.ensures in
    rw (p.1, p.2) (absent_refused c.args.view.now c.args.columns.now c.in_ok-clauses.ensures.0 c.in-Ok.ensures.0 c.in-Ok-ended_parts.ensures.0 c.in_err-shown.field-0.0 absent)

pub returns : goal.returns
returns c =
    let both = c.in_ok-shown.ensures in
    let absent = rw both.1 at c.refuse_absent.ensures in (
      view_passes c.args.view.now c.args.columns.now c.in_ok-clauses.ensures.0 c.in-Ok.ensures.0 c.in-Ok-ended_parts.ensures.0 absent.0,
      record {
        columns_of = ap (λ (pair : List ColumnDef × BoundParts). pair.0) both.0 ∙ c.in-Ok.ensures.1;
        parts = subst (λ (pair : List ColumnDef × BoundParts). AreBoundParts c.args.columns.now c.args.view.now pair.1) (sym both.0) c.in-Ok-ended_parts.ensures.1;
      },
    )
