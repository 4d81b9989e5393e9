use Rattle.std.proofs.Common.{OnOk, subst, sym}
use Rattle.cq_model.specs.Meaning.{Tables}
use Rattle.cq_views.proofs.Filled.{no-entry, own-entry}
use Rattle.cq_views.proofs.filling.fill_own.Goals as goal
use Rattle.cq_views.specs.Filling.{CanFill, Fills}

pub fill_from-requires : goal.fill_from-requires
fill_from-requires c =
    rw c.as_slice.ensures
    (subst (λ (ts : Tables). CanFill c.args.view.now ts) (own-entry c.args.columns.now c.args.table.now c.in-Some.entry.now (sym c.in-Some.ensures)) c.requires)

pub returns-in-None : goal.returns-in-None
returns-in-None c = no-entry c.args.columns.now c.args.table.now c.args.view.now (sym c.in-None.ensures)

pub returns-in-Some : goal.returns-in-Some
returns-in-Some c =
    subst (λ (ts : Tables). OnOk c.fill_from.result (Fills ts c.args.view.now c.fill_from.new.view)) (sym (own-entry c.args.columns.now c.args.table.now c.in-Some.entry.now (sym c.in-Some.ensures)))
    (rw c.as_slice.ensures at c.fill_from.ensures)
