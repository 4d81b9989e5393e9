use Rattle.std.proofs.Common.{List, OnOk, rules, subst, sym}
use Rattle.std.proofs.lemmas.Result.{on_ok_weaker}
use Rattle.cq_table_columns.specs.declared.stored_source.StoredSource.{StoredSource}
use Rattle.cq_views.proofs.Filled.{all-filled, no-tables, others-can, own-can}
use Rattle.cq_views.proofs.filling.+fill.Goals as goal
use Rattle.cq_views.specs.Cut.{cut_bags}
use Rattle.cq_views.specs.Filling.{CanFill, Fills, bags_at}

pub fill-requires : goal.fill-requires
fill-requires t c =
    let view = c.args.view.now in
    let columns = c.args.columns.now in
    (search rules, others-can columns c.in-Some.table.now view c.in-Some.rest.now (subst (λ (ts : List StoredSource). CanFill view (cut_bags columns (bags_at ts))) c.in-Some.ensures.cases.0 c.requires))

pub fill_own-requires : goal.fill_own-requires
fill_own-requires t c =
    let view = c.args.view.now in
    let columns = c.args.columns.now in
    own-can columns c.in-Some.table.now view c.in-Some.rest.now (subst (λ (ts : List StoredSource). CanFill view (cut_bags columns (bags_at ts))) c.in-Some.ensures.cases.0 c.requires)
    c.fill.new.view c.in_ok-fill-in-Some.ensures

pub returns-in-None : goal.returns-in-None
returns-in-None t c = no-tables c.args.columns.now c.args.view.now c.args.tables.now c.in-None.ensures.cases

pub returns-in_ok-fill-in-Some : goal.returns-in_ok-fill-in-Some
returns-in_ok-fill-in-Some t c =
    let view = c.args.view.now in
    let columns = c.args.columns.now in
    let last = c.fill_own.new.view in
    subst (λ (ts : List StoredSource). OnOk c.fill_own.result (Fills (cut_bags columns (bags_at ts)) view last)) (sym c.in-Some.ensures.cases.0)
    (on_ok_weaker c.fill_own.result (λ own. all-filled columns c.in-Some.table.now view c.in-Some.rest.now c.fill.new.view last c.in_ok-fill-in-Some.ensures own) c.fill_own.ensures)
