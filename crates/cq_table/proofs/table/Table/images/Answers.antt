use Rattle.std.proofs.Common.{◌≡◌, ◌∙◌, ap, sym, subst}
use Rattle.std.specs.Prelude.{None}
use Rattle.std.proofs.lemmas.Result.{err_from_is_err_and}
use Rattle.cq_model_bags.specs.Canonical.{bag_of}
use Rattle.cq_segments_pieces.specs.Rows.{stored_rows}
use Rattle.cq_values.specs.Value.{Row}
use Rattle.cq_model.specs.declared.assignment.Assignment.{Assignment}
use Rattle.cq_model.specs.Width.{IsNarrowAt}
use Rattle.cq_binder_rules.specs.Checks.{MayRefuse}
use Rattle.cq_table.specs.Checks.{AreNarrowSets, fault_of, values_fault}
use Rattle.cq_table.specs.Table.{stored_in, table_rows}
use Rattle.cq_table.proofs.Checked.{fault_same}
use Rattle.cq_table.proofs.Founds.{live_there}
use Rattle.cq_table.proofs.RowLists.{turned}
use Rattle.cq_table.proofs.Tables.{all-rows_found, picks}
use Rattle.cq_table.proofs.table.Table.images.Goals as goal

pub chosen-requires : goal.chosen-requires
chosen-requires c = live_there c.args.found.now (stored_in c.args.self.now) c.requires.live

pub check_values-requires : goal.check_values-requires
check_values-requires c =
    let sets = c.args.assignments.now in
    let gone = c.in_ok-gone.ensures ∙ ap stored_rows c.deref.ensures.value ∙ c.in_ok-chosen.ensures in
    rw (c.deref-2.ensures.value, gone) (turned (λ (r : Row) (a : Assignment). IsNarrowAt a.value r) _ sets (all-rows_found (AreNarrowSets sets) c.args.self.now c.args.found.now c.requires.live c.requires.narrow))

pub images-requires : goal.images-requires
images-requires c =
    let gone = c.in_ok-gone.ensures ∙ ap stored_rows c.deref.ensures.value ∙ c.in_ok-chosen.ensures in
    rw (c.deref-3.ensures.value, gone) (all-rows_found (AreNarrowSets c.args.assignments.now) c.args.self.now c.args.found.now c.requires.live c.requires.narrow)

pub returns-in_err-check_values-clause-found : goal.returns-in_err-check_values-clause-found
returns-in_err-check_values-clause-found c condition found =
    let p = err_from_is_err_and c.from_residual-in_err-check_values.result c.from_residual-in_err-check_values.ensures.1 in
    let t = c.args.self.now in
    let gone = c.in_ok-gone.ensures ∙ ap stored_rows c.deref.ensures.value ∙ c.in_ok-chosen.ensures in
    let chosen = ap bag_of gone ∙ picks t condition c.args.found.now found in
    let told = rw (c.deref-2.ensures.value, c.columns.ensures) at c.in_err-check_values.ensures in
    let same = fault_same c.args.assignments.now condition (table_rows t) c.in_ok-gone.gone.items chosen t.columns in
    rw (p.1, p.2) (subst (λ o. MayRefuse o (fault_of c.in_err-check_values.field-0.0)) same told)

pub returns-clause-found : goal.returns-clause-found
returns-clause-found c condition found =
    let t = c.args.self.now in
    let gone = c.in_ok-gone.ensures ∙ ap stored_rows c.deref.ensures.value ∙ c.in_ok-chosen.ensures in
    let chosen = ap bag_of gone ∙ picks t condition c.args.found.now found in
    let free : values_fault t.columns c.args.assignments.now c.in_ok-gone.gone.items ≡ None = rw (c.deref-2.ensures.value, c.columns.ensures) at c.in_ok-check_values.ensures in
    sym (fault_same c.args.assignments.now condition (table_rows t) c.in_ok-gone.gone.items chosen t.columns) ∙ free
