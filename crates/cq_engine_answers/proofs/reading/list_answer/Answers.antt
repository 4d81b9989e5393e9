use Rattle.std.proofs.Common.{◌≡◌, ◌∙◌, Err, List, ap, subst, subst₂, sym}
use Rattle.cq_values.specs.Value.{Row}
use Rattle.cq_model.specs.declared.query.Query.{Query}
use Rattle.cq_binder_rules.specs.declared.fault.Fault.{Fault}
use Rattle.cq_plan.specs.Chain.{joined_lists}
use Rattle.cq_plan.specs.Planned.{CanAskEach, HaveColumns}
use Rattle.cq_operators.specs.Exec.{GivesRest}
use Rattle.cq_operators.specs.Selected.{CanSelect, rows_of_all}
use Rattle.cq_engine_answers.specs.Selects.{SelectsLent}
use Rattle.cq_engine_answers.proofs.Exactly.{all_sources, all_wide, can_ask_each, can_select, opened-of, selects_rest, tells-rest}
use Rattle.cq_engine_answers.proofs.reading.list_answer.Goals as goal

-- the plan can be worked out on the rows of its sources
pub open-exec-requires : goal.open-exec-requires
open-exec-requires c =
    let law = c.chain_of_lists.ensures in
    let lents = c.args.lent.now in
    let q = c.args.query.now in
    let widths = c.args.widths.now in
    let can = c.requires in
    let plan = c.in_ok-planned.planned in
    let is = c.in_ok-planned.ensures.is in
    let rows : rows_of_all c.deref.result.now ≡ all_sources law lents q = ap rows_of_all c.deref.ensures.value ∙ c.in_ok-inputs.ensures in
    record {
      whole = is.whole;
      wide = subst (HaveColumns plan.sources.items) (sym rows) (all_wide law lents q widths can plan c.args.order.now is);
      own = subst (CanAskEach plan.sources.items) (sym rows) (can_ask_each law lents q widths can plan c.args.order.now is c.own_conditions_are_exact.ensures);
      can = subst₂ (λ (p : Query) (sources : List (List Row)). CanSelect p (joined_lists p.joins sources)) (sym is.query) (sym rows)
          (can_select law lents q widths can c.narrow_is_exact.ensures.expressions c.narrow_is_exact.ensures.conditions c.joined_rows_keep_sizes.ensures c.groups_keep_sizes.ensures);
    }

-- all that remains of its list is the query's listing
pub returns-in-Ok : goal.returns-in-Ok
returns-in-Ok c =
    let law = c.chain_of_lists.ensures in
    let lents = c.args.lent.now in
    let q = c.args.query.now in
    let rows : rows_of_all c.deref.result.now ≡ all_sources law lents q = ap rows_of_all c.deref.ensures.value ∙ c.in_ok-inputs.ensures in
    let opened = opened-of law lents q c.args.order.now c.args.widths.now c.in_ok-planned.planned c.in_ok-planned.ensures.is (rows_of_all c.deref.result.now) rows c.open-exec.result c.open-exec.ensures in
    selects_rest law lents q c.args.order.now c.open-exec.result opened c.in-Ok.rows (subst (GivesRest c.open-exec.result) c.in-Ok.is c.rows.ensures)

-- and a total that cannot be shown there cannot be shown
pub returns : goal.returns
returns c =
    let law = c.chain_of_lists.ensures in
    let lents = c.args.lent.now in
    let q = c.args.query.now in
    let rows : rows_of_all c.deref.result.now ≡ all_sources law lents q = ap rows_of_all c.deref.ensures.value ∙ c.in_ok-inputs.ensures in
    let opened = opened-of law lents q c.args.order.now c.args.widths.now c.in_ok-planned.planned c.in_ok-planned.ensures.is (rows_of_all c.deref.result.now) rows c.open-exec.result c.open-exec.ensures in
    subst (λ (f : Fault). SelectsLent q c.args.order.now lents (Err f)) (sym c.show_fault.ensures)
    (tells-rest law lents q c.args.order.now c.open-exec.result opened c.in-Err.fault (subst (GivesRest c.open-exec.result) c.in-Err.is c.rows.ensures))
