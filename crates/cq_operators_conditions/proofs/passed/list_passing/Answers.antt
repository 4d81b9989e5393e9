use Rattle.std.proofs.Common.{◌∙◌, ◌++◌, ap, subst, sym, List}
use Rattle.std.specs.List.{AllByRecursion}
use Rattle.std.proofs.lemmas.List.{map-append}
use Rattle.cq_segments_pieces.specs.Marked.{live}
use Rattle.cq_segments_pieces.specs.Rows.{row_of, stored_rows}
use Rattle.cq_table_columns.specs.Stored.{all_rows, front_rows}
use Rattle.cq_model.specs.Own.{passes_own}
use Rattle.cq_model_bags.proofs.Lists.{all-front}
use Rattle.cq_values.specs.Value.{Row}
use Rattle.cq_operators_conditions.specs.Passing.{CanPass, conditions_in}
use Rattle.cq_operators_conditions.proofs.Asking.{empty-asked}
use Rattle.cq_operators_conditions.proofs.Fronts.{front-dropped, front-kept}
use Rattle.cq_operators_conditions.proofs.Fronts.{all-behind}
use Rattle.cq_operators_conditions.proofs.passed.list_passing.Goals as goal

pub pass_all-requires-clause-exact : goal.pass_all-requires-clause-exact
pass_all-requires-clause-exact c =
    let can = CanPass c.args.before (conditions_in c.args.conditions.now) in
    all-front can (front_rows c.split_front.result.0) (all_rows c.split_front.result.1) (subst (AllByRecursion can) c.split_front.ensures.parts c.loop-left.invariant.exact)

pub loop-left-preserved : goal.loop-left-preserved
loop-left-preserved c =
    let left = all_rows c.loop-left.left in
    let front = front_rows c.split_front.result.0 in
    let rest = all_rows c.split_front.result.1 in
    let conditions = conditions_in c.args.conditions.now in
    let so_far = stored_rows c.loop-left.passing.items in
    let more = ap stored_rows c.in_ok-append.ensures.items ∙ map-append row_of c.loop-left.passing.items c.in_ok-into_rows.field-0.items ∙ ap (λ (rows : List Row). so_far ++ rows) (c.in_ok-into_rows.ensures ∙ c.in_ok-passed.ensures) in record {
      passing = front-kept (passes_own c.args.before conditions) left front rest c.split_front.ensures.parts so_far _ _ more c.loop-left.invariant.passing;
      exact = all-behind (CanPass c.args.before conditions) left front rest c.split_front.ensures.parts c.loop-left.invariant.exact;
    }

pub loop-left-preserved-in-Some : goal.loop-left-preserved-in-Some
loop-left-preserved-in-Some c =
    let left = all_rows c.loop-left.left in
    let front = live c.in-Some.field-0-0.now in
    let rest = all_rows c.in-Some.rest in
    let conditions = conditions_in c.args.conditions.now in
    let so_far = stored_rows c.loop-left.passing.items in record {
      passing = ap (λ (rows : List Row). so_far ++ rows) (sym (front-dropped (passes_own c.args.before conditions) left front rest c.in-Some.ensures.rows c.in-Some.ensures.none)) ∙ c.loop-left.invariant.passing;
      exact = all-behind (CanPass c.args.before conditions) left front rest c.in-Some.ensures.rows c.loop-left.invariant.exact;
    }

pub returns-then-is_empty : goal.returns-then-is_empty
returns-then-is_empty c = c.in_ok-lend_all.ensures ∙ sym (empty-asked c.args.before c.args.conditions.now (all_rows c.args.rows.now) (sym c.is_empty.ensures ∙ c.if-is_empty.true))
