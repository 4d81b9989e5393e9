use Rattle.std.proofs.Common.{List, map, ◌∙◌, ap}
use Rattle.std.proofs.lemmas.Result.{IfOk-weaker}
use Rattle.cq_model.specs.Own.{in_place}
use Rattle.cq_model.specs.Trees.{cond_of}
use Rattle.cq_values.specs.Value.{Row}
use Rattle.cq_table_positions.specs.Rows.{rows_in}
use Rattle.cq_operators_scans.proofs.TruthsBehind.{exact-behind, truths-behind}
use Rattle.cq_operators_scans.proofs.asked.truths_behind.Goals as goal

pub truths_of_tree-requires : goal.truths_of_tree-requires
truths_of_tree-requires c =
    let is = c.in_ok-scan.ensures ∙ ap (λ (rs : List Row). map (in_place c.args.before) rs) c.in_ok-read.ensures in
    exact-behind c.args.before (cond_of c.args.condition.now) (rows_in c.args.rows.now) c.in_ok-scan.scan is c.requires.exact

pub returns : goal.returns
returns c =
    let is = c.in_ok-scan.ensures ∙ ap (λ (rs : List Row). map (in_place c.args.before) rs) c.in_ok-read.ensures in
    IfOk-weaker c.truths_of_tree.result _ _ (λ truths h. truths-behind c.args.before (cond_of c.args.condition.now) (rows_in c.args.rows.now) c.in_ok-scan.scan truths is h) c.truths_of_tree.ensures
