use Rattle.std.proofs.Common.{◌≡◌, [], map, rules}
use Rattle.cq_table_columns.specs.Stored.{all_rows, front_rows}
use Rattle.cq_views.proofs.Filled.{cut-parts, none-left, some-left}
use Rattle.cq_views.proofs.Taking.{front-can, left-filled, rest-can}
use Rattle.cq_model.specs.Group.{key_of}
use Rattle.cq_views.proofs.filling.fill_from.Goals as goal

pub loop-left-init : goal.loop-left-init
loop-left-init c = record { can = c.requires; fills = λ last fills. fills }

pub fill_with-requires-clause-can : goal.fill_with-requires-clause-can
fill_with-requires-clause-can c =
    let columns = c.args.columns.now in
    let f = key_of columns in
    let left = all_rows c.loop-left.left in
    let front = front_rows c.split_front.result.0 in
    let rest = all_rows c.split_front.result.1 in
    front-can c.loop-left.view c.args.source (map f left) (map f front) (map f rest) (cut-parts columns left front rest c.split_front.ensures.parts) c.loop-left.invariant.can

pub loop-left-preserved : goal.loop-left-preserved
loop-left-preserved c =
    let columns = c.args.columns.now in
    let f = key_of columns in
    let left = all_rows c.loop-left.left in
    let front = front_rows c.split_front.result.0 in
    let rest = all_rows c.split_front.result.1 in
    let parts = cut-parts columns left front rest c.split_front.ensures.parts in
    let filled = c.in_ok-fill_with.ensures in
    record {
      can = rest-can c.loop-left.view c.args.source (map f left) (map f front) (map f rest) parts c.loop-left.invariant.can c.fill_with.new.view filled;
      fills = λ last fills. c.loop-left.invariant.fills last (left-filled c.loop-left.view c.args.source (map f left) (map f front) (map f rest) parts c.fill_with.new.view last filled fills);
    }

pub loop-left-smaller : goal.loop-left-smaller
loop-left-smaller c = c.split_front.ensures.less (some-left (all_rows c.loop-left.left) c.is_empty.result c.is_empty.ensures.1 c.loop-left-test.true)

pub returns : goal.returns
returns c =
    let none : all_rows c.loop-left.left ≡ [] = c.is_empty.ensures.0 (search rules) in
    c.loop-left.invariant.fills c.loop-left.view (none-left c.loop-left.view c.args.source c.args.columns.now (all_rows c.loop-left.left) none)
