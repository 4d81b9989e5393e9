use Rattle.std.proofs.Common.{◌≡◌, ◌∙◌, ◌∷◌, ◌++◌, [], ℕ, List, ap, ap₂, arith, map, sym}
use Rattle.std.specs.List.{range_with_len}
use Rattle.std.proofs.lemmas.List.FromFn.{map-range_with_len_more}
use Rattle.cq_values.specs.declared.value.Value.{Value}
use Rattle.cq_vectors.specs.Gathered.{column_of}
use Rattle.cq_operators_joins.proofs.Kept.{part, part-rebuilt}
use Rattle.cq_operators_joins.proofs.distinct.key_batch.Goals as goal

-- one column more
pub loop-column-preserved : goal.loop-column-preserved
loop-column-preserved c =
    let column = c.loop-column.column in
    c.in_ok-push.ensures.items
    ∙ ap₂ (λ (columns : List (List Value)) (values : List Value). columns ++ values ∷ []) c.loop-column.invariant c.in_ok-column.ensures
    ∙ sym (map-range_with_len_more (column_of (part c.args.start c.args.len c.args.keys.now.keys)) 0 column column (omega arith))

-- the columns make up the keys
pub returns : goal.returns
returns c =
    let keys = c.args.keys.now.keys in
    let rows = part c.args.start c.args.len keys in
    let all : c.loop-column.column ≡ c.args.keys.now.width = omega (arith, c.loop-column-test.false, c.loop-column.auto.column-end, c.width-column-end.ensures.width) in
    part-rebuilt c.args.keys.now.width c.args.start c.args.len keys c.loop-column.columns.items c.set_all.new.self c.width-column-end.ensures.wide c.requires.keys
    (c.loop-column.invariant ∙ ap (λ (n : ℕ). map (column_of rows) (range_with_len 0 n)) all) c.set_all.ensures
