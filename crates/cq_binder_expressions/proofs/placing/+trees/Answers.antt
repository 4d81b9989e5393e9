use Rattle.std.proofs.Common.{rules}
use Rattle.std.proofs.lemmas.Slice.Zip.{either_empty_from_Zip}
use Rattle.std.specs.Iterator.Adapters.{zip_first, zip_second}
use Rattle.std.specs.Slice.Iter.{iter_rest}
use Rattle.cq_binder_expressions.specs.Expressions.{scope_of}
use Rattle.cq_binder_expressions.proofs.Places.{and_made, in_placed, or_made, product_made, sum_made, terms_end}
use Rattle.cq_binder_expressions.proofs.placing.+trees.Goals as goal

pub operation_tree-returns-in_ok-product_tree-in-Product : goal.operation_tree-returns-in_ok-product_tree-in-Product
operation_tree-returns-in_ok-product_tree-in-Product t c =
    let later = rw c.in_ok-first-in-Product-2.ensures.1 at c.value_trees.ensures in
    product_made (scope_of c.args.scope.now) c.args.aggregates.now c.tree_of-in-Product.new.aggregates c.value_trees.new.aggregates c.args.node.now c.in-Product.first c.in-Product.rest c.in_ok-first-in-Product.first
    (search rules) c.in_ok-first-in-Product-2.rest c.in_ok-product_tree-in-Product.field-0 c.in-Product.is (search rules) (rw c.in_ok-first-in-Product-2.ensures.0 at c.in_ok-product_tree-in-Product.ensures)

pub operation_tree-returns-in_ok-sum_tree-in-Sum : goal.operation_tree-returns-in_ok-sum_tree-in-Sum
operation_tree-returns-in_ok-sum_tree-in-Sum t c =
    let later = rw c.in_ok-first-in-Sum-2.ensures.1 at c.term_trees.ensures in
    sum_made (scope_of c.args.scope.now) c.args.aggregates.now c.tree_of-in-Sum.new.aggregates c.term_trees.new.aggregates c.args.node.now c.in-Sum.first c.in-Sum.rest c.in_ok-first-in-Sum.first
    (search rules) c.in-Sum.signs c.in_ok-first-in-Sum-2.rest c.in_ok-sum_tree-in-Sum.field-0 c.in-Sum.is (search rules) (rw c.in_ok-first-in-Sum-2.ensures.0 at c.in_ok-sum_tree-in-Sum.ensures)

pub test_tree-returns-in_ok-test-in-In : goal.test_tree-returns-in_ok-test-in-In
test_tree-returns-in_ok-test-in-In t c =
    let later = rw c.in_ok-value-in-In.ensures.1 at c.value_trees.ensures in
    in_placed (scope_of c.args.scope.now) c.args.aggregates.now c.tree_of-in-In.new.aggregates c.value_trees.new.aggregates c.args.node.now c.in-In.value c.in-In.choices c.in_ok-tree_of-in-In.field-0
    (search rules) c.in-In.negated c.into_value-value-in-In.result c.in_ok-value-in-In.choices c.in_ok-test-in-In.test c.in-In.is (search rules) (search rules) (rw c.in_ok-value-in-In.ensures.0 at c.in_ok-test-in-In.ensures)

pub connective_tree-returns-in_ok-and_tree-in-And : goal.connective_tree-returns-in_ok-and_tree-in-And
connective_tree-returns-in_ok-and_tree-in-And t c =
    let later = rw c.in_ok-first-in-And-2.ensures.1 at c.condition_trees.ensures in
    and_made (scope_of c.args.scope.now) c.args.aggregates.now c.tree_of-in-And.new.aggregates c.condition_trees.new.aggregates c.args.node.now c.in-And.first c.in-And.rest c.in_ok-first-in-And.first
    (search rules) c.in_ok-first-in-And-2.rest c.in_ok-and_tree-in-And.field-0 c.in-And.is (search rules) (rw c.in_ok-first-in-And-2.ensures.0 at c.in_ok-and_tree-in-And.ensures)

pub connective_tree-returns-in_ok-or_tree-in-Or : goal.connective_tree-returns-in_ok-or_tree-in-Or
connective_tree-returns-in_ok-or_tree-in-Or t c =
    let later = rw c.in_ok-first-in-Or-2.ensures.1 at c.condition_trees-in-Or.ensures in
    or_made (scope_of c.args.scope.now) c.args.aggregates.now c.tree_of-in-Or.new.aggregates c.condition_trees-in-Or.new.aggregates c.args.node.now c.in-Or.first c.in-Or.rest c.in_ok-first-in-Or.first
    (search rules) c.in_ok-first-in-Or-2.rest c.in_ok-or_tree-in-Or.field-0 c.in-Or.is (search rules) (rw c.in_ok-first-in-Or-2.ensures.0 at c.in_ok-or_tree-in-Or.ensures)

pub term_trees-returns : goal.term_trees-returns
term_trees-returns t c =
    let ends = either_empty_from_Zip c.loop-sign.sign-iterator c.next.new.self c.next.result c.in-None.is c.next.ensures.steps in
    terms_end (scope_of c.args.scope.now) c.args.aggregates.now c.args.signs.now c.args.nodes.now c.loop-sign.terms.items c.loop-sign.aggregates (iter_rest (zip_first c.loop-sign.sign-iterator)) (iter_rest (zip_second c.loop-sign.sign-iterator)) c.loop-sign.invariant ends
