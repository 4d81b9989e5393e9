use Rattle.std.proofs.Common.{rules}
use Rattle.cq_values.specs.Lent.{owned}
use Rattle.cq_model.specs.Expr.{Plus, Times}
use Rattle.cq_model.specs.Eval.{plus, times}
use Rattle.cq_model.specs.Trees.{expr_of}
use Rattle.cq_model.specs.declared.expr.ExprTree.TheViews.{the_lemmas}
use Rattle.cq_model_eval.proofs.Chains.{first-factor, first-term, product-start, products, sum-start, sums, within}
use Rattle.cq_model_eval.proofs.eval.+eval_tree.Goals as goal

pub eval_tree-sum-requires : goal.eval_tree-sum-requires
eval_tree-sum-requires t c =
    (search (rules, the_lemmas), first-term c.args.row.now c.args.tree.now c.in-Sum.first c.in-Sum.rest c.deref-in-Sum.result.now c.deref-in-Sum.ensures c.in-Sum.is c.requires)

pub eval_tree-product-requires : goal.eval_tree-product-requires
eval_tree-product-requires t c =
    (search (rules, the_lemmas), first-factor c.args.row.now c.args.tree.now c.in-Product.first c.in-Product.rest c.deref-in-Product.result.now c.deref-in-Product.ensures c.in-Product.is c.requires)

pub loop-term-init : goal.loop-term-init
loop-term-init t c =
    sum-start c.args.row.now c.args.tree.now c.in-Sum.first c.in-Sum.rest c.deref-in-Sum.result.now c.deref-in-Sum.ensures c.deref-term-items.result.now c.deref-term-items.ensures.value (owned c.eval_tree-sum.result) c.eval_tree-sum.ensures c.in-Sum.is

pub loop-factor-init : goal.loop-factor-init
loop-factor-init t c =
    product-start c.args.row.now c.args.tree.now c.in-Product.first c.in-Product.rest c.deref-in-Product.result.now c.deref-in-Product.ensures c.deref-factor-items.result.now c.deref-factor-items.ensures.value (owned c.eval_tree-product.result) c.eval_tree-product.ensures c.in-Product.is

pub eval_tree-requires-in-loop-term : goal.eval_tree-requires-in-loop-term
eval_tree-requires-in-loop-term t c =
    let w = within Plus plus sums c.args.row.now (expr_of c.args.tree.now) c.deref-term-items.result.now c.loop-term.term-index c.term-item.result (owned c.loop-term.sum) c.loop-term-test.true c.term-item.is c.requires c.loop-term.invariant in
    (search (rules, the_lemmas), w.0)

pub add-sum-requires : goal.add-sum-requires
add-sum-requires t c =
    let w = within Plus plus sums c.args.row.now (expr_of c.args.tree.now) c.deref-term-items.result.now c.loop-term.term-index c.term-item.result (owned c.loop-term.sum) c.loop-term-test.true c.term-item.is c.requires c.loop-term.invariant in
    rw c.eval_tree-in-loop-term.ensures w.1

pub eval_tree-requires-in-loop-factor : goal.eval_tree-requires-in-loop-factor
eval_tree-requires-in-loop-factor t c =
    let w = within Times times products c.args.row.now (expr_of c.args.tree.now) c.deref-factor-items.result.now c.loop-factor.factor-index c.factor-item.result (owned c.loop-factor.product) c.loop-factor-test.true c.factor-item.is c.requires c.loop-factor.invariant in
    (search (rules, the_lemmas), w.0)

pub multiply-product-requires : goal.multiply-product-requires
multiply-product-requires t c =
    let w = within Times times products c.args.row.now (expr_of c.args.tree.now) c.deref-factor-items.result.now c.loop-factor.factor-index c.factor-item.result (owned c.loop-factor.product) c.loop-factor-test.true c.factor-item.is c.requires c.loop-factor.invariant in
    rw c.eval_tree-in-loop-factor.ensures w.1
