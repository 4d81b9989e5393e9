use Rattle.std.proofs.Common.{map, refl, rules}
use Rattle.std.proofs.lemmas.Result.{IfOk-weaker}
use Rattle.cq_model.specs.declared.expr.ExprTree.TheViews.{the_lemmas}
use Rattle.cq_model.specs.Expr.{Plus, Times}
use Rattle.cq_model.specs.Eval.{eval, negated, plus, times}
use Rattle.cq_model.specs.Trees.{expr_of}
use Rattle.cq_model_eval.proofs.Chains.{products, sums}
use Rattle.cq_values.specs.Lent.{owned}
use Rattle.cq_operators_scans.specs.Operand.{values_signed, values_worked}
use Rattle.cq_operators_scans.proofs.Lists.{same-length}
use Rattle.cq_operators_scans.proofs.Valuing.{extract-exact, extracted-values, factor-exact, fits, fits-at, literal-values, negated-fits, negated-values, next, part-exact, term-exact}
use Rattle.cq_operators_scans.proofs.vectors.+working.Goals as goal

pub operation_worked_out-negated-requires : goal.operation_worked_out-negated-requires
operation_worked_out-negated-requires t c =
    fits-at _ (negated-fits c.args.scan.now c.args.tree.now c.in-Negate.part c.deref.result.now c.in-Negate.is c.deref.ensures c.requires.exact (values_worked c.args.scan.now c.in_ok-worked_out-in-Negate.field-0) c.in_ok-worked_out-in-Negate.ensures)

pub operation_worked_out-worked_out-requires-in-Sum : goal.operation_worked_out-worked_out-requires-in-Sum
operation_worked_out-worked_out-requires-in-Sum t c =
    (search (rules, the_lemmas), term-exact c.args.scan.now c.args.tree.now c.in-Sum.first c.in-Sum.rest c.deref-in-Sum.result.now c.deref-in-Sum.ensures c.in-Sum.is c.requires.exact)

pub operation_worked_out-term_worked_out-requires : goal.operation_worked_out-term_worked_out-requires
operation_worked_out-term_worked_out-requires t c =
    (search (rules, the_lemmas), part-exact Plus plus sums c.args.scan.now (expr_of c.args.tree.now) c.deref-term-items.result.now c.loop-term.term-index c.term-item.result (values_worked c.args.scan.now c.loop-term.sum) c.loop-term-test.true c.term-item.is c.loop-term.invariant c.requires.exact)

pub operation_worked_out-plus-requires-clause-same : goal.operation_worked_out-plus-requires-clause-same
operation_worked_out-plus-requires-clause-same t c =
    same-length (eval c.loop-term.invariant.front) (eval (expr_of c.term-item.result)) c.args.scan.now (values_worked c.args.scan.now c.loop-term.sum) (values_signed c.args.scan.now c.in-Ok.term) c.loop-term.invariant.are c.in-Ok.ensures

pub operation_worked_out-plus-requires-clause-fits : goal.operation_worked_out-plus-requires-clause-fits
operation_worked_out-plus-requires-clause-fits t c =
    fits-at _ (fits Plus plus sums c.args.scan.now (expr_of c.args.tree.now) c.deref-term-items.result.now c.loop-term.term-index c.term-item.result (values_worked c.args.scan.now c.loop-term.sum) c.loop-term-test.true c.term-item.is
    (values_signed c.args.scan.now c.in-Ok.term) c.in-Ok.ensures c.loop-term.invariant c.requires.exact)

pub operation_worked_out-worked_out-requires-in-Product : goal.operation_worked_out-worked_out-requires-in-Product
operation_worked_out-worked_out-requires-in-Product t c =
    (search (rules, the_lemmas), factor-exact c.args.scan.now c.args.tree.now c.in-Product.first c.in-Product.rest c.deref-in-Product.result.now c.deref-in-Product.ensures c.in-Product.is c.requires.exact)

pub operation_worked_out-worked_out-requires-in-loop-factor : goal.operation_worked_out-worked_out-requires-in-loop-factor
operation_worked_out-worked_out-requires-in-loop-factor t c =
    (search (rules, the_lemmas), part-exact Times times products c.args.scan.now (expr_of c.args.tree.now) c.deref-factor-items.result.now c.loop-factor.factor-index c.factor-item.result (values_worked c.args.scan.now c.loop-factor.product) c.loop-factor-test.true c.factor-item.is c.loop-factor.invariant c.requires.exact)

pub operation_worked_out-times-requires-clause-same : goal.operation_worked_out-times-requires-clause-same
operation_worked_out-times-requires-clause-same t c =
    same-length (eval c.loop-factor.invariant.front) (eval (expr_of c.factor-item.result)) c.args.scan.now (values_worked c.args.scan.now c.loop-factor.product) (values_worked c.args.scan.now c.in-Ok-worked_out.factor) c.loop-factor.invariant.are c.in-Ok-worked_out.ensures

pub operation_worked_out-times-requires-clause-fits : goal.operation_worked_out-times-requires-clause-fits
operation_worked_out-times-requires-clause-fits t c =
    fits-at _ (fits Times times products c.args.scan.now (expr_of c.args.tree.now) c.deref-factor-items.result.now c.loop-factor.factor-index c.factor-item.result (values_worked c.args.scan.now c.loop-factor.product) c.loop-factor-test.true c.factor-item.is
    (values_worked c.args.scan.now c.in-Ok-worked_out.factor) c.in-Ok-worked_out.ensures c.loop-factor.invariant c.requires.exact)

pub operation_worked_out-worked_out-requires-in-Extract : goal.operation_worked_out-worked_out-requires-in-Extract
operation_worked_out-worked_out-requires-in-Extract t c =
    (search (rules, the_lemmas), extract-exact c.args.scan.now c.args.tree.now c.in-Extract.day_part c.in-Extract.part c.deref-in-Extract.result.now c.in-Extract.is c.deref-in-Extract.ensures c.requires.exact)

pub operation_worked_out-loop-term-preserved : goal.operation_worked_out-loop-term-preserved
operation_worked_out-loop-term-preserved t c =
    next Plus plus sums c.args.scan.now (expr_of c.args.tree.now) c.deref-term-items.result.now c.loop-term.term-index c.term-item.result (values_worked c.args.scan.now c.loop-term.sum) c.loop-term-test.true c.term-item.is
    (values_signed c.args.scan.now c.in-Ok.term) c.in-Ok.ensures (values_worked c.args.scan.now c.in_ok-sum-in-Sum-2.sum) c.in_ok-sum-in-Sum-2.ensures c.loop-term.invariant

pub operation_worked_out-loop-factor-preserved : goal.operation_worked_out-loop-factor-preserved
operation_worked_out-loop-factor-preserved t c =
    next Times times products c.args.scan.now (expr_of c.args.tree.now) c.deref-factor-items.result.now c.loop-factor.factor-index c.factor-item.result (values_worked c.args.scan.now c.loop-factor.product) c.loop-factor-test.true c.factor-item.is
    (values_worked c.args.scan.now c.in-Ok-worked_out.factor) c.in-Ok-worked_out.ensures (values_worked c.args.scan.now c.in_ok-product-in-Product-2.product) c.in_ok-product-in-Product-2.ensures c.loop-factor.invariant

pub worked_out-returns-in-Literal : goal.worked_out-returns-in-Literal
worked_out-returns-in-Literal t c =
    literal-values c.args.scan.now c.args.tree.now c.in-Literal.value (owned c.lend.result) c.len.result c.new-values.result c.in-Literal.is c.lend.ensures c.len.ensures.len c.new-values.ensures

pub term_worked_out-returns-in_ok-worked : goal.term_worked_out-returns-in_ok-worked
term_worked_out-returns-in_ok-worked t c =
    negated-values c.args.scan.now c.args.tree.now (map negated (values_worked c.args.scan.now c.in_ok-worked.worked)) (values_worked c.args.scan.now c.in_ok-worked.worked) c.deref.result.now c.in_ok-worked.ensures
    c.in-Negate.part c.in-Negate.is c.deref.ensures refl

pub operation_worked_out-returns-in_ok-worked_out-in-Negate : goal.operation_worked_out-returns-in_ok-worked_out-in-Negate
operation_worked_out-returns-in_ok-worked_out-in-Negate t c =
    IfOk-weaker c.negated.result _ _ (λ made h. negated-values c.args.scan.now c.args.tree.now (values_worked c.args.scan.now made) (values_worked c.args.scan.now c.in_ok-worked_out-in-Negate.field-0) c.deref.result.now c.in_ok-worked_out-in-Negate.ensures
    c.in-Negate.part c.in-Negate.is c.deref.ensures h) c.negated.ensures

pub operation_worked_out-returns-in_ok-worked_out-in-Extract : goal.operation_worked_out-returns-in_ok-worked_out-in-Extract
operation_worked_out-returns-in_ok-worked_out-in-Extract t c =
    IfOk-weaker c.extracted.result _ _ (λ made h. extracted-values c.args.scan.now c.args.tree.now (values_worked c.args.scan.now made) (values_worked c.args.scan.now c.in_ok-worked_out-in-Extract.field-0) c.deref-in-Extract.result.now c.in_ok-worked_out-in-Extract.ensures
    c.in-Extract.day_part c.in-Extract.part c.in-Extract.is c.deref-in-Extract.ensures h) c.extracted.ensures
