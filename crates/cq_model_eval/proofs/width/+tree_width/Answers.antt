use Rattle.std.proofs.Common.{rules, arith, inl, inr}
use Rattle.cq_model.specs.Width.{limits_of}
use Rattle.cq_model_eval.proofs.Widths.{first-fits, joined-wide, negated-fits, next-wide, product-begun, sum-begun}
use Rattle.cq_model_eval.proofs.width.+tree_width.Goals as goal

pub returns-in_ok-tree_width-in-Negate : goal.returns-in_ok-tree_width-in-Negate
returns-in_ok-tree_width-in-Negate t c =
    let same = negated-fits (limits_of c.args.sizes.now) c.args.tree.now c.in-Negate.part c.deref.result.now c.in-Negate.is c.deref.ensures c.in_ok-tree_width-in-Negate.field-0 (search rules) in
    search rules

pub returns-in_err-sum-in-Sum : goal.returns-in_err-sum-in-Sum
returns-in_err-sum-in-Sum t c =
    let whole = first-fits (limits_of c.args.sizes.now) c.args.tree.now c.in-Sum.first c.in-Sum.rest c.deref-in-Sum.result.now c.deref-in-Sum.ensures (inl c.in-Sum.is) (search rules) in
    search rules

pub loop-term-init : goal.loop-term-init
loop-term-init t c =
    sum-begun (limits_of c.args.sizes.now) c.args.tree.now c.in-Sum.first c.in-Sum.rest c.deref-in-Sum.result.now c.deref-in-Sum.ensures c.deref-term-items.result.now c.in_ok-sum-in-Sum.sum c.deref-term-items.ensures.value c.in-Sum.is (search rules)

pub returns-in_err-tree_width-in-Sum : goal.returns-in_err-tree_width-in-Sum
returns-in_err-tree_width-in-Sum t c = search (rules, next-wide _ c.loop-term-test.true c.term-item.is c.loop-term.invariant (search rules))

pub returns-in_err-checked_add-in-Sum : goal.returns-in_err-checked_add-in-Sum
returns-in_err-checked_add-in-Sum t c = search (rules, joined-wide _ c.loop-term-test.true c.term-item.is c.loop-term.invariant c.in_ok-tree_width-in-Sum.field-0 (search rules) (grind (arith, c.checked_add.ensures)))

pub returns-in_err-sum-in-Sum-2 : goal.returns-in_err-sum-in-Sum-2
returns-in_err-sum-in-Sum-2 t c = search (rules, joined-wide _ c.loop-term-test.true c.term-item.is c.loop-term.invariant c.in_ok-tree_width-in-Sum.field-0 (search rules) (search rules))

pub returns-in_err-product-in-Product : goal.returns-in_err-product-in-Product
returns-in_err-product-in-Product t c =
    let whole = first-fits (limits_of c.args.sizes.now) c.args.tree.now c.in-Product.first c.in-Product.rest c.deref-in-Product.result.now c.deref-in-Product.ensures (inr c.in-Product.is) (search rules) in
    search rules

pub loop-factor-init : goal.loop-factor-init
loop-factor-init t c =
    product-begun (limits_of c.args.sizes.now) c.args.tree.now c.in-Product.first c.in-Product.rest c.deref-in-Product.result.now c.deref-in-Product.ensures c.deref-factor-items.result.now c.in_ok-product-in-Product.product c.deref-factor-items.ensures.value c.in-Product.is (search rules)

pub returns-in_err-tree_width-in-Product : goal.returns-in_err-tree_width-in-Product
returns-in_err-tree_width-in-Product t c = search (rules, next-wide _ c.loop-factor-test.true c.factor-item.is c.loop-factor.invariant (search rules))

pub returns-in_err-checked_mul-in-Product : goal.returns-in_err-checked_mul-in-Product
returns-in_err-checked_mul-in-Product t c = search (rules, joined-wide _ c.loop-factor-test.true c.factor-item.is c.loop-factor.invariant c.in_ok-tree_width-in-Product.field-0 (search rules) (grind (arith, c.checked_mul.ensures)))

pub returns-in_err-product-in-Product-2 : goal.returns-in_err-product-in-Product-2
returns-in_err-product-in-Product-2 t c = search (rules, joined-wide _ c.loop-factor-test.true c.factor-item.is c.loop-factor.invariant c.in_ok-tree_width-in-Product.field-0 (search rules) (search rules))
