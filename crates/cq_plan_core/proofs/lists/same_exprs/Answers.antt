use Rattle.std.proofs.Common.{◌≡◌, ◌∙◌, ◌<◌, ap, get_or, length, map, sym, arith}
use Rattle.std.proofs.lemmas.List.{get_or-map, length-map}
use Rattle.cq_model.specs.Trees.{expr_of}
use Rattle.cq_model_core.specs.Same.{same_expr}
use Rattle.cq_plan_core.proofs.Parts.{rest-next, rest-other}
use Rattle.cq_plan_core.proofs.lists.same_exprs.Goals as goal

pub returns-then-not-same_expr : goal.returns-then-not-same_expr
returns-then-not-same_expr c =
    let a = c.args.a.now in
    let b = c.args.b.now in
    let n = c.loop-place.place in
    let x = c.index-a-place.result in
    let y = c.index-b-place.result in
    let inside : n < length b = omega (arith, c.loop-place-test.true, c.if-a-b.false) in
    let is : expr_of x ≡ get_or (map expr_of a) n (expr_of x) = ap expr_of c.index-a-place.is ∙ sym (get_or-map expr_of a n x (expr_of x) c.loop-place-test.true) in
    let that : expr_of y ≡ get_or (map expr_of b) n (expr_of y) = ap expr_of c.index-b-place.is ∙ sym (get_or-map expr_of b n y (expr_of y) inside) in
    sym (rest-other same_expr (map expr_of a) (map expr_of b) n (expr_of x) (expr_of y)
    (omega (arith, c.loop-place-test.true, length-map a expr_of)) (omega (arith, inside, length-map b expr_of)) is that c.loop-place.invariant
    (sym c.same_expr.ensures ∙ c.if-not-same_expr.true))

pub loop-place-preserved : goal.loop-place-preserved
loop-place-preserved c =
    let a = c.args.a.now in
    let b = c.args.b.now in
    let n = c.loop-place.place in
    let x = c.index-a-place.result in
    let y = c.index-b-place.result in
    let inside : n < length b = omega (arith, c.loop-place-test.true, c.if-a-b.false) in
    let is : expr_of x ≡ get_or (map expr_of a) n (expr_of x) = ap expr_of c.index-a-place.is ∙ sym (get_or-map expr_of a n x (expr_of x) c.loop-place-test.true) in
    let that : expr_of y ≡ get_or (map expr_of b) n (expr_of y) = ap expr_of c.index-b-place.is ∙ sym (get_or-map expr_of b n y (expr_of y) inside) in
    rest-next same_expr (map expr_of a) (map expr_of b) n (expr_of x) (expr_of y)
    (omega (arith, c.loop-place-test.true, length-map a expr_of)) (omega (arith, inside, length-map b expr_of)) is that c.loop-place.invariant
    (sym c.same_expr.ensures ∙ c.if-not-same_expr.false)
