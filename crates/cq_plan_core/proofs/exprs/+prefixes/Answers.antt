use Rattle.std.proofs.Common.{◌≡◌, ◌∙◌, ◌-◌, ◌<◌, ℕ, suc, true, false, get_or, length, map, ap, sym, subst, arith}
use Rattle.std.proofs.lemmas.List.{get_or-map, length-map}
use Rattle.cq_model.specs.Expr.{Column}
use Rattle.cq_model.specs.Trees.{expr_of}
use Rattle.cq_model_core.specs.Same.{same_expr}
use Rattle.cq_plan_core.specs.Prefixes.{is_left, node, prefix_of}
use Rattle.cq_plan_core.proofs.Chains.{Left, all-left, less-left, none-left, other-left}
use Rattle.cq_plan_core.proofs.Parts.{expr-pairs}
use Rattle.cq_plan_core.proofs.exprs.+prefixes.Goals as goal

pub without-loop-place-init : goal.without-loop-place-init
without-loop-place-init t c =
    let xs = map expr_of c.args.parts.now in
    all-left same_expr (node c.args.sums) xs (prefix_of c.args.prefix) (length c.args.parts.now) (omega (arith, length-map c.args.parts.now expr_of))

-- the prefix does not end with such a part
pub without-returns-in_err-before : goal.without-returns-in_err-before
without-returns-in_err-before t c =
    let parts = c.args.parts.now in
    let xs = map expr_of parts in
    let n = c.loop-place.place - 1 in
    let there : c.loop-place.place ≡ suc n = omega (arith, c.loop-place-test.true) in
    let inside : n < length xs = omega (arith, c.loop-place-test.true, c.loop-place.auto.place, length-map parts expr_of) in
    let w = prefix_of c.loop-place.left in
    let left = subst (λ (m : ℕ). Left same_expr (node c.args.sums) xs (prefix_of c.args.prefix) m w) there c.loop-place.invariant in
    λ e.
    none-left same_expr (node c.args.sums) xs (prefix_of c.args.prefix) (expr-pairs c.args.sums) n w inside left (Column 0) c.in_err-before.ensures e
    ∙ ap (is_left e) (sym c.from_residual.ensures)

-- or with another one
pub without-returns-then-not-is_prefix : goal.without-returns-then-not-is_prefix
without-returns-then-not-is_prefix t c =
    let parts = c.args.parts.now in
    let xs = map expr_of parts in
    let n = c.loop-place.place - 1 in
    let there : c.loop-place.place ≡ suc n = omega (arith, c.loop-place-test.true) in
    let short : n < length parts = omega (arith, c.loop-place-test.true, c.loop-place.auto.place) in
    let inside : n < length xs = omega (arith, short, length-map parts expr_of) in
    let w = prefix_of c.loop-place.left in
    let left = subst (λ (m : ℕ). Left same_expr (node c.args.sums) xs (prefix_of c.args.prefix) m w) there c.loop-place.invariant in
    let part = c.index-parts-place.result in
    let is : expr_of part ≡ get_or xs n (expr_of part) = ap expr_of c.index-parts-place.is ∙ sym (get_or-map expr_of parts n part (expr_of part) short) in
    let other : same_expr (expr_of part) (expr_of c.in_ok-before.last.now) ≡ false = sym (c.is_prefix.ensures ∙ ap (same_expr (expr_of part)) c.whole.ensures) ∙ c.if-not-is_prefix.true in
    other-left same_expr (node c.args.sums) xs (prefix_of c.args.prefix) (expr-pairs c.args.sums) n w inside left
    (expr_of part) (prefix_of c.in_ok-before.before) (expr_of c.in_ok-before.last.now) is c.in_ok-before.ensures other

-- or with this one, and the others are left
pub without-loop-place-preserved : goal.without-loop-place-preserved
without-loop-place-preserved t c =
    let parts = c.args.parts.now in
    let xs = map expr_of parts in
    let n = c.loop-place.place - 1 in
    let there : c.loop-place.place ≡ suc n = omega (arith, c.loop-place-test.true) in
    let short : n < length parts = omega (arith, c.loop-place-test.true, c.loop-place.auto.place) in
    let inside : n < length xs = omega (arith, short, length-map parts expr_of) in
    let w = prefix_of c.loop-place.left in
    let left = subst (λ (m : ℕ). Left same_expr (node c.args.sums) xs (prefix_of c.args.prefix) m w) there c.loop-place.invariant in
    let part = c.index-parts-place.result in
    let is : expr_of part ≡ get_or xs n (expr_of part) = ap expr_of c.index-parts-place.is ∙ sym (get_or-map expr_of parts n part (expr_of part) short) in
    let one : same_expr (expr_of part) (expr_of c.in_ok-before.last.now) ≡ true = sym (c.is_prefix.ensures ∙ ap (same_expr (expr_of part)) c.whole.ensures) ∙ c.if-not-is_prefix.false in
    less-left same_expr (node c.args.sums) xs (prefix_of c.args.prefix) (expr-pairs c.args.sums) n w inside left
    (expr_of part) (prefix_of c.in_ok-before.before) (expr_of c.in_ok-before.last.now) is c.in_ok-before.ensures one
