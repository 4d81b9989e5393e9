use Rattle.std.proofs.Common.{◌+◌, ◌++◌, ◌∷◌, [], ap, sym, subst, ◌∙◌}
use Rattle.cq_model.specs.Expr.{Expr}
use Rattle.cq_engine_answers.specs.AtHand.{AreAllColumns}
use Rattle.cq_engine_answers.proofs.AtHand.{none-yet, one-more}
use Rattle.cq_engine_answers.proofs.at_hand.columns.Goals as goal

pub loop-place-init : goal.loop-place-init
loop-place-init c = subst (AreAllColumns 0) (sym c.new-items.ensures) none-yet

pub loop-place-preserved : goal.loop-place-preserved
loop-place-preserved c =
    let n = c.loop-place.place in
    let items = c.loop-place.items in
    subst (AreAllColumns (n + 1)) (sym (c.in_ok-push.ensures.ok ∙ ap (λ (e : Expr). items ++ e ∷ []) c.column.ensures)) (one-more n items c.loop-place.invariant)
