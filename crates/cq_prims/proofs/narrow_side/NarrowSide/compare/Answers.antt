use Rattle.std.proofs.Common.{◌∙◌, ap, int_lt, map, not, pos, refl, sym, ◌+ℤ◌, ℕ}
use Rattle.std.specs.Ordering.{int_eq}
use lib.Lanes.{zip2}
use Rattle.cq_values.specs.Comparison.{compared}
use Rattle.cq_values.specs.Truth.{not_truth}
use Rattle.cq_values.specs.declared.comparison.Comparison.TheVariants.{Equal, NotEqual, Less, LessOrEqual, Greater, GreaterOrEqual}
use Rattle.cq_prims_lanes.specs.UpTo.{is_up_to}
use Rattle.cq_prims.proofs.Beside.{at_most_agrees, by_beside, by_opposite, not_at_most}
use Rattle.cq_prims.proofs.Compared.{equal_agrees, less_agrees, not_equal, not_less}
use Rattle.cq_prims.proofs.narrow_side.NarrowSide.compare.Goals as goal

pub returns-in-Less : goal.returns-in-Less
returns-in-Less c vs ws beside =
    let side = c.args.self.now in
    c.set_up_to.ensures ∙ by_beside Less int_lt less_agrees side vs ws side.same beside (is_up_to c.last_below.result) c.last_below.ensures
    ∙ ap (λ k. zip2 (compared k) vs ws) (sym c.in-Less.is)

pub returns-in-LessOrEqual : goal.returns-in-LessOrEqual
returns-in-LessOrEqual c vs ws beside =
    let side = c.args.self.now in
    c.set_up_to-in-LessOrEqual.ensures ∙ by_beside LessOrEqual (λ m n. not (int_lt n m)) at_most_agrees side vs ws side.same beside (is_up_to c.last_up_to.result) c.last_up_to.ensures
    ∙ ap (λ k. zip2 (compared k) vs ws) (sym c.in-LessOrEqual.is)

pub returns-in-Equal : goal.returns-in-Equal
returns-in-Equal c vs ws beside =
    let side = c.args.self.now in
    c.set_equal.ensures ∙ by_beside Equal int_eq equal_agrees side vs ws side.same beside (λ (o : ℕ). int_eq (side.base +ℤ pos o) side.value) (λ o. refl)
    ∙ ap (λ k. zip2 (compared k) vs ws) (sym c.in-Equal.is)

pub returns-in-NotEqual : goal.returns-in-NotEqual
returns-in-NotEqual c vs ws beside =
    let side = c.args.self.now in
    let turned = by_opposite Equal int_eq equal_agrees NotEqual not_equal side vs ws side.same beside (λ (o : ℕ). int_eq (side.base +ℤ pos o) side.value) (λ o. refl) in
    c.negate.ensures ∙ ap (map not_truth) c.set_equal-in-NotEqual.ensures ∙ turned ∙ ap (λ k. zip2 (compared k) vs ws) (sym c.in-NotEqual.is)

pub returns-in-Greater : goal.returns-in-Greater
returns-in-Greater c vs ws beside =
    let last = c.last_up_to-in-Greater in
    let turned = by_opposite LessOrEqual (λ m n. not (int_lt n m)) at_most_agrees Greater not_at_most c.args.self.now vs ws c.args.self.now.same beside (is_up_to last.result) last.ensures in
    c.negate-in-Greater.ensures ∙ ap (map not_truth) c.set_up_to-in-Greater.ensures ∙ turned ∙ ap (λ k. zip2 (compared k) vs ws) (sym c.in-Greater.is)

pub returns-in-GreaterOrEqual : goal.returns-in-GreaterOrEqual
returns-in-GreaterOrEqual c vs ws beside =
    let last = c.last_below-in-GreaterOrEqual in
    let turned = by_opposite Less int_lt less_agrees GreaterOrEqual not_less c.args.self.now vs ws c.args.self.now.same beside (is_up_to last.result) last.ensures in
    c.negate-in-GreaterOrEqual.ensures ∙ ap (map not_truth) c.set_up_to-in-GreaterOrEqual.ensures ∙ turned ∙ ap (λ k. zip2 (compared k) vs ws) (sym c.in-GreaterOrEqual.is)
