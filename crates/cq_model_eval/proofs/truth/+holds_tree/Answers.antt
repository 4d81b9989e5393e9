use Rattle.std.proofs.Common.{rules, drop, map, refl}
use Rattle.cq_model.specs.declared.expr.CondTree.TheViews.{the_lemmas}
use Rattle.cq_model.specs.Condition.{holds}
use Rattle.cq_model.specs.Trees.{cond_of}
use Rattle.cq_model_eval.proofs.Conditions.{and-exact, and-part, and-start, false-found, or-exact, or-part, or-start, true-found}
use Rattle.cq_model_eval.proofs.truth.+holds_tree.Goals as goal

pub holds_tree-truth-requires : goal.holds_tree-truth-requires
holds_tree-truth-requires t c =
    let parts = and-exact c.args.row.now c.args.tree.now c.in-And.first c.in-And.rest c.deref-in-And.result.now c.in-And.rest.items c.deref-in-And.ensures refl c.requires c.in-And.is in
    (search (rules, the_lemmas), parts.0)

pub holds_tree-truth-requires-in-Or : goal.holds_tree-truth-requires-in-Or
holds_tree-truth-requires-in-Or t c =
    let parts = or-exact c.args.row.now c.args.tree.now c.in-Or.first c.in-Or.rest c.deref-in-Or.result.now c.in-Or.rest.items c.deref-in-Or.ensures refl c.requires c.in-Or.is in
    (search (rules, the_lemmas), parts.0)

pub loop-part-init : goal.loop-part-init
loop-part-init t c =
    and-start c.args.row.now c.args.tree.now c.in-And.first c.in-And.rest c.deref-in-And.result.now c.deref-part-items.result.now c.holds_tree-truth.result c.deref-in-And.ensures c.deref-part-items.ensures.value c.holds_tree-truth.ensures c.in-And.is

pub loop-choice-init : goal.loop-choice-init
loop-choice-init t c =
    or-start c.args.row.now c.args.tree.now c.in-Or.first c.in-Or.rest c.deref-in-Or.result.now c.deref-choice-items.result.now c.holds_tree-truth-in-Or.result c.deref-in-Or.ensures c.deref-choice-items.ensures.value c.holds_tree-truth-in-Or.ensures c.in-Or.is

pub returns-then-eq : goal.returns-then-eq
returns-then-eq t c =
    false-found c.loop-part.truth (holds (cond_of c.args.tree.now) c.args.row.now) (map (λ x. holds (cond_of x) c.args.row.now) (drop c.loop-part.part-index c.deref-part-items.result.now)) (search rules) c.loop-part.invariant

pub returns-then-eq-2 : goal.returns-then-eq-2
returns-then-eq-2 t c =
    true-found c.loop-choice.truth (holds (cond_of c.args.tree.now) c.args.row.now) (map (λ x. holds (cond_of x) c.args.row.now) (drop c.loop-choice.choice-index c.deref-choice-items.result.now)) (search rules) c.loop-choice.invariant

pub holds_tree-requires-in-loop-part : goal.holds_tree-requires-in-loop-part
holds_tree-requires-in-loop-part t c =
    let part = and-part c.args.row.now c.args.tree.now c.in-And.first c.in-And.rest c.deref-in-And.result.now c.deref-part-items.result.now c.deref-in-And.ensures c.deref-part-items.ensures.value c.requires c.loop-part.part-index c.part-item.result c.loop-part-test.true c.part-item.is c.in-And.is in
    (search (rules, the_lemmas), part)

pub holds_tree-requires-in-loop-choice : goal.holds_tree-requires-in-loop-choice
holds_tree-requires-in-loop-choice t c =
    let part = or-part c.args.row.now c.args.tree.now c.in-Or.first c.in-Or.rest c.deref-in-Or.result.now c.deref-choice-items.result.now c.deref-in-Or.ensures c.deref-choice-items.ensures.value c.requires c.loop-choice.choice-index c.choice-item.result c.loop-choice-test.true c.choice-item.is c.in-Or.is in
    (search (rules, the_lemmas), part)
