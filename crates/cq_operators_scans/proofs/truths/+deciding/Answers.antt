use Rattle.std.proofs.Common.{rules, refl}
use Rattle.cq_values.specs.Truth.{and_truth, or_truth}
use Rattle.cq_model.specs.declared.expr.CondTree.TheViews.{the_lemmas}
use Rattle.cq_model.specs.Condition.{holds}
use Rattle.cq_model.specs.Trees.{cond_of}
use Rattle.cq_operators_scans.proofs.Deciding.{and-first, and-part, and-start, next, or-first, or-part, or-start, part_holds}
use Rattle.cq_operators_scans.proofs.Nodes.{between-exact, compare-exact, in-exact, like-exact, not-exact, not-truths, null-exact}
use Rattle.cq_operators_scans.proofs.truths.+deciding.Goals as goal

pub truths_of_tree-compared_in-requires-clause-a : goal.truths_of_tree-compared_in-requires-clause-a
truths_of_tree-compared_in-requires-clause-a t c =
    (compare-exact c.args.scan.now c.args.tree.now c.requires c.in-Compare.comparison c.in-Compare.a c.in-Compare.b c.in-Compare.is).0

pub truths_of_tree-compared_in-requires-clause-b : goal.truths_of_tree-compared_in-requires-clause-b
truths_of_tree-compared_in-requires-clause-b t c =
    (compare-exact c.args.scan.now c.args.tree.now c.requires c.in-Compare.comparison c.in-Compare.a c.in-Compare.b c.in-Compare.is).1

pub truths_of_tree-nulls_in-requires : goal.truths_of_tree-nulls_in-requires
truths_of_tree-nulls_in-requires t c =
    null-exact c.args.scan.now c.args.tree.now c.requires c.in-IsNull.expr c.in-IsNull.is

pub truths_of_tree-between_in-requires-clause-value : goal.truths_of_tree-between_in-requires-clause-value
truths_of_tree-between_in-requires-clause-value t c =
    (between-exact c.args.scan.now c.args.tree.now c.requires c.in-Between.expr c.in-Between.least c.in-Between.greatest c.in-Between.is).0

pub truths_of_tree-between_in-requires-clause-least : goal.truths_of_tree-between_in-requires-clause-least
truths_of_tree-between_in-requires-clause-least t c =
    (between-exact c.args.scan.now c.args.tree.now c.requires c.in-Between.expr c.in-Between.least c.in-Between.greatest c.in-Between.is).1

pub truths_of_tree-between_in-requires-clause-greatest : goal.truths_of_tree-between_in-requires-clause-greatest
truths_of_tree-between_in-requires-clause-greatest t c =
    (between-exact c.args.scan.now c.args.tree.now c.requires c.in-Between.expr c.in-Between.least c.in-Between.greatest c.in-Between.is).2

pub truths_of_tree-one_of_in-requires-clause-value : goal.truths_of_tree-one_of_in-requires-clause-value
truths_of_tree-one_of_in-requires-clause-value t c =
    (in-exact c.args.scan.now c.args.tree.now c.requires c.in-In.expr c.in-In.choices c.in-In.is).0

pub truths_of_tree-one_of_in-requires-clause-choices : goal.truths_of_tree-one_of_in-requires-clause-choices
truths_of_tree-one_of_in-requires-clause-choices t c =
    rw c.deref.ensures.value (in-exact c.args.scan.now c.args.tree.now c.requires c.in-In.expr c.in-In.choices c.in-In.is).1

pub truths_of_tree-likes_in-requires : goal.truths_of_tree-likes_in-requires
truths_of_tree-likes_in-requires t c =
    like-exact c.args.scan.now c.args.tree.now c.requires c.in-Like.expr c.in-Like.pattern c.in-Like.is

pub connective_in-truths_of_tree-requires : goal.connective_in-truths_of_tree-requires
connective_in-truths_of_tree-requires t c =
    (search (rules, the_lemmas), not-exact c.args.scan.now c.args.tree.now c.requires.exact c.in-Not.part c.deref.result.now c.in-Not.is c.deref.ensures)

pub connective_in-truths_of_tree-requires-in-And : goal.connective_in-truths_of_tree-requires-in-And
connective_in-truths_of_tree-requires-in-And t c =
    (search (rules, the_lemmas), and-first c.args.scan.now c.args.tree.now c.in-And.first c.in-And.rest c.deref-in-And.result.now c.in-And.rest.items c.deref-in-And.ensures refl c.requires.exact c.in-And.is)

pub connective_in-loop-part-init : goal.connective_in-loop-part-init
connective_in-loop-part-init t c =
    and-start c.args.scan.now c.args.tree.now c.in-And.first c.in-And.rest c.deref-in-And.result.now c.deref-part-items.result.now c.deref-in-And.ensures c.deref-part-items.ensures.value c.in_ok-truths-in-And.truths (c.in_ok-truths-in-And.ensures) c.in-And.is

pub connective_in-truths_of_tree-requires-in-loop-part : goal.connective_in-truths_of_tree-requires-in-loop-part
connective_in-truths_of_tree-requires-in-loop-part t c =
    (search (rules, the_lemmas), and-part c.args.scan.now c.args.tree.now c.in-And.first c.in-And.rest c.deref-in-And.result.now c.deref-part-items.result.now c.deref-in-And.ensures c.deref-part-items.ensures.value c.requires.exact c.loop-part.part-index c.part-item.result c.loop-part-test.true c.part-item.is c.in-And.is)

pub connective_in-loop-part-preserved : goal.connective_in-loop-part-preserved
connective_in-loop-part-preserved t c =
    next and_truth part_holds c.args.scan.now c.deref-part-items.result.now c.loop-part.part-index c.loop-part.truths (holds (cond_of c.args.tree.now)) c.part-item.result c.loop-part-test.true c.part-item.is
    c.in_ok-truths_of_tree-in-And.field-0 c.and_with.new.self c.in_ok-truths_of_tree-in-And.ensures c.and_with.ensures c.loop-part.invariant

pub connective_in-truths_of_tree-requires-in-Or : goal.connective_in-truths_of_tree-requires-in-Or
connective_in-truths_of_tree-requires-in-Or t c =
    (search (rules, the_lemmas), or-first c.args.scan.now c.args.tree.now c.in-Or.first c.in-Or.rest c.deref-in-Or.result.now c.in-Or.rest.items c.deref-in-Or.ensures refl c.requires.exact c.in-Or.is)

pub connective_in-loop-choice-init : goal.connective_in-loop-choice-init
connective_in-loop-choice-init t c =
    or-start c.args.scan.now c.args.tree.now c.in-Or.first c.in-Or.rest c.deref-in-Or.result.now c.deref-choice-items.result.now c.deref-in-Or.ensures c.deref-choice-items.ensures.value c.in_ok-truths-in-Or.truths (c.in_ok-truths-in-Or.ensures) c.in-Or.is

pub connective_in-truths_of_tree-requires-in-loop-choice : goal.connective_in-truths_of_tree-requires-in-loop-choice
connective_in-truths_of_tree-requires-in-loop-choice t c =
    (search (rules, the_lemmas), or-part c.args.scan.now c.args.tree.now c.in-Or.first c.in-Or.rest c.deref-in-Or.result.now c.deref-choice-items.result.now c.deref-in-Or.ensures c.deref-choice-items.ensures.value c.requires.exact c.loop-choice.choice-index c.choice-item.result c.loop-choice-test.true c.choice-item.is c.in-Or.is)

pub connective_in-loop-choice-preserved : goal.connective_in-loop-choice-preserved
connective_in-loop-choice-preserved t c =
    next or_truth part_holds c.args.scan.now c.deref-choice-items.result.now c.loop-choice.choice-index c.loop-choice.truths (holds (cond_of c.args.tree.now)) c.choice-item.result c.loop-choice-test.true c.choice-item.is
    c.in_ok-truths_of_tree-in-Or.field-0 c.or_with.new.self c.in_ok-truths_of_tree-in-Or.ensures c.or_with.ensures c.loop-choice.invariant

pub connective_in-returns-in_ok-truths-in-Not : goal.connective_in-returns-in_ok-truths-in-Not
connective_in-returns-in_ok-truths-in-Not t c =
    not-truths c.args.scan.now c.args.tree.now c.in-Not.part c.deref.result.now c.negate.new.self c.in_ok-truths-in-Not.truths c.in-Not.is c.deref.ensures c.in_ok-truths-in-Not.ensures c.negate.ensures
