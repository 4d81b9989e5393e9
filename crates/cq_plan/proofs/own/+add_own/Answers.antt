use Rattle.std.proofs.Common.{sym}
use Rattle.cq_model.specs.Own.{whole}
use Rattle.cq_model.specs.Trees.{cond_of}
use Rattle.cq_plan.proofs.Asked.{ask-and, ask-next, ask-or, ask-pushed, ask-same, or-of-one, own-same}
use Rattle.cq_plan.proofs.Owned.{first-is-part, later-is-part, own-through}
use Rattle.cq_plan.proofs.own.+add_own.Goals as goal
use Rattle.std.proofs.lemmas.Result.{on_ok_weaker}

pub returns-then-tests_only-clause-all : goal.returns-then-tests_only-clause-all
returns-then-tests_only-clause-all t c = ask-pushed c.args.before c.args.wide c.args.tree c.args.own.now.items c.push.new.self.items c.in_ok-push.ensures.items

pub loop-part-preserved : goal.loop-part-preserved
loop-part-preserved t c = ask-next c.args.before c.args.wide c.args.tree.now c.deref-part-items.result.now c.loop-part.part-index c.add_own.new.own.items c.loop-part.own.items c.add_own-in-loop-part.new.own.items
    c.part-item.result c.loop-part-test.true c.part-item.is c.loop-part.invariant
    (own-through c.part-item.result c.args.tree.now c.args.before c.args.wide c.add_own.new.own.items c.loop-part.own.items c.add_own-in-loop-part.new.own.items
    (later-is-part c.args.tree.now c.in-And.first c.in-And.rest c.in-And.is c.deref-part-items.result.now c.deref-part-items.ensures.value c.loop-part.part-index c.part-item.result c.part-item.result c.loop-part-test.true c.part-item.is)
    c.loop-part.invariant.own c.in_ok-add_own-in-And-2.ensures.own)
    c.in_ok-add_own-in-And-2.ensures.all

pub returns-after-loop-part-clause-own : goal.returns-after-loop-part-clause-own
returns-after-loop-part-clause-own t c =
    let tree = c.args.tree.now in
    own-through tree tree c.args.before c.args.wide c.args.own.now.items c.add_own.new.own.items c.loop-part.own.items (whole (cond_of tree))
    (own-through c.deref.result.now tree c.args.before c.args.wide c.args.own.now.items c.args.own.now.items c.add_own.new.own.items (first-is-part tree c.in-And.first c.in-And.rest c.in-And.is c.deref.result.now c.deref.ensures) (λ filter of own. own) c.in_ok-add_own-in-And.ensures.own)
    c.loop-part.invariant.own

pub returns-after-loop-part-clause-all : goal.returns-after-loop-part-clause-all
returns-after-loop-part-clause-all t c = ask-and c.args.before c.args.wide c.args.tree.now c.in-And.first c.in-And.rest c.deref.result.now c.deref-part-items.result.now c.loop-part.part-index
    c.args.own.now.items c.add_own.new.own.items c.loop-part.own.items c.in-And.is c.deref.ensures c.deref-part-items.ensures.value c.loop-part-test.false c.in_ok-add_own-in-And.ensures.all c.loop-part.invariant

pub returns-then-is_empty-clause-own : goal.returns-then-is_empty-clause-own
returns-then-is_empty-clause-own t c = on_ok_weaker c.add_own-then-is_empty.result
    (own-same c.args.before c.args.wide c.deref-then-is_empty.result.now c.args.tree.now c.args.own.now.items c.add_own-then-is_empty.new.own.items
    (or-of-one c.args.before c.args.wide c.args.tree.now c.in-Or.first c.in-Or.rest c.deref-then-is_empty.result.now c.in-Or.is c.deref-then-is_empty.ensures c.if-is_empty.ensures))
    c.add_own-then-is_empty.ensures.own

pub returns-then-is_empty-clause-all : goal.returns-then-is_empty-clause-all
returns-then-is_empty-clause-all t c = on_ok_weaker c.add_own-then-is_empty.result
    (ask-same c.args.before c.args.wide c.deref-then-is_empty.result.now c.args.tree.now c.args.own.now.items c.add_own-then-is_empty.new.own.items
    (or-of-one c.args.before c.args.wide c.args.tree.now c.in-Or.first c.in-Or.rest c.deref-then-is_empty.result.now c.in-Or.is c.deref-then-is_empty.ensures c.if-is_empty.ensures))
    c.add_own-then-is_empty.ensures.all

pub returns-else-is_empty-clause-all : goal.returns-else-is_empty-clause-all
returns-else-is_empty-clause-all t c = ask-or c.args.before c.args.wide c.args.tree.now c.in-Or.first c.in-Or.rest c.args.own.now.items c.in-Or.is c.if-is_empty.ensures (sym c.if-tests_only.ensures)
