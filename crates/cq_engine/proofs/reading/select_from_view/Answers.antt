use Rattle.std.proofs.Common.{◌≡◌, ◌<◌, ℕ, List, length, inr, refl, subst, sym}
use Rattle.std.proofs.lemmas.Result.{err_from_is_err_and}
use Rattle.cq_model_state.specs.State.{AreNumbered, TableOf, ViewOf}
use Rattle.cq_model_step.specs.Next.{taken_on}
use Rattle.cq_model_step.specs.Step.{AreBetween}
use Rattle.cq_views.proofs.Standing.{standing-by_bags}
use Rattle.cq_engine_answers.specs.AtHand.{IsAtHand}
use Rattle.cq_engine_queue.specs.Counts.{AllMayBegin}
use Rattle.cq_engine_queue.specs.Goal.{goal_of}
use Rattle.cq_engine_queue.specs.declared.goal.Goal.TheVariants.{At}
use Rattle.cq_engine_tables.specs.HeldTables.{tables_of}
use Rattle.cq_engine_tables.specs.Views.{NamedView, views_of}
use Rattle.cq_engine.proofs.CorePlaces.{at_hand, core-tables, named-core, new_inside, on_ok_always}
use Rattle.cq_engine.proofs.Counted.{counted-anyway}
use Rattle.cq_engine.proofs.Selecting.{between-epochs, selects-epochs}
use Rattle.cq_engine.proofs.reading.select_from_view.Goals as goal

pub take_all_on-requires : goal.take_all_on-requires
take_all_on-requires c =
    let can = c.requires.can in
    record { state = can.state; queue = can.queue_is; history = can.history; right = can.right; now = can.now_is }

pub select_at_hand-requires-clause-numbered : goal.select_at_hand-requires-clause-numbered
select_at_hand-requires-clause-numbered c =
    let can = c.requires.can in
    (can.state.drawn, subst (λ (ts : List TableOf). AreNumbered ts can.state.drawn) can.tables_are can.history.sound.numbered)

-- the view is there
pub select_at_hand-requires-clause-inside : goal.select_at_hand-requires-clause-inside
select_at_hand-requires-clause-inside c =
    let can = c.requires.can in
    let s = can.state in
    let vs = c.take_all_on.new.views.items in
    let right = c.take_all_on.ensures.right s can.queue_is can.history can.right in
    subst (λ (us : List NamedView). c.args.place < length us) (sym c.deref.ensures.value)
    (new_inside c.core_is_told.ensures s c.args.query.now c.args.views.now.items can.right c.args.place c.requires.at_hand standing-by_bags can.history.sound.whole c.args.now can.now_is vs right c.in_ok-take_all_on.ensures.ok)

-- at the present, and has the core of the query
pub select_at_hand-requires-clause-at_hand : goal.select_at_hand-requires-clause-at_hand
select_at_hand-requires-clause-at_hand c =
    let can = c.requires.can in
    let s = can.state in
    let q = c.args.query.now in
    let vs = c.take_all_on.new.views.items in
    let right = c.take_all_on.ensures.right s can.queue_is can.history can.right in
    subst (λ (us : List NamedView). IsAtHand (tables_of c.args.tables.now) us q c.args.place) (sym c.deref.ensures.value)
    (subst (λ (ts : List TableOf). IsAtHand ts vs q c.args.place) can.tables_are
    (at_hand c.core_is_told.ensures s q c.args.views.now.items can.right c.args.place c.requires.at_hand standing-by_bags can.history.sound.whole c.args.now can.now_is vs right c.in_ok-take_all_on.ensures.ok))

pub returns-clause-selects : goal.returns-clause-selects
returns-clause-selects c =
    let q = c.args.query.now in
    let olds = views_of c.args.views.now.items in
    let news = views_of c.take_all_on.new.views.items in
    let selects = rw c.deref.ensures.value at c.select_at_hand.ensures in
    selects-epochs (tables_of c.args.tables.now) olds news (between-epochs (goal_of (At c.args.place) c.args.now) 0 olds news c.take_all_on.ensures.way) q c.args.order.now c.select_at_hand.result selects

-- it is the one view that the query names
pub returns-clause-ok : goal.returns-clause-ok
returns-clause-ok c =
    let can = c.requires.can in
    let q = c.args.query.now in
    let olds = c.args.views.now.items in
    let news = views_of c.take_all_on.new.views.items in
    let tables = core-tables c.core_is_told.ensures can.state q olds can.right c.args.place c.requires.at_hand in
    on_ok_always c.select_at_hand.result
    (subst (λ (to : ℕ → ViewOf → ℕ). news ≡ taken_on to 0 (views_of olds)) (named-core (views_of olds) q c.args.now c.args.place c.requires.at_hand tables) c.in_ok-take_all_on.ensures.ok)

pub returns-in_err-take_all_on-clause-way : goal.returns-in_err-take_all_on-clause-way
returns-in_err-take_all_on-clause-way c =
    let can = c.requires.can in
    let q = c.args.query.now in
    let olds = c.args.views.now.items in
    let news = views_of c.take_all_on.new.views.items in
    let tables = core-tables c.core_is_told.ensures can.state q olds can.right c.args.place c.requires.at_hand in
    subst (λ (to : ℕ → ViewOf → ℕ). AreBetween to 0 (views_of olds) news) (named-core (views_of olds) q c.args.now c.args.place c.requires.at_hand tables) c.take_all_on.ensures.way

pub returns-clause-way : goal.returns-clause-way
returns-clause-way c =
    let can = c.requires.can in
    let q = c.args.query.now in
    let olds = c.args.views.now.items in
    let news = views_of c.take_all_on.new.views.items in
    let tables = core-tables c.core_is_told.ensures can.state q olds can.right c.args.place c.requires.at_hand in
    subst (λ (to : ℕ → ViewOf → ℕ). AreBetween to 0 (views_of olds) news) (named-core (views_of olds) q c.args.now c.args.place c.requires.at_hand tables) c.take_all_on.ensures.way

pub returns-in_err-take_all_on-clause-counts : goal.returns-in_err-take_all_on-clause-counts
returns-in_err-take_all_on-clause-counts c =
    let p = err_from_is_err_and c.from_residual.result c.from_residual.ensures.1 in
    let can = c.requires.can in
    let q = c.args.query.now in
    let olds = c.args.views.now.items in
    let news = c.take_all_on.new.views.items in
    let tables = core-tables c.core_is_told.ensures can.state q olds can.right c.args.place c.requires.at_hand in
    rw (p.1, p.2)
    (inr (refl, subst (λ (to : ℕ → ViewOf → ℕ). AllMayBegin to c.args.queue.now olds news) (named-core (views_of olds) q c.args.now c.args.place c.requires.at_hand tables) c.take_all_on.ensures.begun))

pub returns-clause-counts : goal.returns-clause-counts
returns-clause-counts c =
    counted-anyway c.args.query.now c.args.now c.args.queue.now c.args.views.now c.take_all_on.new.views c.select_at_hand.result c.in_ok-take_all_on.ensures.counts
