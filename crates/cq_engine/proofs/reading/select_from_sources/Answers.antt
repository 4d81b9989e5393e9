use Rattle.std.proofs.Common.{◌≡◌, ℕ, List, inr, refl, subst, sym}
use Rattle.std.proofs.lemmas.Result.{err_from_is_err_and}
use Rattle.cq_model_state.specs.State.{AreNumbered, TableOf, ViewOf}
use Rattle.cq_model_step.specs.Next.{taken_on}
use Rattle.cq_model_step.specs.Step.{AreBetween}
use Rattle.cq_views.proofs.Standing.{standing-by_bags}
use Rattle.cq_engine_answers.specs.Reading.{AreReadable}
use Rattle.cq_engine_queue.specs.Counts.{AllMayBegin}
use Rattle.cq_engine_tables.specs.HeldTables.{tables_of}
use Rattle.cq_engine_tables.specs.Views.{NamedView, views_of}
use Rattle.cq_engine.proofs.CorePlaces.{named-sources, on_ok_always}
use Rattle.cq_engine.proofs.Counted.{counted-anyway}
use Rattle.cq_engine.proofs.Selecting.{are-readable, between-epochs, read-epochs, selects-epochs}
use Rattle.cq_engine_queue.specs.Goal.{sources_to}
use Rattle.cq_engine.proofs.reading.select_from_sources.Goals as goal

pub take_all_on-requires : goal.take_all_on-requires
take_all_on-requires c =
    let can = c.requires.can in
    record { state = can.state; queue = can.queue_is; history = can.history; right = can.right; now = can.now_is }

pub select_from-requires-clause-numbered : goal.select_from-requires-clause-numbered
select_from-requires-clause-numbered c =
    let can = c.requires.can in
    (can.state.drawn, subst (λ (ts : List TableOf). AreNumbered ts can.state.drawn) can.tables_are can.history.sound.numbered)

pub select_from-requires-clause-readable : goal.select_from-requires-clause-readable
select_from-requires-clause-readable c =
    let can = c.requires.can in
    let s = can.state in
    let q = c.args.query.now in
    let vs = c.take_all_on.new.views.items in
    let right = c.take_all_on.ensures.right s can.queue_is can.history can.right in
    subst (λ (us : List NamedView). AreReadable (tables_of c.args.tables.now) us q) (sym c.deref.ensures.value)
    (subst (λ (ts : List TableOf). AreReadable ts vs q) can.tables_are
    (are-readable standing-by_bags s can.history.sound.whole q c.args.now can.now_is (views_of c.args.views.now.items) vs right c.in_ok-take_all_on.ensures.ok))

pub select_from-requires-clause-can_read : goal.select_from-requires-clause-can_read
select_from-requires-clause-can_read c =
    let q = c.args.query.now in
    let olds = views_of c.args.views.now.items in
    let news = views_of c.take_all_on.new.views.items in
    rw c.deref.ensures.value (read-epochs (tables_of c.args.tables.now) olds news (between-epochs (sources_to q c.args.now) 0 olds news c.take_all_on.ensures.way) q c.requires.can.can)

pub returns-clause-selects : goal.returns-clause-selects
returns-clause-selects c =
    let q = c.args.query.now in
    let olds = views_of c.args.views.now.items in
    let news = views_of c.take_all_on.new.views.items in
    let selects = rw c.deref.ensures.value at c.select_from.ensures in
    selects-epochs (tables_of c.args.tables.now) olds news (between-epochs (sources_to q c.args.now) 0 olds news c.take_all_on.ensures.way) q c.args.order.now c.select_from.result selects

-- no view has the core, so the views of FROM are those that the query names
pub returns-clause-ok : goal.returns-clause-ok
returns-clause-ok c =
    let olds = views_of c.args.views.now.items in
    let news = views_of c.take_all_on.new.views.items in
    on_ok_always c.select_from.result
    (subst (λ (to : ℕ → ViewOf → ℕ). news ≡ taken_on to 0 olds) (named-sources olds c.args.query.now c.args.now c.requires.none) c.in_ok-take_all_on.ensures.ok)

pub returns-in_err-take_all_on-clause-way : goal.returns-in_err-take_all_on-clause-way
returns-in_err-take_all_on-clause-way c =
    let olds = views_of c.args.views.now.items in
    let news = views_of c.take_all_on.new.views.items in
    subst (λ (to : ℕ → ViewOf → ℕ). AreBetween to 0 olds news) (named-sources olds c.args.query.now c.args.now c.requires.none) c.take_all_on.ensures.way

pub returns-clause-way : goal.returns-clause-way
returns-clause-way c =
    let olds = views_of c.args.views.now.items in
    let news = views_of c.take_all_on.new.views.items in
    subst (λ (to : ℕ → ViewOf → ℕ). AreBetween to 0 olds news) (named-sources olds c.args.query.now c.args.now c.requires.none) c.take_all_on.ensures.way

pub returns-in_err-take_all_on-clause-counts : goal.returns-in_err-take_all_on-clause-counts
returns-in_err-take_all_on-clause-counts c =
    let p = err_from_is_err_and c.from_residual.result c.from_residual.ensures.1 in
    let olds = c.args.views.now.items in
    let news = c.take_all_on.new.views.items in
    rw (p.1, p.2)
    (inr (refl, subst (λ (to : ℕ → ViewOf → ℕ). AllMayBegin to c.args.queue.now olds news) (named-sources (views_of olds) c.args.query.now c.args.now c.requires.none) c.take_all_on.ensures.begun))

pub returns-clause-counts : goal.returns-clause-counts
returns-clause-counts c =
    counted-anyway c.args.query.now c.args.now c.args.queue.now c.args.views.now c.take_all_on.new.views c.select_from.result c.in_ok-take_all_on.ensures.counts
