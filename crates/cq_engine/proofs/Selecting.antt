-- SELECT from views that were taken on to the present: nothing but their epochs has changed.
use Rattle.std.proofs.Common.{◌≡◌, ◌∙◌, ◌⊎◌, ◌+◌, ℕ, zero, suc, Bool, true, List, [], ◌∷◌, ◌++◌, length, map, Option, Some, None, Result, Ok, Err, refl, sym, ap, subst, arith, eq-eqb}
use Rattle.std.specs.Prelude.{◌==◌, if◌then◌else◌, option_map, slice_get}
use Rattle.std.specs.List.{AllByRecursion, flat_map, list_any}
use Rattle.std.proofs.lemmas.List.{length-map}
use Rattle.std.proofs.lemmas.Option.{same_Some, slice_get-map}
use Rattle.cq_values.specs.Value.{Row}
use Rattle.cq_binder_queries.specs.Catalog.{alone}
use Rattle.cq_binder_rules.specs.declared.fault.Fault.{Fault}
use Rattle.cq_binder_rules.specs.declared.fault.Fault.TheVariants.{Memory, SumOutOfRange}
use Rattle.cq_model_bags.proofs.Totals.{by_test}
use Rattle.cq_model.specs.Meaning.{meaning}
use Rattle.cq_model.specs.Views.{AnswerInRange, is_view, sources_of, with_views}
use Rattle.cq_model.specs.declared.query.Order.{Order}
use Rattle.cq_model.specs.declared.query.Query.{Query}
use Rattle.cq_model.specs.declared.query.Source.{Source}
use Rattle.cq_model.specs.declared.query.Source.TheVariants.{Table, View}
use Rattle.cq_model_state.specs.State.{State, TableOf, ViewOf, tables_now}
use Rattle.cq_model_step.proofs.Alike.{timeless}
use Rattle.cq_model_step.proofs.SameAnswers.{queries_timeless}
use Rattle.cq_model_step.specs.Next.{at_epoch, taken_on}
use Rattle.cq_model_step.specs.Step.{AreBetween}
use Rattle.cq_views.specs.Laws.{StandingDependsOnSources}
use Rattle.cq_engine_answers.specs.Narrow.{IsConditionSized, IsShapeSized, joined_sizes, source_sizes, view_sizes}
use Rattle.cq_engine_answers.specs.Reading.{CanRead, IsReadable, IsSourceThere}
use Rattle.cq_engine_answers.specs.Selects.{AreListed, Selects}
use Rattle.cq_engine_queue.proofs.Later.{present-right}
use Rattle.cq_engine_tables.specs.Views.{AreRight, IsPresent, IsRight, NamedView, view_of, views_of}
use Rattle.cq_engine_queue.specs.Goal.{sources_to}

-- ---- Views that differ in their epochs alone
abbrev SameButEpochs : List ViewOf → List ViewOf → Type 0
SameButEpochs vs ws = map timeless vs ≡ map timeless ws

pub between-epochs : (to : ℕ → ViewOf → ℕ) (place : ℕ) (vs ws : List ViewOf) → AreBetween to place vs ws → SameButEpochs vs ws
between-epochs to place [] [] h = refl
between-epochs to place [] (w ∷ ws) h = absurd h
between-epochs to place (v ∷ vs) [] h = absurd h
between-epochs to place (v ∷ vs) (w ∷ ws) h = λ i. timeless (sym h.0.3 i) ∷ between-epochs to (place + 1) vs ws h.1 i

sizes-timeless : (o : Option ViewOf) → view_sizes (option_map timeless o) ≡ view_sizes o
sizes-timeless None = refl
sizes-timeless (Some v) = refl

source-timeless : (tables : List TableOf) (vs : List ViewOf) (s : Source) → source_sizes tables (map timeless vs) s ≡ source_sizes tables vs s
source-timeless tables vs (Table n) = refl
source-timeless tables vs (View place) = ap view_sizes (slice_get-map timeless vs place) ∙ sizes-timeless (slice_get vs place)

joined-timeless : (tables : List TableOf) (vs : List ViewOf) (q : Query) → joined_sizes tables (map timeless vs) q ≡ joined_sizes tables vs q
joined-timeless tables vs q = flat (sources_of q)
  where
    flat : (sources : List Source) → flat_map (source_sizes tables (map timeless vs)) sources ≡ flat_map (source_sizes tables vs) sources
    flat [] = refl
    flat (s ∷ sources) = λ i. source-timeless tables vs s i ++ flat sources i

-- what SELECT answers where views have these queries
abbrev SelectsBy : List TableOf → Query → Order → (ℕ → Option Query) → Result (List Row) Fault → Type 0
SelectsBy tables q order f (Ok rows) = AreListed order (meaning q (with_views (tables_now (alone tables [])) f)) rows × AnswerInRange (tables_now (alone tables [])) f q
SelectsBy tables q order f (Err g) = (g ≡ Memory) ⊎ ((g ≡ SumOutOfRange) × (AnswerInRange (tables_now (alone tables [])) f q → ⊥))

module _ (tables : List TableOf) (vs ws : List ViewOf) (same : SameButEpochs vs ws) where
  there-epochs : (s : Source) → IsSourceThere tables vs s → IsSourceThere tables ws s
  there-epochs (Table n) at = at
  there-epochs (View place) at = omega (arith, at, length-map vs timeless, length-map ws timeless, ap length same)

  all-there : (sources : List Source) → AllByRecursion (IsSourceThere tables vs) sources → AllByRecursion (IsSourceThere tables ws) sources
  all-there [] all = tt
  all-there (s ∷ sources) all = (there-epochs s all.0, all-there sources all.1)

  joined-epochs : (q : Query) → joined_sizes tables vs q ≡ joined_sizes tables ws q
  joined-epochs q = sym (joined-timeless tables vs q) ∙ ap (λ (us : List ViewOf). joined_sizes tables us q) same ∙ joined-timeless tables ws q

  -- a query that can be read from the ones can be read from the others
  pub read-epochs : (q : Query) → CanRead tables vs q → CanRead tables ws q
  read-epochs q can = record {
    there = all-there (sources_of q) can.there;
    filter = subst (λ ns. IsConditionSized ns q.filter) (joined-epochs q) can.filter;
    shown = subst (λ ns. IsShapeSized ns q.shape q.items) (joined-epochs q) can.shown;
  }

  queries-epochs : map (λ v. v.query) vs ≡ map (λ v. v.query) ws
  queries-epochs = sym (queries_timeless vs) ∙ ap (λ (us : List ViewOf). map (λ v. v.query) us) same ∙ queries_timeless ws

  -- and has one answer
  pub selects-epochs : (q : Query) (order : Order) (result : Result (List Row) Fault) → Selects tables ws q order result → Selects tables vs q order result
  selects-epochs q order (Ok rows) selects = subst (λ (f : ℕ → Option Query). SelectsBy tables q order f (Ok rows)) (λ i place. slice_get (sym queries-epochs i) place) selects
  selects-epochs q order (Err g) selects = subst (λ (f : ℕ → Option Query). SelectsBy tables q order f (Err g)) (λ i place. slice_get (sym queries-epochs i) place) selects

-- ---- Views that are at the present
-- where a view is that was taken on
taken-at : (to : ℕ → ViewOf → ℕ) (place : ℕ) (vs : List ViewOf) (i : ℕ) (w : ViewOf) → slice_get (taken_on to place vs) i ≡ Some w → (v : ViewOf) × (w.epoch ≡ to (place + i) v)
taken-at to place [] i w at = absurd (cc at)
taken-at to place (v ∷ vs) zero w at =
    let is : at_epoch (to place v) v ≡ w = same_Some (at_epoch (to place v) v) w at in
    let here : place ≡ place + 0 = omega arith in
    (v, ap (λ (u : ViewOf). u.epoch) (sym is) ∙ ap (λ (p : ℕ). to p v) here)
taken-at to place (v ∷ vs) (suc i) w at =
    let rest = taken-at to (place + 1) vs i w at in
    let next : place + 1 + i ≡ place + suc i = omega arith in
    (rest.0, rest.1 ∙ ap (λ (p : ℕ). to p rest.0) next)

pub right-at : (s : State) (vs : List NamedView) (place : ℕ) (v : NamedView) → AreRight s vs → slice_get vs place ≡ Some v → IsRight s v
right-at s [] place v right at = absurd (cc at)
right-at s (w ∷ ws) zero v right at = subst (IsRight s) (same_Some w v at) right.0
right-at s (w ∷ ws) (suc place) v right at = right-at s ws place v right.1 at

module _ (law : StandingDependsOnSources) (s : State) (whole : s.passed + length s.queue ≡ s.now) (q : Query) (now : ℕ) (is_now : s.now ≡ now) (olds : List ViewOf) (vs : List NamedView) (right : AreRight s vs) (taken : views_of vs ≡ taken_on (sources_to q now) 0 olds) where
  view-present : (place : ℕ) → list_any (is_view place) (sources_of q) ≡ true → (v : NamedView) → slice_get vs place ≡ Some v → IsPresent s.tables v
  view-present place named v at =
      let there : slice_get (taken_on (sources_to q now) 0 olds) place ≡ Some (view_of v) =
      ap (λ (us : List ViewOf). slice_get us place) (sym taken) ∙ slice_get-map view_of vs place ∙ ap (option_map view_of) at in
      let on = taken-at (sources_to q now) 0 olds place (view_of v) there in
      let here : 0 + place ≡ place = omega arith in
      let epoch : v.kept.state.epoch ≡ now = on.1 ∙ ap (λ (p : ℕ). sources_to q now p on.0) here ∙ ap (λ (b : Bool). if b then now else on.0.epoch) named in
      present-right law s whole v (right-at s vs place v right at) (epoch ∙ sym is_now)

  all-readable : (sources : List Source) → ((place : ℕ) → list_any (is_view place) sources ≡ true → (v : NamedView) → slice_get vs place ≡ Some v → IsPresent s.tables v) → AllByRecursion (IsReadable s.tables vs) sources
  all-readable [] each = tt
  all-readable (Table n ∷ sources) each = (tt, all-readable sources (λ place named. each place named))
  all-readable (View p ∷ sources) each = (
    each p (rw (eq-eqb p p refl) refl),
    all-readable sources (λ place named. each place (by_test (p == place) (λ k. rw k refl) (λ k. rw k named))),
  )

  -- all that the query names
  pub are-readable : AllByRecursion (IsReadable s.tables vs) (sources_of q)
  are-readable = all-readable (sources_of q) view-present
