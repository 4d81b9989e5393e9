-- What a view counts for changes is within the work of its query's joins.
use Rattle.std.proofs.Common.{◌≡◌, ◌∙◌, ℕ, zero, suc, ◌+◌, ◌≤◌, List, [], ◌∷◌, ◌++◌, length, refl, ap, subst, arith}
use Rattle.std.proofs.lemmas.List.{append-nil, nil_from_length}
use Rattle.cq_model_bags.proofs.Distincts.{distinct-respects}
use Rattle.cq_model_bags.proofs.Sizes.{size-clean}
use Rattle.cq_model_bags.proofs.Totals.{by_test}
use Rattle.cq_model_bags.specs.Bag.{SameBag, Weighted}
use Rattle.cq_deltas_joins.proofs.Counting.{counts_within-work}
use Rattle.cq_deltas_joins.specs.Chains.{IsChange, first_rows, joins_of}
use Rattle.cq_deltas_joins.specs.Steps.{change_at, hands_on}
use Rattle.cq_deltas_joins.specs.Work.{CountsPairs, pairs_along, work_along, work_at}
use Rattle.cq_deltas_joins.specs.declared.step.Step.{Step}
use Rattle.cq_views_model.specs.Delta.{chain_work, changed, joins_work}
use Rattle.cq_model_laws.proofs.Meanings.{shown-respects}
use Rattle.cq_model.specs.Meaning.{Tables, joined_rows, keeps, meaning, shown}
use Rattle.cq_views_state.proofs.Filtering.{work-less}
use Rattle.cq_views_state.proofs.Standing.{kept-change}
use Rattle.cq_views_state.specs.Last.{kept_rows}
use Rattle.cq_views_state.specs.Laws.{CountsWithinWork, RisesWhereChanged}
use Rattle.cq_views_state.specs.State.{AreAsTold, StandsFor}
use Rattle.cq_views_state.specs.Work.{CountsPut, work_of}
use Rattle.cq_views_state.specs.declared.state.Pending.{Pending}
use Rattle.cq_views_state.specs.declared.state.ViewState.{ViewState}

-- the steps do no more work than the query's joins
chain-within : (tables changes : Tables) (v : ViewState) → StandsFor v tables → AreAsTold v tables changes → work_at tables changes v.chain ≤ joins_work v.query tables changes
chain-within tables changes v stands wide =
    let is = stands.is_of in
    let c = v.chain in
    let less = work-less wide.width tables changes wide.rows wide.more (wide.width c.first) (keeps c.condition) (tables c.first) (changes c.first)
    (wide.rows c.first) (wide.more c.first) c.steps.items in
    let whole : chain_work tables changes (tables c.first) (changes c.first) (joins_of c.steps.items) ≡ joins_work v.query tables changes =
    λ i. chain_work tables changes (tables (is.first i)) (changes (is.first i)) (is.joins i) in
    omega (arith, less, whole)

pub counts-within_work : CountsWithinWork
counts-within_work tables changes old ready new pending stands wide same pairs rows_count waits put =
    let c = old.chain in
    let rows = rows_count.rows in
    omega (
      arith,
      chain-within tables changes old stands wide,
      counts_within-work tables changes rows c ready.chain new.chain pending.waiting.joins.items stands.sides rows_count.added same.sides pairs waits.sides put.entries,
      size-clean rows rows_count.once,
      rows_count.counts,
      put.ticks,
    )

-- ---- changes that were not put in
-- nothing is put into a view that stays as it is
pub put-nothing : (v : ViewState) (pending : Pending) → CountsPut v pending v
put-nothing v pending = record { entries = λ tables changes xs dxs stand wait. omega arith; more = omega arith; ticks = refl }

-- the pairs are within the work
pairs-within : (tables changes : Tables) (xs dxs : Weighted) (steps : List Step) → pairs_along tables changes xs dxs steps ≤ work_along tables changes xs dxs steps
pairs-within tables changes xs dxs [] = omega arith
pairs-within tables changes xs dxs (s ∷ steps) =
    let rows = tables s.source in
    omega (arith, pairs-within tables changes (hands_on s xs rows) (change_at s xs dxs rows (changes s.source)) steps)

-- where memory was short, only pairs were counted
pub pairs-within_work : (tables changes : Tables) (old new : ViewState) → StandsFor old tables → AreAsTold old tables changes → CountsPairs old.chain changes new.chain → new.ticks ≡ old.ticks
    → work_of new ≤ work_of old + joins_work old.query tables changes
pairs-within_work tables changes old new stands wide pairs ticks =
    let c = old.chain in
    let xs = first_rows c tables in
    omega (
      arith,
      pairs.most tables xs stands.sides,
      pairs-within tables changes xs (first_rows c changes) c.steps.items,
      chain-within tables changes old stands wide,
      ticks,
    )

-- where no row came behind the joins, the query has the bag that it had
same-meaning : (tables changes : Tables) (old : ViewState) (rows : Weighted) → StandsFor old tables → AreAsTold old tables changes → IsChange old.chain changes rows → length rows ≡ 0
    → SameBag (meaning old.query (changed tables changes)) (meaning old.query tables)
same-meaning tables changes old rows stands wide added none =
    let q = old.query in
    let empty : rows ≡ [] = nil_from_length rows none in
    let kept : kept_rows q rows ≡ [] = ap (kept_rows q) empty in
    let same : SameBag (joined_rows q (changed tables changes)) (joined_rows q tables) =
    subst (λ (xs : Weighted). SameBag (joined_rows q (changed tables changes)) xs) (ap (λ (xs : Weighted). joined_rows q tables ++ xs) kept ∙ append-nil (joined_rows q tables))
    (kept-change old changes rows added tables stands wide) in
    let shows = shown-respects q (joined_rows q (changed tables changes)) (joined_rows q tables) same in
    by_test q.distinct
    (λ d. rw d (distinct-respects (shown q (joined_rows q (changed tables changes))) (shown q (joined_rows q tables)) shows))
    (λ d. rw d shows)

pub rises-where_changed : RisesWhereChanged
rises-where_changed tables changes old ready new pending stands wide pairs rows_count put differs =
    let rows = rows_count.rows in
    let some : 1 ≤ length rows = not_none (length rows) (λ none. differs (same-meaning tables changes old rows stands wide rows_count.added none)) in
    omega (arith, some, rows_count.counts, put.ticks, put.more, pairs.more tables (first_rows old.chain tables) stands.sides)
  where
    not_none : (n : ℕ) → (n ≡ 0 → ⊥) → 1 ≤ n
    not_none zero f = absurd (f refl)
    not_none (suc n) f = omega arith
