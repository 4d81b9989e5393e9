-- Views that are taken on from one epoch to the next.
use Rattle.std.proofs.Common.{◌≡◌, ◌∙◌, ◌+◌, ◌-◌, ◌<◌, ◌≤◌, ◌==◌, ℕ, zero, suc, ◌+ℤ◌, true, false, List, [], ◌∷◌, ◌++◌, get_or, length, map, take, drop, Option, Some, None, refl, sym, ap, subst, arith}
use Rattle.std.specs.List.{AllByRecursion, AllZip, list_any}
use Rattle.std.specs.Prelude.{slice_get}
use Rattle.std.proofs.lemmas.Bool.{eqb-true}
use Rattle.std.proofs.lemmas.Int.{ints}
use Rattle.std.proofs.lemmas.List.{append-nil}
use Rattle.std.proofs.lemmas.Option.{slice_get_read}
use Rattle.cq_values.specs.Value.{Row}
use Rattle.cq_model_bags.specs.Bag.{IsBag, SameBag, Weighted, difference, negative, once_each, weight_of}
use Rattle.cq_model_bags.specs.Join.{HasWidth}
use Rattle.cq_model_bags.proofs.Bags.{same-append, same-equal, same-refl, same-sym, same-trans}
use Rattle.cq_model_bags.proofs.Lists.{all-at}
use Rattle.cq_model_bags.proofs.Positives.{bag-same}
use Rattle.cq_model_bags.proofs.Totals.{by_test, weight_of-append, weight_of-negative}
use Rattle.cq_model_bags.proofs.Widths.{append-width}
use Rattle.cq_model_laws.proofs.Positives.{once_each-bag}
use Rattle.cq_model.specs.Meaning.{Tables}
use Rattle.cq_model.specs.Sizes.{IsStored}
use Rattle.cq_model.specs.Views.{is_table, sources_of, tables_alone}
use Rattle.cq_model.specs.declared.query.Query.{Query}
use Rattle.cq_model.specs.declared.query.Source.{Source}
use Rattle.cq_model.specs.declared.query.Source.TheVariants.{Table, View}
use Rattle.cq_model_state.specs.Fitting.{rows_limit}
use Rattle.cq_model_state.specs.State.{IsThere, ChangeOf, State, above, change_of, tables_at}
use Rattle.cq_model_step_laws.proofs.Pasts.{at-next}
use Rattle.cq_sides_weights.specs.Held.{sizes}
use Rattle.cq_deltas_joins.specs.Steps.{AreStored}
use Rattle.cq_views.proofs.Taking.{sizes-once_each}
use Rattle.cq_model_laws.proofs.Chains.{SameSources}
use Rattle.cq_views.specs.Laws.{StandingDependsOnSources, WorkDependsOnSources}
use Rattle.cq_views.specs.State.{StandsFor}
use Rattle.cq_views_model.specs.Delta.{changed, joins_work}
use Rattle.cq_views_state.specs.Work.{work_of}
use Rattle.cq_views_state.specs.State.{AreBags}
use Rattle.cq_engine_tables.proofs.Bags.{stored-once_each}
use Rattle.cq_engine_tables.proofs.Wide.{all-widths, columns-wide, once-wide, there-wide, wide-there, width_of}
use Rattle.cq_engine_tables.specs.Taking.{IsSame}
use Rattle.cq_engine_tables.specs.Views.{AreWide, Fits, IsRight, IsWide, NamedView, width_at}
use Rattle.cq_engine_queue.specs.Queued.{Queued}
use Rattle.cq_engine_queue.specs.Taking.{AreBagsFor, AreHeld, CanCount, CanTakeIn, StaysWithin, TakesChange, changes_by}
use Rattle.cq_engine_queue.specs.Counts.{CountsFor, HasBegun, HasCounted, bags_at, changes_at}
use Rattle.cq_engine_queue.proofs.Counting.{counts-more, counts-same}
use Rattle.cq_engine_queue.specs.History.{IsHistory, IsQueueOf, IsSmall, IsTakenOn}

-- ---- The tables at an epoch, as far as they are there
module _ (s : State) (history : IsHistory s) (epoch : ℕ) (low : s.passed ≤ epoch) (high : epoch ≤ s.now) where
  -- the rows of the table of a number, and none of one that is not there
  abbrev pub few_rows : (n : ℕ) (wide : Option ℕ) → width_at s.tables n ≡ wide → List Row
  few_rows n (Some wide) is = (history.held epoch n wide low high is).rows
  few_rows n None is = []

  abbrev pub rows_held : ℕ → List Row
  rows_held n = few_rows n (width_at s.tables n) refl

  abbrev pub held : Tables
  held (Table n) = once_each (rows_held n)
  held (View place) = []

  -- what such rows have
  each_has : (P : List Row → Type 0) → P [] → ((n wide : ℕ) (is : width_at s.tables n ≡ Some wide) → P (history.held epoch n wide low high is).rows)
      → (n : ℕ) (wide : Option ℕ) (is : width_at s.tables n ≡ wide) → P (few_rows n wide is)
  each_has P none each n (Some wide) is = each n wide is
  each_has P none each n None is = none

  few_once : (rows : List Row) → length rows ≤ rows_limit → sizes (once_each rows) ≤ rows_limit
  few_once rows few = omega (arith, sizes-once_each rows, few)

  held_stored : (source : Source) → AreStored (held source)
  held_stored (Table n) = stored-once_each _ (each_has (λ rows. AllByRecursion IsStored rows) tt (λ m wide is. (history.held epoch m wide low high is).stored) n (width_at s.tables n) refl)
  held_stored (View place) = tt

  held_few : (source : Source) → sizes (held source) ≤ rows_limit
  held_few (Table n) = few_once _ (each_has (λ rows. length rows ≤ rows_limit) (omega arith) (λ m wide is. (history.held epoch m wide low high is).few) n (width_at s.tables n) refl)
  held_few (View place) = omega arith

  pub held_bags : AreBags held
  held_bags (Table n) = once_each-bag _
  held_bags (View place) = once_each-bag []

  pub are_held : AreHeld held
  are_held = record { stored = held_stored; few = held_few; bags = held_bags }

  -- they have the columns of their table
  rows_wide : (n : ℕ) (wide : Option ℕ) (is : width_at s.tables n ≡ wide) → HasWidth (width_of s.tables (Table n)) (once_each (few_rows n wide is))
  rows_wide n (Some wide) is = once-wide (width_of s.tables (Table n)) _
      (subst (λ (k : ℕ). AllByRecursion (λ r. length r ≡ k) (few_rows n (Some wide) is)) (sym (columns-wide s.tables s.tables n wide is)) (history.held epoch n wide low high is).widths)
  rows_wide n None is = tt

  pub held_wide : (source : Source) → HasWidth (width_of s.tables source) (held source)
  held_wide (Table n) = rows_wide n (width_at s.tables n) refl
  held_wide (View place) = tt

  -- a table that is there has the bag of these
  same_of : (n : ℕ) (wide : Option ℕ) (is : width_at s.tables n ≡ wide) → IsThere n s.tables → SameBag (once_each (few_rows n wide is)) (tables_at s epoch n)
  same_of n (Some wide) is at = (history.held epoch n wide low high is).are
  same_of n None is at = absurd (there-wide s.tables n at is)

  pub held_same : (n : ℕ) → IsThere n s.tables → SameBag (held (Table n)) (tables_at s epoch n)
  held_same n at = same_of n (width_at s.tables n) refl at

-- ---- The sources of a query that knows how wide its tables are
-- what holds of each table that is there holds of them
pub sources-there : (s : State) (P : Source → Type 0) → ((n : ℕ) → IsThere n s.tables → P (Table n)) → (sources : List Source) (widths : List ℕ) → AllZip (IsWide s.tables) sources widths → AllByRecursion P sources
sources-there s P each [] widths wide = tt
sources-there s P each (x ∷ sources) [] wide = absurd wide
sources-there s P each (Table n ∷ sources) (w ∷ widths) wide = (each n (wide-there s.tables n w wide.0), sources-there s P each sources widths wide.1)
sources-there s P each (View place ∷ sources) (w ∷ widths) wide = absurd wide.0

-- a table that is read is there
pub read-there : (s : State) (n : ℕ) (sources : List Source) (widths : List ℕ) → AllZip (IsWide s.tables) sources widths → list_any (is_table n) sources ≡ true → IsThere n s.tables
read-there s n [] widths wide is = absurd (cc is)
read-there s n (x ∷ sources) [] wide is = absurd wide
read-there s n (Table m ∷ sources) (w ∷ widths) wide is = by_test (m == n)
    (λ k. subst (λ (i : ℕ). IsThere i s.tables) (eqb-true m n k) (wide-there s.tables m w wide.0))
    (λ k. read-there s n sources widths wide.1 (rw k at is))
read-there s n (View place ∷ sources) (w ∷ widths) wide is = absurd wide.0

-- ---- Differences of bags
-- what leads from one bag to another is their difference
taken_off : (ns os cs : Weighted) → SameBag ns (os ++ cs) → SameBag cs (difference ns os)
taken_off ns os cs led = record {
  at = λ r.
      let made = weight_of-append ns (negative os) r ∙ ap (λ w. weight_of ns r +ℤ w) (weight_of-negative os r) in
      omega (arith, ints, led.at r, weight_of-append os cs r, made);
}

-- which put in gives it back
put_back : (ns os : Weighted) → SameBag (os ++ difference ns os) ns
put_back ns os = record {
  at = λ r.
      let made = weight_of-append ns (negative os) r ∙ ap (λ w. weight_of ns r +ℤ w) (weight_of-negative os r) in
      omega (arith, ints, weight_of-append os (difference ns os) r, made);
}

negative-wide : (n : ℕ) (xs : Weighted) → HasWidth n xs → HasWidth n (negative xs)
negative-wide n [] wide = tt
negative-wide n (x ∷ xs) wide = (wide.0, negative-wide n xs wide.1)

-- the first of those from a place on
take-at : (cs : List ChangeOf) (i : ℕ) (c : ChangeOf) → slice_get cs i ≡ Some c → take 1 (drop i cs) ≡ c ∷ []
take-at [] i c h = absurd (cc)
take-at (b ∷ cs) zero c h = let e : b ≡ c = cc in rw e refl
take-at (b ∷ cs) (suc i) c h = take-at cs i c h

-- ---- One change
-- what it does to a table is what it did to the one of its number
own-change : (c : ChangeOf) (n : ℕ) → changes_by c (Table n) ≡ change_of (c ∷ []) n
own-change c n = by_test (c.table == n) (λ k. rw k (sym (append-nil c.rows))) (λ k. rw k refl)

module _ (law : StandingDependsOnSources) (q : Queued) (s : State) (of : IsQueueOf s q) (history : IsHistory s) (v : NamedView) (right : IsRight s v)
    (more : v.kept.state.epoch < q.passed + length q.changes) (c : ChangeOf) (is : c ≡ get_or q.changes (v.kept.state.epoch - q.passed) c) where
  abbrev epoch : ℕ
  epoch = v.kept.state.epoch

  whole : s.passed + length s.queue ≡ s.now
  whole = history.sound.whole

  pub before : epoch < s.now
  before = omega (arith, more, of.passed, ap length of.changes, whole)

  within : epoch - s.passed < length s.queue
  within = omega (arith, right.time.kept, before, whole)

  taken : c ≡ get_or s.queue (epoch - s.passed) c
  taken = is ∙ (λ i. get_or (of.changes i) (epoch - of.passed i) c)

  step : (n : ℕ) → SameBag (tables_at s (epoch + 1) n) (tables_at s epoch n ++ change_of (c ∷ []) n)
  step = at-next s epoch c right.time.kept (slice_get_read s.queue (length s.queue) (epoch - s.passed) c refl within taken)

  abbrev old : Tables
  old = held s history epoch right.time.kept right.time.reached

  abbrev new : Tables
  new = tables_alone (tables_at s (epoch + 1))

  old-same : (n : ℕ) → IsThere n s.tables → SameBag (tables_at s epoch n) (old (Table n))
  old-same n at = same-sym (old (Table n)) (tables_at s epoch n) (held_same s history epoch right.time.kept right.time.reached n at)

  stands_old : StandsFor v.kept old
  stands_old = law v.kept (tables_alone (tables_at s epoch)) old (sources-there s (λ x. SameBag (tables_alone (tables_at s epoch) x) (old x)) old-same (sources_of v.kept.query) v.kept.widths right.wide) right.stands

  small : IsSmall c
  small = subst IsSmall (sym taken) (all-at IsSmall s.queue (epoch - s.passed) c within history.small)

  -- the change leads each table that is there to the next epoch
  next-same : (n : ℕ) → IsThere n s.tables → SameBag (changed old (changes_by c) (Table n)) (new (Table n))
  next-same n at =
      let own : SameBag (changes_by c (Table n)) (change_of (c ∷ []) n) = subst (λ (xs : Weighted). SameBag (changes_by c (Table n)) xs) (own-change c n) (same-refl (changes_by c (Table n))) in
      same-trans (changed old (changes_by c) (Table n)) (tables_at s epoch n ++ change_of (c ∷ []) n) (new (Table n))
      (same-append (old (Table n)) (tables_at s epoch n) (changes_by c (Table n)) (change_of (c ∷ []) n) (held_same s history epoch right.time.kept right.time.reached n at) own)
      (same-sym (new (Table n)) (tables_at s epoch n ++ change_of (c ∷ []) n) (step n))

  -- which its rows there are the bag of
  abbrev next : Tables
  next = held s history (epoch + 1) (omega (arith, right.time.kept)) (omega (arith, before))

  next-held : (n : ℕ) → IsThere n s.tables → SameBag (next (Table n)) (changed old (changes_by c) (Table n))
  next-held n at =
      same-trans (next (Table n)) (new (Table n)) (changed old (changes_by c) (Table n))
      (held_same s history (epoch + 1) (omega (arith, right.time.kept)) (omega (arith, before)) n at)
      (same-sym (changed old (changes_by c) (Table n)) (new (Table n)) (next-same n at))

  -- the view can take it in
  pub can-take : CanTakeIn v c
  can-take = record {
    fits = right.fits;
    tables = old;
    stands = stands_old;
    held = are_held s history epoch right.time.kept right.time.reached;
    stored = small.stored;
    few = small.few;
    behind = next;
    same = sources-there s (λ x. SameBag (next x) (changed old (changes_by c) x)) next-held (sources_of v.kept.query) v.kept.widths right.wide;
    few_behind = (are_held s history (epoch + 1) (omega (arith, right.time.kept)) (omega (arith, before))).few;
    epoch = omega (arith, before, history.range);
  }

  bags-next : AreBagsFor v old c
  bags-next reading (Table n) = by_test (c.table == n) on off
    where
      on : (c.table == n) ≡ true → IsBag (changed old (changes_by c) (Table n))
      on k =
          let at : IsThere n s.tables = subst (λ (i : ℕ). IsThere i s.tables) (eqb-true c.table n k) (read-there s c.table (sources_of v.kept.query) v.kept.widths right.wide reading) in
          bag-same (changed old (changes_by c) (Table n)) (new (Table n)) (next-same n at) (history.sound.bags (epoch + 1) n (omega (arith, right.time.kept)) (omega (arith, before)) at)

      off : (c.table == n) ≡ false → IsBag (changed old (changes_by c) (Table n))
      off k = rw (k, append-nil (old (Table n))) (held_bags s history epoch right.time.kept right.time.reached (Table n))
  bags-next reading (View place) = once_each-bag []

  -- ---- What the change did, as rows that are there
  abbrev moved : Tables
  moved = changes_by (record { table = c.table; rows = difference (next (Table c.table)) (old (Table c.table)) })

  -- it leads each table that is there to its rows at the next epoch
  own : (n : ℕ) → IsThere n s.tables → SameBag (changes_by c (Table n)) (moved (Table n))
  own n at = by_test (c.table == n)
      (λ k.
      let is : c.table ≡ n = eqb-true c.table n k in
      let made : SameBag (changes_by c (Table n)) (difference (next (Table n)) (old (Table n))) = taken_off (next (Table n)) (old (Table n)) (changes_by c (Table n)) (next-held n at) in
      subst (λ (xs : Weighted). SameBag (changes_by c (Table n)) xs) (sym (moved-own n k)) made)
      (λ k. rw k (same-refl []))
    where
      moved-own : (m : ℕ) → (c.table == m) ≡ true → moved (Table m) ≡ difference (next (Table m)) (old (Table m))
      moved-own m k = rw k (ap (λ (i : ℕ). difference (next (Table i)) (old (Table i))) (eqb-true c.table m k))

  moved_wide : (source : Source) → HasWidth (width_of s.tables source) (moved source)
  moved_wide (Table n) = by_test (c.table == n)
      (λ k. rw k (subst (λ (m : ℕ). HasWidth (width_of s.tables (Table m)) (difference (next (Table c.table)) (old (Table c.table)))) (eqb-true c.table n k)
      (append-width (width_of s.tables (Table c.table)) (next (Table c.table)) (negative (old (Table c.table)))
      (held_wide s history (epoch + 1) (omega (arith, right.time.kept)) (omega (arith, before)) (Table c.table))
      (negative-wide (width_of s.tables (Table c.table)) (old (Table c.table)) (held_wide s history epoch right.time.kept right.time.reached (Table c.table))))))
      (λ k. rw k tt)
  moved_wide (View place) = tt

  moved_bags : AreBags (changed old moved)
  moved_bags (Table n) = by_test (c.table == n)
      (λ k. rw k (subst (λ (m : ℕ). IsBag (old (Table m) ++ difference (next (Table c.table)) (old (Table c.table)))) (eqb-true c.table n k)
      (bag-same (old (Table c.table) ++ difference (next (Table c.table)) (old (Table c.table))) (next (Table c.table)) (put_back (next (Table c.table)) (old (Table c.table)))
      (held_bags s history (epoch + 1) (omega (arith, right.time.kept)) (omega (arith, before)) (Table c.table)))))
      (λ k. rw (k, append-nil (old (Table n))) (held_bags s history epoch right.time.kept right.time.reached (Table n)))
  moved_bags (View place) = once_each-bag []

  told : map (width_of s.tables) (sources_of v.kept.query) ≡ v.kept.widths
  told = all-widths s.tables (sources_of v.kept.query) v.kept.widths right.wide

  pub can-count : CanCount c v old moved
  can-count = record {
    suits = record {
      stands = stands_old;
      columns = record { width = width_of s.tables; from = told; rows = held_wide s history epoch right.time.kept right.time.reached; bags = held_bags s history epoch right.time.kept right.time.reached };
    };
    behind = record {
      width = width_of s.tables;
      from = told;
      rows = λ x. append-width (width_of s.tables x) (old x) (moved x) (held_wide s history epoch right.time.kept right.time.reached x) (moved_wide x);
      bags = moved_bags;
    };
    told = record { width = width_of s.tables; told = told; rows = held_wide s history epoch right.time.kept right.time.reached; more = moved_wide };
    same = sources-there s (λ x. SameBag (changes_by c x) (moved x)) own (sources_of v.kept.query) v.kept.widths right.wide;
  }

  pub same-tables : SameSources old (bags_at s epoch) (sources_of v.kept.query)
  same-tables = sources-there s (λ x. SameBag (old x) (bags_at s epoch x)) (held_same s history epoch right.time.kept right.time.reached) (sources_of v.kept.query) v.kept.widths right.wide

  pub same-changes : SameSources moved (changes_at s epoch) (sources_of v.kept.query)
  same-changes = sources-there s (λ x. SameBag (moved x) (changes_at s epoch x)) to_told (sources_of v.kept.query) v.kept.widths right.wide
    where
      only_one : take 1 (above s epoch) ≡ c ∷ []
      only_one = take-at s.queue (epoch - s.passed) c (slice_get_read s.queue (length s.queue) (epoch - s.passed) c refl within taken)

      to_told : (n : ℕ) → IsThere n s.tables → SameBag (moved (Table n)) (changes_at s epoch (Table n))
      to_told n at = same-trans (moved (Table n)) (changes_by c (Table n)) (changes_at s epoch (Table n)) (same-sym (changes_by c (Table n)) (moved (Table n)) (own n at))
          (same-equal (changes_by c (Table n)) (changes_at s epoch (Table n)) (own-change c n ∙ ap (λ (cs : List ChangeOf). change_of cs n) (sym only_one)))

  -- the view counts for it
  module _ (work : WorkDependsOnSources) (w : NamedView) where
    pub counts-next : TakesChange c v w → CountsFor v.kept.query (bags_at s epoch) (changes_at s epoch) (work_of v.kept.state) (work_of w.kept.state)
    counts-next takes = counts-same work v.kept.query old (bags_at s epoch) moved (changes_at s epoch) (work_of v.kept.state) (work_of w.kept.state) same-tables same-changes (takes.counts old moved can-count)

    -- also where memory was wanting for it
    pub within-next : StaysWithin c v w → work_of w.kept.state ≤ work_of v.kept.state + joins_work v.kept.query (bags_at s epoch) (changes_at s epoch)
    within-next stays = omega (arith, stays.most old moved can-count, work v.kept.query old (bags_at s epoch) moved (changes_at s epoch) same-tables same-changes)

  -- and is right at the next epoch
  pub stands-next : (w : NamedView) → TakesChange c v w → IsRight s w
  stands-next w takes = record {
    shown = ap length takes.led.columns ∙ right.shown ∙ sym (ap (λ (d : Query). length d.items) takes.led.query);
    fits = subst Fits (sym takes.led.query) right.fits;
    wide = subst (λ (d : Query). AreWide s.tables d w.kept.widths) (sym takes.led.query) (subst (λ (ns : List ℕ). AreWide s.tables v.kept.query ns) (sym takes.led.widths) right.wide);
    time = record {
      built = omega (arith, takes.led.built, takes.led.epoch, right.time.built);
      kept = omega (arith, takes.led.epoch, right.time.kept);
      reached = omega (arith, takes.led.epoch, before);
    };
    stands =
        subst (λ (k : ℕ). StandsFor w.kept (tables_alone (tables_at s k))) (sym takes.led.epoch)
        (law w.kept (changed old (changes_by c)) new
        (subst (λ (d : Query). AllByRecursion (λ x. SameBag (changed old (changes_by c) x) (new x)) (sources_of d)) (sym takes.led.query)
        (sources-there s (λ x. SameBag (changed old (changes_by c) x) (new x)) next-same (sources_of v.kept.query) v.kept.widths right.wide))
        (takes.stands old stands_old bags-next));
  }

-- ---- Some changes
pub not-taken : (to : ℕ) (v : NamedView) → v.kept.state.epoch ≤ to → IsTakenOn to v v
not-taken to v ahead = record { name = refl; columns = refl; query = refl; widths = refl; built = refl; from = omega arith; within = ahead }

-- one more change
pub taken-further : (to : ℕ) (u v w : NamedView) (c : ChangeOf) → IsTakenOn to u v → v.kept.state.epoch < to → TakesChange c v w → IsTakenOn to u w
taken-further to u v w c so_far more takes = record {
  name = takes.led.name ∙ so_far.name;
  columns = takes.led.columns ∙ so_far.columns;
  query = takes.led.query ∙ so_far.query;
  widths = takes.led.widths ∙ so_far.widths;
  built = takes.led.built ∙ so_far.built;
  from = omega (arith, so_far.from, takes.led.epoch);
  within = omega (arith, more, takes.led.epoch);
}

-- a view of which nothing has changed
pub taken-same : (to : ℕ) (u v w : NamedView) → IsTakenOn to u v → IsSame v w → IsTakenOn to u w
taken-same to u v w so_far same = record {
  name = same.name ∙ so_far.name;
  columns = same.columns ∙ so_far.columns;
  query = same.kept.query ∙ so_far.query;
  widths = same.kept.widths ∙ so_far.widths;
  built = same.kept.state.built ∙ so_far.built;
  from = omega (arith, so_far.from, same.kept.state.epoch);
  within = omega (arith, so_far.within, same.kept.state.epoch);
}

-- ---- What it counts
-- for one change more
pub counted-next : (s : State) (to : ℕ) (u v w : NamedView) (c : ChangeOf) → IsTakenOn to u v → TakesChange c v w → HasCounted s u v
    → CountsFor v.kept.query (bags_at s v.kept.state.epoch) (changes_at s v.kept.state.epoch) (work_of v.kept.state) (work_of w.kept.state) → HasCounted s u w
counted-next s to u v w c on takes counted one =
    let first = u.kept.state.epoch in
    let n = v.kept.state.epoch - first in
    let here : first + n ≡ v.kept.state.epoch = omega (arith, on.from) in
    let next : w.kept.state.epoch - first ≡ suc n = omega (arith, takes.led.epoch, on.from) in
    let own : CountsFor u.kept.query (bags_at s (first + n)) (changes_at s (first + n)) (work_of v.kept.state) (work_of w.kept.state) =
    subst (λ (e : ℕ). CountsFor u.kept.query (bags_at s e) (changes_at s e) (work_of v.kept.state) (work_of w.kept.state)) (sym here)
    (subst (λ (d : Query). CountsFor d (bags_at s v.kept.state.epoch) (changes_at s v.kept.state.epoch) (work_of v.kept.state) (work_of w.kept.state)) on.query one) in
    record {
      counts = rw next (counts-more u.kept.query s n first (work_of u.kept.state) (work_of v.kept.state) (work_of w.kept.state) counted.counts own);
      ahead = omega (arith, takes.led.epoch, on.from);
    }

-- for one that was begun
pub begun-next : (s : State) (to : ℕ) (u v w : NamedView) (c : ChangeOf) → IsTakenOn to u v → IsSame v w → v.kept.state.epoch < to → HasCounted s u v → StaysWithin c v w
    → work_of w.kept.state ≤ work_of v.kept.state + joins_work v.kept.query (bags_at s v.kept.state.epoch) (changes_at s v.kept.state.epoch) → HasBegun s to u w
begun-next s to u v w c on same next counted stays most =
    let at : w.kept.state.epoch ≡ v.kept.state.epoch = same.kept.state.epoch in
    record {
      between = work_of v.kept.state;
      counts = rw at counted.counts;
      ahead = omega (arith, at, on.from);
      next = omega (arith, at, next);
      more = stays.more;
      most =
          subst (λ (e : ℕ). work_of w.kept.state ≤ work_of v.kept.state + joins_work u.kept.query (bags_at s e) (changes_at s e)) (sym at)
          (subst (λ (d : Query). work_of w.kept.state ≤ work_of v.kept.state + joins_work d (bags_at s v.kept.state.epoch) (changes_at s v.kept.state.epoch)) on.query most);
    }

pub right-same : (s : State) (v w : NamedView) → IsRight s v → IsSame v w → IsRight s w
right-same s v w right same = record {
  shown = ap length same.columns ∙ right.shown ∙ sym (ap (λ (d : Query). length d.items) same.kept.query);
  fits = subst Fits (sym same.kept.query) right.fits;
  wide = subst (λ (d : Query). AreWide s.tables d w.kept.widths) (sym same.kept.query) (subst (λ (ns : List ℕ). AreWide s.tables v.kept.query ns) (sym same.kept.widths) right.wide);
  time = record {
    built = omega (arith, same.kept.state.built, same.kept.state.epoch, right.time.built);
    kept = omega (arith, same.kept.state.epoch, right.time.kept);
    reached = omega (arith, same.kept.state.epoch, right.time.reached);
  };
  stands = subst (λ (k : ℕ). StandsFor w.kept (tables_alone (tables_at s k))) (sym same.kept.state.epoch) (same.kept.stands (tables_alone (tables_at s v.kept.state.epoch)) right.stands);
}
