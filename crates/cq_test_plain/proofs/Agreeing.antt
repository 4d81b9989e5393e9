-- A query looks at its sources alone, and a view at the tables.
use Rattle.std.proofs.Common.{◌≡◌, ℕ, zero, suc, ◌+◌, ◌<◌, ◌≤◌, true, ◌||◌, List, [], ◌∷◌, ◌++◌, Option, Some, None, map, length, get_or, refl, sym, ◌∙◌, ap, subst, arith, inl, inr, ◌⊎◌}
use Rattle.std.proofs.lemmas.Bool.{cases_eq, cases_lt, eqb-true, eq-eqb}
use Rattle.std.proofs.lemmas.List.{get_or_append_left, get_or_past, get_or_push, length_push}
use Rattle.std.specs.Prelude.{if◌then◌else◌, nat_eq, slice_get}
use Rattle.std.specs.List.{AllByRecursion, Any, list_any}
use Rattle.cq_values.specs.Value.{Row}
use Rattle.cq_model_bags.specs.Bag.{Weighted, SameBag, distinct, filtered, joined, once_each}
use Rattle.cq_model_bags.specs.Listing.{IsListing}
use Rattle.cq_model_bags.specs.declared.sort_key.SortKey.{SortKey}
use Rattle.cq_model_bags.proofs.Bags.{same-trans}
use Rattle.cq_model_bags.proofs.Totals.{by_test}
use Rattle.cq_model.specs.declared.query.Join.{Join}
use Rattle.cq_model.specs.declared.query.Query.{Query}
use Rattle.cq_model.specs.declared.query.Source.{Source}
use Rattle.cq_model.specs.declared.query.Source.TheVariants.{Table, View}
use Rattle.cq_model.specs.Meaning.{Tables, MeaningInRange, ShapeInRange, chain, joined_rows, keeps, meaning, meets, shown}
use Rattle.cq_model.specs.Views.{sources_of, tables_alone, view_bag, with_views, SourceInRange, ViewInRange}
use Rattle.cq_test_plain.specs.declared.fault.PlainFault.{PlainFault}
use Rattle.cq_test_plain.specs.Faults.{Tells}
use Rattle.cq_test_plain.specs.FaultsOf.{IsNamedFault}
use Rattle.cq_test_plain.specs.Named.{IsNamed, is_view}
use Rattle.cq_test_plain.specs.Wide.{AtSomeRow, IsQueryWide, IsShownWide, IsSourceWide, IsViewWide, IsWideIn}
use Rattle.cq_test_plain.specs.Stored.{query_at, rows_at, stored_bags}
use Rattle.cq_test_plain.proofs.Exits.{tells_more}

-- one more join among those that are asked
pub any_source : (v : ℕ) (joins : List Join) → list_any (λ join. is_view v join.source) joins ≡ list_any (is_view v) (map (λ join. join.source) joins)
any_source v [] = refl
any_source v (j ∷ joins) = ap (λ b. is_view v j.source || b) (any_source v joins)

-- the rows of DISTINCT
pub distinct_meaning : (q : Query) (tables : Tables) → q.distinct ≡ true → distinct (shown q (joined_rows q tables)) ≡ meaning q tables
distinct_meaning q tables d = ap (λ b. if b then distinct (shown q (joined_rows q tables)) else shown q (joined_rows q tables)) (sym d)

-- with no views the tables are alone
alone_at : (tables : List (List Row)) (source : Source) → stored_bags tables [] source ≡ tables_alone (rows_at tables) source
alone_at tables (Table t) = refl
alone_at tables (View v) = refl

pub alone : (tables : List (List Row)) → stored_bags tables [] ≡ tables_alone (rows_at tables)
alone tables = λ k source. alone_at tables source k

-- the chain where the sources have the same bags
chain-agrees : (tables others : Tables) (joins : List Join) (xs : Weighted) → AllByRecursion (λ source. tables source ≡ others source) (map (λ join. join.source) joins) → chain tables xs joins ≡ chain others xs joins
chain-agrees tables others [] xs all = refl
chain-agrees tables others (j ∷ joins) xs all =
    ap (λ ys. chain tables (joined (meets j.on) xs ys) joins) all.0 ∙ chain-agrees tables others joins (joined (meets j.on) xs (others j.source)) all.1

pub all-agrees : (q : Query) (tables others : Tables) → AllByRecursion (λ source. tables source ≡ others source) (sources_of q) → chain tables (tables q.first) q.joins ≡ chain others (others q.first) q.joins
all-agrees q tables others all = ap (λ xs. chain tables xs q.joins) all.0 ∙ chain-agrees tables others q.joins (others q.first) all.1

-- ---- the views that are named
same_view : (v w : ℕ) → nat_eq v w ≡ true → v ≡ w
same_view v w e = eqb-true v w e

pub all_named : (P : Source → Type 0) (sources : List Source) → ((t : ℕ) → P (Table t)) → ((v : ℕ) → list_any (is_view v) sources ≡ true → P (View v)) → AllByRecursion P sources
all_named P [] f g = tt
all_named P (Table t ∷ sources) f g = (f t, all_named P sources f (λ v named. g v named))
all_named P (View w ∷ sources) f g = (
  g w (let here : nat_eq w w ≡ true = eq-eqb w w refl in rw here refl),
  all_named P sources f (λ v named. g v (by_test (nat_eq v w) (λ k. rw k refl) (λ k. rw k named))),
)

pub at_named : (P : Source → Type 0) (sources : List Source) (v : ℕ) → list_any (is_view v) sources ≡ true → AllByRecursion P sources → P (View v)
at_named P [] v named all = absurd (cc)
at_named P (Table t ∷ sources) v named all = at_named P sources v named all.1
at_named P (View w ∷ sources) v named all = by_test (nat_eq v w)
    (λ k. subst (λ (u : ℕ). P (View u)) (sym (same_view v w k)) all.0)
    (λ k. at_named P sources v (rw k at named) all.1)

pub any_named : (P : Source → Type 0) (sources : List Source) (v : ℕ) → list_any (is_view v) sources ≡ true → P (View v) → Any P sources
any_named P [] v named p = absurd (cc)
any_named P (Table t ∷ sources) v named p = let a = any_named P sources v named p in (suc a.0, a.1, omega (arith, a.2), a.3, a.4)
any_named P (View w ∷ sources) v named p = by_test (nat_eq v w)
    (λ k. (0, View w, omega arith, refl, subst (λ (u : ℕ). P (View u)) (same_view v w k) p))
    (λ k. let a = any_named P sources v (rw k at named) p in (suc a.0, a.1, omega (arith, a.2), a.3, a.4))

-- ---- the rows of the views that are named
get_at : (queries : List Query) (i : ℕ) (q : Query) → i < length queries → q ≡ get_or queries i q → slice_get queries i ≡ Some q
get_at [] i q h is = absurd (omega arith)
get_at (p ∷ queries) zero q h is = ap Some (sym is)
get_at (p ∷ queries) (suc i) q h is = get_at queries i q (omega arith) is

get_past : (queries : List Query) (i : ℕ) → length queries ≤ i → slice_get queries i ≡ None
get_past [] i h = refl
get_past (q ∷ queries) zero h = absurd (omega arith)
get_past (q ∷ queries) (suc i) h = get_past queries i (omega arith)

module _ (tables : List (List Row)) (queries : List Query) (q : Query) where
  -- a view that is named has its rows here, and its totals can be shown
  pub record IsStored (views : List (List Row)) (v : ℕ) : Type 0 where
    pub bag : IsNamed q v → rows_at views v ≡ view_bag (rows_at tables) (query_at queries v)
    pub range : IsNamed q v → ViewInRange (rows_at tables) (query_at queries v)

  -- so many views are gone through
  pub record AreStored (views : List (List Row)) (count : ℕ) : Type 0 where
    pub long : length views ≡ count
    pub each : (v : ℕ) → v < count → IsStored views v

  pub none-stored : AreStored [] 0
  none-stored = record { long = refl; each = λ v h. absurd (omega arith) }

  pub next-stored : (views : List (List Row)) (at : ℕ) (view : Query) (rows : List Row) → at < length queries → view ≡ get_or queries at view
      → (IsNamed q at → once_each rows ≡ meaning view (tables_alone (rows_at tables))) → (IsNamed q at → MeaningInRange view (tables_alone (rows_at tables)))
      → AreStored views at → AreStored (views ++ rows ∷ []) (at + 1)
  next-stored views at view rows h is bag range stored = record {
    long = omega (arith, length_push views rows, stored.long);
    each = λ v below. elim (cases_eq v at) [
      | inl e ↦ subst (IsStored (views ++ rows ∷ [])) (sym e) (record {
        bag = λ named. ap once_each (get_or_push views rows [] at stored.long) ∙ bag named ∙ sym (ap (view_bag (rows_at tables)) (get_at queries at view h is));
        range = λ named. subst (ViewInRange (rows_at tables)) (sym (get_at queries at view h is)) (range named);
      })
      | inr other ↦ let old = stored.each v (omega arith) in record {
        bag = λ named. ap once_each (get_or_append_left views (rows ∷ []) [] v (omega (arith, stored.long))) ∙ old.bag named;
        range = old.range;
      }
    ];
  }

  -- past the last view there is none
  pub all-stored : (views : List (List Row)) (count : ℕ) → length queries ≤ count → AreStored views count → (v : ℕ) → IsStored views v
  all-stored views count h stored v = elim (cases_lt v count) [
    | inl below ↦ stored.each v below
    | inr past ↦ let none = get_past queries v (omega arith) in record {
      bag = λ named. ap once_each (get_or_past views v [] (omega (arith, stored.long))) ∙ sym (ap (view_bag (rows_at tables)) none);
      range = λ named. subst (ViewInRange (rows_at tables)) (sym none) tt;
    }
  ]

  -- so the sources of the query hold what it asks for
  pub sources-stored : (views : List (List Row)) (count : ℕ) → length queries ≤ count → AreStored views count
      → AllByRecursion (λ source. stored_bags tables views source ≡ with_views (rows_at tables) (query_at queries) source) (sources_of q)
  sources-stored views count h stored =
      all_named (λ source. stored_bags tables views source ≡ with_views (rows_at tables) (query_at queries) source) (sources_of q) (λ t. refl) (λ v named. (all-stored views count h stored v).bag named)

  -- and their totals can be shown
  pub sources-shown : (views : List (List Row)) (count : ℕ) → length queries ≤ count → AreStored views count → AllByRecursion (SourceInRange (rows_at tables) (query_at queries)) (sources_of q)
  sources-shown views count h stored = all_named (SourceInRange (rows_at tables) (query_at queries)) (sources_of q) (λ t. tt) (λ v named. (all-stored views count h stored v).range named)

  -- where a view that is named fails, so does the answer
  module _ (at : ℕ) (view : Query) (h : at < length queries) (is : view ≡ get_or queries at view) where
    view_wide : IsNamed q at × IsQueryWide view (tables_alone (rows_at tables)) → Any (IsSourceWide (rows_at tables) (query_at queries)) (sources_of q)
    view_wide wide =
        any_named (IsSourceWide (rows_at tables) (query_at queries)) (sources_of q) at wide.0 (subst (IsViewWide (rows_at tables)) (sym (get_at queries at view h is)) wide.1)

    view_outside : IsNamed q at × (MeaningInRange view (tables_alone (rows_at tables)) → ⊥) → AllByRecursion (SourceInRange (rows_at tables) (query_at queries)) (sources_of q) → ⊥
    view_outside outside all =
        outside.1 (subst (ViewInRange (rows_at tables)) (get_at queries at view h is) (at_named (SourceInRange (rows_at tables) (query_at queries)) (sources_of q) at outside.0 all))

    pub view_fails : (fault : PlainFault) → IsNamedFault q at view (tables_alone (rows_at tables)) fault
        → Tells (Any (IsSourceWide (rows_at tables) (query_at queries)) (sources_of q)) (AllByRecursion (SourceInRange (rows_at tables) (query_at queries)) (sources_of q) → ⊥) fault
    view_fails fault told = tells_more view_wide view_outside fault told

-- ---- what depends on the sources alone
module _ (q : Query) (tables others : Tables) (all : AllByRecursion (λ source. tables source ≡ others source) (sources_of q)) where
  pub meaning-agrees : meaning q tables ≡ meaning q others
  meaning-agrees = ap (λ xs. let rows = shown q (filtered (keeps q.filter) xs) in if q.distinct then distinct rows else rows) (all-agrees q tables others all)

  pub range-agrees : MeaningInRange q tables → MeaningInRange q others
  range-agrees r = subst (λ (xs : Weighted). ShapeInRange q.shape (filtered (keeps q.filter) xs)) (all-agrees q tables others all) r

  pub range-back : MeaningInRange q others → MeaningInRange q tables
  range-back r = subst (λ (xs : Weighted). ShapeInRange q.shape (filtered (keeps q.filter) xs)) (sym (all-agrees q tables others all)) r

  pub wide-agrees : IsQueryWide q tables → IsQueryWide q others
  wide-agrees w = subst (λ (xs : Weighted). AtSomeRow (IsWideIn q.filter) xs ⊎ IsShownWide q (filtered (keeps q.filter) xs)) (all-agrees q tables others all) w

-- a listing is one of the bag
pub listing-respects : (keys : List SortKey) (limit : Option ℕ) (xs ys : Weighted) (rows : List Row) → SameBag xs ys → IsListing keys limit xs rows → IsListing keys limit ys rows
listing-respects keys limit xs ys rows s l = (l.0, record { same = same-trans (once_each l.0) xs ys l.1.same s; in_order = l.1.in_order }, l.2)
