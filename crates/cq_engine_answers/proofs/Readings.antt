-- What SELECT reads: the rows of a table, or those that a view keeps, are the bag that its name in FROM stands for.
use Rattle.std.proofs.Common.{◌≡◌, ℕ, ◌<◌, List, length, Option, Some, sym, ap, ◌∙◌, inl, inr, arith, subst, Result, Ok, Err}
use Rattle.std.specs.Prelude.{◌⊎◌, option_map, slice_get}
use Rattle.std.specs.List.{AllByRecursion}
use Rattle.std.proofs.lemmas.List.{length-map}
use Rattle.std.proofs.lemmas.Option.{slice_get-map}
use Rattle.cq_values.specs.Value.{Row}
use Rattle.cq_model_bags.specs.Bag.{SameBag, once_each}
use Rattle.cq_model_bags.specs.Canonical.{bag_of}
use Rattle.cq_model_bags.proofs.Bags.{same-sym}
use Rattle.cq_model_bags.proofs.Canonicals.{same-bag_of}
use Rattle.cq_model.specs.declared.query.Order.{Order}
use Rattle.cq_model.specs.declared.query.Query.{Query}
use Rattle.cq_model.specs.declared.query.Source.{Source}
use Rattle.cq_model.specs.declared.query.Source.TheVariants.{View}
use Rattle.cq_model.specs.Meaning.{Tables, MeaningInRange, meaning}
use Rattle.cq_model.specs.Sizes.{column_sizes, stored_sizes}
use Rattle.cq_model.specs.Views.{tables_alone, view_bag, ViewInRange}
use Rattle.cq_binder_rules.specs.declared.fault.Fault.{Fault}
use Rattle.cq_binder_rules.specs.declared.fault.Fault.TheVariants.{Memory, SumOutOfRange}
use Rattle.cq_model_state.specs.Fitting.{AreFitting}
use Rattle.cq_model_state.specs.State.{TableOf, State, columns_in, rows_in, tables_now, queries_of}
use Rattle.cq_model_laws.specs.Sizes.{HasSizes}
use Rattle.cq_binder_queries.specs.Catalog.{alone}
use Rattle.cq_views.specs.Shown.{AreRowsOf, IsNotShown, IsShown, Suits}
use Rattle.cq_engine_answers.specs.Narrow.{source_sizes, view_sizes}
use Rattle.cq_engine_answers.specs.Reading.{IsReadable, IsSourceThere, plain}
use Rattle.cq_engine_answers.specs.Selects.{AreListed, Selects, IsInRange, sources_in}
use Rattle.cq_engine_tables.specs.Views.{IsPresent, NamedView, view_of, views_of}
use Rattle.cq_engine_answers.specs.Gathered.{AreShownBy, HaveColumnsOf, IsBacked, IsBackedAt, IsHidden, IsReadFault, IsShowFault}
use Rattle.cq_engine_tables.proofs.Rows.{fitting_in}
use Rattle.cq_engine_tables.proofs.Wide.{suits}
use Rattle.cq_table.proofs.RowLists.{all_of_rows}
use Rattle.cq_engine_tables.proofs.Stored.{rows_sized}

-- as many views are seen as are kept
pub place_there : (views : List NamedView) (place : ℕ) → place < length (views_of views) → place < length views
place_there views place h = omega (arith, h, length-map views view_of)

-- ---- A view that FROM names
-- it is there
pub view_inside : (tables : List TableOf) (views : List NamedView) (s : Source) (place : ℕ) → s ≡ View place
    → IsSourceThere tables (views_of views) s → place < length views
view_inside tables views s place is there =
    place_there views place (subst (IsSourceThere tables (views_of views)) is there)

module _ (views : List NamedView) (s : Source) (place : ℕ) (v : NamedView) (is : s ≡ View place) (at : slice_get views place ≡ Some v) where
  -- it is at the present where the source can be read
  pub present_there : (tables : List TableOf) → IsReadable tables views s → IsPresent tables v
  present_there tables readable = subst (IsReadable tables views) is readable v at

  -- and backed where the source is
  pub backed_there : IsBackedAt views s → IsBacked v
  backed_there backed = subst (IsBackedAt views) is backed v at

  -- where it is not shown, nor is the source
  pub read_fault : (f : Fault) → IsShowFault v.kept f → IsReadFault views s f
  read_fault f (inl m) = inl m
  read_fault f (inr w) = inr (w.0, subst (IsHidden views) (sym is) (v, at, w.1))

  -- and what it shows is shown of the source
  pub shown_by : (rows : List Row) → AreRowsOf v.kept rows → HaveColumnsOf v.kept rows → IsShown v.kept
      → AreShownBy views s rows
  shown_by rows bag sized range = subst (λ (t : Source). AreShownBy views t rows) (sym is) (v, at, bag, sized, range)

-- ---- What names in FROM stand for
module _ (tables : List TableOf) (views : List NamedView) where
  abbrev pub bases : Tables
  bases = tables_alone (tables_now (alone tables (views_of views)))

  -- rows are those of a table's number where their bag is
  pub rows_same : (n : ℕ) (stored : List Row) → bag_of stored ≡ rows_in tables n → SameBag (once_each stored) (once_each (rows_in tables n))
  rows_same n stored rows =
      subst (λ (rs : List Row). SameBag (once_each stored) (once_each rs)) rows (same-sym (once_each (bag_of stored)) (once_each stored) (same-bag_of stored))

  -- they have the sizes of its columns
  pub stored_sized : (n : ℕ) (stored : List Row) → AreFitting tables → bag_of stored ≡ rows_in tables n → AllByRecursion (HasSizes (stored_sizes (columns_in tables n))) stored
  stored_sized n stored fitting rows =
      let columns = columns_in tables n in
      all_of_rows (HasSizes (stored_sizes columns)) stored
      (subst (λ (rs : List Row). AllByRecursion (HasSizes (stored_sizes columns)) rs) (sym rows) (rows_sized columns (rows_in tables n) (fitting_in n tables fitting)))

  -- a view at its place
  module _ (place : ℕ) (v : NamedView) (at : slice_get views place ≡ Some v) where
    view_there : slice_get (views_of views) place ≡ Some (view_of v)
    view_there = slice_get-map view_of views place ∙ ap (option_map view_of) at

    -- its place has its query
    pub query_there : queries_of (alone tables (views_of views)) place ≡ Some v.kept.query
    query_there = slice_get-map (λ w. w.query) (views_of views) place ∙ ap (option_map (λ w. w.query)) view_there

    -- and the sizes of its columns
    pub sizes_there : source_sizes tables (views_of views) (View place) ≡ column_sizes v.kept.query
    sizes_there = ap view_sizes view_there

  -- the tables suit a view at the present
  pub suits_for : (v : NamedView) → AreFitting tables → IsPresent tables v → Suits v.kept bases
  suits_for = suits tables

-- ---- SELECT from one view
-- SELECT from what a view keeps, which is the bag of the view's query on each tables that suit it
abbrev pub SelectsKept : Query → Order → NamedView → Result (List Row) Fault → Type 0
SelectsKept q order v (Ok rows) = (tables : Tables) → Suits v.kept tables
    → AreListed order (meaning (plain q.first q.filter q.items) (λ source. meaning v.kept.query tables)) rows × MeaningInRange v.kept.query tables
SelectsKept q order v (Err f) = (f ≡ Memory) ⊎ ((f ≡ SumOutOfRange) × IsNotShown v.kept)

module _ (tables : List TableOf) (views : List NamedView) (q : Query) (order : Order) where
  abbrev Answered : List Row → Query → Type 0
  Answered list p = AreListed order (meaning p (sources_in tables (views_of views))) list × IsInRange tables (views_of views) p

  -- from a view at its place
  module _ (place : ℕ) (v : NamedView) (present : IsPresent tables v) (at : slice_get views place ≡ Some v) (fitting : AreFitting tables) where
    pub from_kept : (result : Result (List Row) Fault) → q ≡ plain q.first q.filter q.items → q.first ≡ View place → SelectsKept q order v result → Selects tables (views_of views) q order result
    from_kept (Ok list) is first w = subst (Answered list) (sym shape) (
      subst (λ (o : Option Query). AreListed order (meaning (plain q.first q.filter q.items) (λ source. view_bag (tables_now here) o)) list) (sym there) told.0,
      record { own = tt; named = (subst (λ (o : Option Query). ViewInRange (tables_now here) o) (sym there) told.1, tt) },
    )
      where
        here : State
        here = alone tables (views_of views)

        there : queries_of here place ≡ Some v.kept.query
        there = query_there tables views place v at

        shape : q ≡ plain (View place) q.filter q.items
        shape = is ∙ ap (λ (source : Source). plain source q.filter q.items) first

        told : AreListed order (meaning (plain q.first q.filter q.items) (λ source. meaning v.kept.query (bases tables views))) list × MeaningInRange v.kept.query (bases tables views)
        told = w (bases tables views) (suits_for tables views v fitting present)
    from_kept (Err f) is first (inl m) = inl m
    from_kept (Err f) is first (inr w) = inr (
      w.0,
      λ range. w.1 (bases tables views) (suits_for tables views v fitting present)
          (subst (λ (o : Option Query). ViewInRange (tables_now (alone tables (views_of views))) o) (query_there tables views place v at) (subst (IsInRange tables (views_of views)) shape range).named.0),
    )
      where
        shape : q ≡ plain (View place) q.filter q.items
        shape = is ∙ ap (λ (source : Source). plain source q.filter q.items) first
