-- A view shows its query's bag on tables whose rows have the columns that it was told.
use Rattle.std.proofs.Common.{◌≡◌, ◌∙◌, ℕ, ◌≤◌, List, [], ◌∷◌, map, sym, ap, subst, arith}
use Rattle.std.specs.List.{AllByRecursion}
use Rattle.cq_values.specs.Value.{Row}
use Rattle.cq_model_bags.proofs.Bags.{same-refl}
use Rattle.cq_model_bags.specs.Bag.{SameBag, Weighted, once_each}
use Rattle.cq_deltas_joins.specs.Steps.{AreStored}
use Rattle.cq_views.proofs.Bags.{cut-bags, cut-sizes, cut-stored}
use Rattle.cq_views.proofs.Sources.{entries-read}
use Rattle.cq_views.proofs.Taking.{crossed-less}
use Rattle.cq_views.specs.Cut.{cut_bags, entry_of}
use Rattle.cq_views.specs.Shown.{AreRowsOf, CanShow, IsNotShown, IsShown, Suits}
use Rattle.cq_views.specs.declared.kept_view.KeptView.{KeptView}
use Rattle.cq_model.specs.Meaning.{MeaningInRange, Tables, meaning}
use Rattle.cq_model.specs.Sizes.{column_sizes, count_size}
use Rattle.cq_model.specs.Views.{sources_of}
use Rattle.cq_model.specs.declared.query.Source.{Source}
use Rattle.cq_views_columns.proofs.Bags.{are-narrow}
use Rattle.cq_views.specs.State.{narrow_query}
use Rattle.cq_model_laws.proofs.Meanings.{meaning-same}
use Rattle.cq_views_columns.specs.Narrow.{HaveColumns, IsNarrowOf, narrowed_bags, sources_read}
use Rattle.cq_views_columns.specs.declared.columns.SourceColumns.{SourceColumns}
use Rattle.cq_views_state.proofs.SameBags.{standing-by_sources}
use Rattle.cq_views_state.specs.Shown as inner
use Rattle.cq_views_state.specs.State.{AreBags, StandsFor, crossed}
use Rattle.cq_model_bags.proofs.Lists.{all-weaker}

module _ (v : KeptView) where
  -- the state shows what the view can show
  pub can-show : CanShow v → inner.CanShow v.state
  can-show can =
      let is = can.stands.narrow in
      let cut = cut_bags v.columns can.tables in
      let less = crossed-less cut can.tables (λ s. cut-sizes (entry_of v.columns s) (can.tables s)) (sources_of v.query) in
      let few : crossed cut (sources_of v.query) ≤ count_size = omega (arith, less, can.few) in
      let stored = all-weaker (λ s. AreStored (can.tables s)) (λ s. AreStored (cut s)) (λ s h. cut-stored (entry_of v.columns s) (can.tables s) h) (sources_of v.query) can.stored in
      record {
        can = is.kept can.can;
        tables = cut;
        stands = can.stands.rows;
        few = subst (λ (ss : List Source). crossed cut ss ≤ count_size) (sym is.sources) few;
        stored = subst (λ (ss : List Source). AllByRecursion (λ s. AreStored (cut s)) ss) (sym is.sources) stored;
        bags = cut-bags v.columns can.tables can.bags;
      }

  -- its columns have the same sizes
  pub same-sizes : CanShow v → column_sizes v.state.query ≡ column_sizes v.query
  same-sizes can = can.stands.narrow.sizes

  module _ (narrow : IsNarrowOf v.query v.widths (narrow_query v)) (width : Source → ℕ) (from : map width (sources_of v.query) ≡ v.widths) (tables : Tables) where
    -- rows that are cut are those with the columns alone that the query reads
    alike : AllByRecursion (λ s. SameBag (cut_bags v.columns tables s) (narrowed_bags v.columns tables s)) (sources_of v.query)
    alike =
        let q = v.query in
        let narrowed = narrowed_bags v.columns tables in
        let read : v.columns ≡ sources_read q v.widths (sources_of q) (map width (sources_of q)) =
        narrow.columns ∙ ap (sources_read q v.widths (sources_of q)) (sym from) in
        let same = subst (λ (cs : List SourceColumns). AllByRecursion (λ s. cut_bags cs tables s ≡ narrowed_bags cs tables s) (sources_of q)) (sym read) (entries-read q v.widths width (sources_of q) tables) in
        all-weaker (λ s. cut_bags v.columns tables s ≡ narrowed s) (λ s. SameBag (cut_bags v.columns tables s) (narrowed s))
        (λ s h. subst (λ (xs : Weighted). SameBag (cut_bags v.columns tables s) xs) h (same-refl (cut_bags v.columns tables s))) (sources_of q) same

    -- so they are for each source of the query over them
    pub alike-inside : AllByRecursion (λ s. SameBag (cut_bags v.columns tables s) (narrowed_bags v.columns tables s)) (sources_of v.state.query)
    alike-inside = subst (λ (ss : List Source). AllByRecursion (λ s. SameBag (cut_bags v.columns tables s) (narrowed_bags v.columns tables s)) ss) (sym narrow.sources) alike

  -- so the query over them has the bag of the view's
  pub cut-means : IsNarrowOf v.query v.widths (narrow_query v) → (tables : Tables) → HaveColumns v.query v.widths tables
      → SameBag (meaning v.state.query (cut_bags v.columns tables)) (meaning v.query tables)
  cut-means narrow tables columns =
      subst (λ (xs : Weighted). SameBag (meaning v.state.query (cut_bags v.columns tables)) xs) (narrow.bag tables columns)
      (meaning-same v.state.query (cut_bags v.columns tables) (narrowed_bags v.columns tables) (alike-inside narrow columns.width columns.from tables))

  module _ (tables : Tables) (suits : Suits v tables) where
    abbrev narrowed : Tables
    narrowed = narrowed_bags v.columns tables

    -- so the state stands for these
    stands-narrow : StandsFor v.state narrowed
    stands-narrow =
        standing-by_sources v.state (cut_bags v.columns tables) narrowed (alike-inside suits.stands.narrow suits.columns.width suits.columns.from tables) suits.stands.rows

    narrow-bags : AreBags narrowed
    narrow-bags s = (are-narrow v.columns s).bag tables (suits.columns.bags s)

    shown-at : (rows : List Row) → inner.AreRowsOf v.state rows → SameBag (once_each rows) (meaning v.query tables)
    shown-at rows are = subst (λ (xs : Weighted). SameBag (once_each rows) xs) (suits.stands.narrow.bag tables suits.columns) (are narrowed stands-narrow narrow-bags)

    in-range-at : inner.IsShown v.state → MeaningInRange v.query tables
    in-range-at is = (suits.stands.narrow.range tables suits.columns).0 (is narrowed stands-narrow narrow-bags)

    out-of-range-at : inner.IsNotShown v.state → MeaningInRange v.query tables → ⊥
    out-of-range-at is range = is narrowed stands-narrow narrow-bags ((suits.stands.narrow.range tables suits.columns).1 range)

  -- what the state shows is what the view means
  pub all-shown : (rows : List Row) → inner.AreRowsOf v.state rows → AreRowsOf v rows
  all-shown rows are tables suits = shown-at tables suits rows are

  pub in-range : inner.IsShown v.state → IsShown v
  in-range is tables suits = in-range-at tables suits is

  pub out-of-range : inner.IsNotShown v.state → IsNotShown v
  out-of-range is tables suits = out-of-range-at tables suits is
