-- Rows that have as many columns as a state was told.
use Rattle.std.proofs.Common.{◌≡◌, ◌∙◌, List, [], ◌∷◌, ◌++◌, length, map, sym, ap}
use Rattle.std.specs.List.{AllByRecursion}
use Rattle.cq_values.specs.Value.{Row}
use Rattle.cq_model_bags.proofs.Widths.{append-width}
use Rattle.cq_model_bags.specs.Bag.{Weighted}
use Rattle.cq_deltas_joins.proofs.Storing.{merged-all}
use Rattle.cq_deltas_joins.specs.Chains.{nothing}
use Rattle.cq_views_model.specs.Delta.{changed}
use Rattle.cq_model.specs.Pushed.{HaveWidths}
use Rattle.cq_views.proofs.Bags.{cut-wide}
use Rattle.cq_views.specs.Cut.{AreCut, cut_bags, cut_widths, width_at}
use Rattle.cq_views.specs.declared.kept_view.KeptView.{KeptView}
use Rattle.cq_model.specs.Meaning.{Tables}
use Rattle.cq_model.specs.Views.{sources_of}
use Rattle.cq_model.specs.declared.query.Query.{Query}
use Rattle.cq_model.specs.declared.query.Source.{Source}
use Rattle.cq_views_columns.specs.declared.columns.SourceColumns.{SourceColumns}
use Rattle.cq_views_state.specs.State.{AreAsTold}
use Rattle.cq_views_state.specs.declared.state.ViewState.{ViewState}

-- what holds of rows beside others holds of each part
pub all-front : (P : Row → Type 0) (xs ys : Weighted) → AllByRecursion (λ x. P x.0) (xs ++ ys) → AllByRecursion (λ x. P x.0) xs
all-front P [] ys all = tt
all-front P (x ∷ xs) ys all = (all.0, all-front P xs ys all.1)

pub all-back : (P : Row → Type 0) (xs ys : Weighted) → AllByRecursion (λ x. P x.0) (xs ++ ys) → AllByRecursion (λ x. P x.0) ys
all-back P [] ys all = all
all-back P (x ∷ xs) ys all = all-back P xs ys all.1

-- ---- rows beside others are as wide as these
module _ (v : ViewState) (tables a b : Tables) (wide : AreAsTold v tables (changed a b)) where
  abbrev columns_at : (source : Source) → Row → Type 0
  columns_at source row = length row ≡ wide.width source

  wide-front : HaveWidths wide.width a
  wide-front s = all-front (columns_at s) (a s) (b s) (wide.more s)

  wide-back : HaveWidths wide.width b
  wide-back s = all-back (columns_at s) (a s) (b s) (wide.more s)

  pub wide-first : AreAsTold v tables a
  wide-first = record { width = wide.width; told = wide.told; rows = wide.rows; more = wide-front }

  pub wide-swapped : AreAsTold v tables (changed b a)
  wide-swapped = record { width = wide.width; told = wide.told; rows = wide.rows; more = λ s. append-width (wide.width s) (b s) (a s) (wide-back s) (wide-front s) }

  pub wide-second : (w : ViewState) → w.query ≡ v.query → w.widths ≡ v.widths → AreAsTold w (changed tables a) b
  wide-second w query widths = record {
    width = wide.width;
    told = ap (λ (q : Query). map wide.width (sources_of q)) query ∙ wide.told ∙ sym widths;
    rows = λ s. append-width (wide.width s) (tables s) (a s) (wide.rows s) (wide-front s);
    more = wide-back;
  }

-- ---- rows that are cut
-- they are as wide as a state was told that has no rows
pub start-wide : (v : ViewState) (columns : List SourceColumns) (query : Query) (rows : Tables) → v.query ≡ query → v.widths ≡ cut_widths columns query → AreAsTold v nothing (cut_bags columns rows)
start-wide v columns query rows is widths = record {
  width = width_at columns;
  told = ap (cut_widths columns) is ∙ sym widths;
  rows = λ s. tt;
  more = cut-wide columns rows;
}

-- tables that are cut, and changes that are, are as wide as the state was told
pub all-wide : (v : KeptView) (tables cut : Tables) → v.state.widths ≡ cut_widths v.columns v.state.query → HaveWidths (width_at v.columns) cut
    → AreAsTold v.state (cut_bags v.columns tables) cut
all-wide v tables cut told wide = record { width = width_at v.columns; told = sym told; rows = cut-wide v.columns tables; more = wide }

-- changes of which each row stands once are as wide as they are cut to
pub changes-wide : (columns : List SourceColumns) (changes cut : Tables) → AreCut columns changes cut → HaveWidths (width_at columns) cut
changes-wide columns changes cut are s =
    merged-all (λ r. length r ≡ width_at columns s) (cut s) (cut_bags columns changes s) (are.clean s) (are.same.at s) (cut-wide columns changes s)
