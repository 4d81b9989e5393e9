-- What becomes of bags of rows that are cut to columns.
use Rattle.std.proofs.Common.{◌≡◌, ◌≤◌, List, [], ◌++◌, Option, Some, None, refl, arith}
use Rattle.cq_model_bags.proofs.Bags.{projected-respects, same-refl}
use Rattle.cq_model_bags.proofs.Linears.{projected-append}
use Rattle.cq_model_bags.proofs.Positives.{projected-bag}
use Rattle.cq_model_bags.specs.Bag.{IsBag, SameBag, Weighted}
use Rattle.cq_model_bags.specs.Join.{HasWidth}
use Rattle.cq_deltas_joins.specs.Steps.{AreStored}
use Rattle.cq_views_model.specs.Delta.{changed}
use Rattle.cq_model.specs.Pushed.{HaveWidths}
use Rattle.cq_views.specs.Cut.{cut_bags, cut_to, cut_width, entry_of, width_at}
use Rattle.cq_model_laws.proofs.Positives.{once_each-bag}
use Rattle.cq_model.specs.Group.{key_of}
use Rattle.cq_model.specs.Meaning.{Tables}
use Rattle.cq_views_columns.proofs.Bags.{rows-stored, rows-wide}
use Rattle.cq_views_columns.specs.declared.columns.SourceColumns.{SourceColumns}
use Rattle.cq_sides_weights.proofs.RowByRow.{sizes-projected}
use Rattle.cq_sides_weights.specs.Held.{sizes}
use Rattle.cq_views_state.specs.State.{AreBags}

-- ---- rows of one source
pub cut-sizes : (x : Option SourceColumns) (xs : Weighted) → sizes (cut_to x xs) ≤ sizes xs
cut-sizes None xs = omega arith
cut-sizes (Some x) xs = omega (arith, sizes-projected (key_of x.columns) xs)

-- none are cut to none
pub cut-none : (x : Option SourceColumns) → cut_to x [] ≡ []
cut-none None = refl
cut-none (Some x) = refl

pub cut-append : (x : Option SourceColumns) (xs ys : Weighted) → cut_to x (xs ++ ys) ≡ cut_to x xs ++ cut_to x ys
cut-append None xs ys = refl
cut-append (Some x) xs ys = projected-append (key_of x.columns) xs ys

cut-bag : (x : Option SourceColumns) (xs : Weighted) → IsBag xs → IsBag (cut_to x xs)
cut-bag None xs bag = once_each-bag []
cut-bag (Some x) xs bag = projected-bag (key_of x.columns) xs bag

pub cut-stored : (x : Option SourceColumns) (xs : Weighted) → AreStored xs → AreStored (cut_to x xs)
cut-stored None xs stored = tt
cut-stored (Some x) xs stored = rows-stored x.columns xs stored

pub cut-same : (x : Option SourceColumns) (xs ys : Weighted) → SameBag xs ys → SameBag (cut_to x xs) (cut_to x ys)
cut-same None xs ys same = same-refl []
cut-same (Some x) xs ys same = projected-respects (key_of x.columns) xs ys same

-- and has the entry's columns alone
cut-wide_rows : (x : Option SourceColumns) (xs : Weighted) → HasWidth (cut_width x) (cut_to x xs)
cut-wide_rows None xs = tt
cut-wide_rows (Some x) xs = rows-wide x.columns xs

-- ---- rows of all sources
module _ (columns : List SourceColumns) where
  -- what changes of tables make of them is cut to what the changes that are cut make
  pub cut-changed : (tables changes : Tables) → cut_bags columns (changed tables changes) ≡ changed (cut_bags columns tables) (cut_bags columns changes)
  cut-changed tables changes = λ i s. cut-append (entry_of columns s) (tables s) (changes s) i

  -- rows that are cut are as wide as they are cut to
  pub cut-wide : (tables : Tables) → HaveWidths (width_at columns) (cut_bags columns tables)
  cut-wide tables s = cut-wide_rows (entry_of columns s) (tables s)

  pub cut-bags : (tables : Tables) → AreBags tables → AreBags (cut_bags columns tables)
  cut-bags tables bags s = cut-bag (entry_of columns s) (tables s) (bags s)

-- ---- several sources
