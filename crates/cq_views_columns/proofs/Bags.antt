-- What becomes of bags of rows when these keep some columns alone.
use Rattle.std.proofs.Common.{◌≡◌, ℕ, zero, suc, List, [], ◌∷◌, length, ℤ, refl, arith}
use Rattle.std.proofs.lemmas.List.{map-append}
use Rattle.cq_values.specs.Value.{Row}
use Rattle.cq_model_bags.specs.Bag.{Weighted, projected}
use Rattle.cq_model_bags.specs.Join.{HasWidth}
use Rattle.cq_model_bags.proofs.Bags.{projected-respects}
use Rattle.cq_model_bags.proofs.Positives.{projected-bag}
use Rattle.cq_deltas_joins.specs.Steps.{AreStored}
use Rattle.cq_views_model.specs.Delta.{SameTables}
use Rattle.cq_model.specs.Sizes.{IsStored}
use Rattle.cq_model.specs.Group.{key_of}
use Rattle.cq_model.specs.Meaning.{Tables}
use Rattle.cq_model.specs.declared.query.Source.{Source}
use Rattle.cq_views_columns.specs.Laws.{AreNarrow}
use Rattle.cq_views_columns.specs.Narrow.{columns_at, narrowed_bags}
use Rattle.cq_views_columns.specs.declared.columns.SourceColumns.{SourceColumns}

-- a narrower row is stored where the row is
key-stored : (columns : List ℕ) (row : Row) → IsStored row → IsStored (key_of columns row)
key-stored [] row stored i = omega arith
key-stored (c ∷ columns) row stored zero = stored c
key-stored (c ∷ columns) row stored (suc i) = key-stored columns row stored i

pub rows-stored : (columns : List ℕ) (xs : Weighted) → AreStored xs → AreStored (projected (key_of columns) xs)
rows-stored columns [] h = tt
rows-stored columns (x ∷ xs) h = (key-stored columns x.0 h.0, rows-stored columns xs h.1)

-- and has these columns alone
key-wide : (columns : List ℕ) (row : Row) → length (key_of columns row) ≡ length columns
key-wide [] row = refl
key-wide (c ∷ columns) row = omega (arith, key-wide columns row)

pub rows-wide : (columns : List ℕ) (xs : Weighted) → HasWidth (length columns) (projected (key_of columns) xs)
rows-wide columns [] = tt
rows-wide columns (x ∷ xs) = (key-wide columns x.0, rows-wide columns xs)

pub are-narrow : (columns : List SourceColumns) (source : Source) → AreNarrow columns source
are-narrow columns source =
    let own = columns_at columns source in
    record {
      wide = λ tables. rows-wide own (tables source);
      changed = λ tables changes. map-append (λ (x : Row × ℤ). (key_of own x.0, x.1)) (tables source) (changes source);
      bag = λ tables b. projected-bag (key_of own) (tables source) b;
      stored = λ tables s. rows-stored own (tables source) s;
    }

pub same-narrow : (columns : List SourceColumns) (tables others : Tables) → SameTables tables others → SameTables (narrowed_bags columns tables) (narrowed_bags columns others)
same-narrow columns tables others t = record {
  at = λ source. projected-respects (key_of (columns_at columns source)) (tables source) (others source) (t.at source);
}
