-- The places of a batch whose rows may be shown, as their first key tells.
use Rattle.std.specs.Prelude.{◌≡◌, ◌<◌, ℕ, ℤ, Bool, true, false, not, List, [], ◌∷◌, filter, length, map, Option, IfSome, Vec}
use Rattle.std.specs.Global.{Global}
use Rattle.std.specs.List.{All}
use Rattle.std.specs.Ordering.{is_gt}
use Rattle.cq_values.specs.declared.value.Value.{Value}
use Rattle.cq_values.specs.declared.value.Value.TheVariants.{Number}
use Rattle.cq_values.specs.Value.{column, is_null}
use Rattle.cq_values.specs.declared.truth.Truth.{Truth}
use Rattle.cq_model_bags.specs.declared.sort_key.SortKey.{SortKey}
use Rattle.cq_model_bags.specs.Listing.{directed}
use Rattle.cq_vectors_masks.specs.Selection.{where_true}
use Rattle.cq_vectors.specs.Batch.{row_at, rows_of}
use Rattle.cq_vectors.specs.declared.batch.Batch.{Batch}
use Rattle.cq_operators_listing.specs.Stored.{StoredListing, Suffice}

-- the key that is compared first; without ORDER BY it is the first column
abbrev pub first_key : List SortKey → SortKey
first_key [] = record { column = 0; descending = false }
first_key (k ∷ ks) = k

-- the value at a place stands behind this one
abbrev pub is_behind : Bool → List Value → Value → ℕ → Bool
is_behind descending values worst place = is_gt (directed descending (column values place) worst)

-- the places whose value does not
abbrev pub places_before : Bool → List Value → Value → List ℕ → List ℕ
places_before descending values worst places = filter (λ place. not (is_behind descending values worst place)) places

-- past a column's end no truth is told: these tell of all places, or no NULL stands before the worst value
abbrev pub CanTell : Bool → List Value → Value → List ℕ → Type 0
CanTell true values worst places = All (λ place. place < length values) places
CanTell false values worst places = is_null worst ≡ false

-- the truths are True at the places whose value does not stand behind this one
abbrev pub TellBefore : Bool → List Value → Value → List Truth → Type 0
TellBefore descending values worst truths =
    (places : List ℕ) → CanTell descending values worst places → where_true truths places ≡ places_before descending values worst places

-- of the batch's rows it suffices to make those at these places
abbrev pub ArePlaces : StoredListing → Batch → List ℕ → Type 0
ArePlaces listing batch places = Suffice listing (map (row_at batch.columns.items) places) (rows_of batch)

-- the numbers of a column at places, if each of these is one of a number
abbrev pub AreNumbersAt : List ℤ → List ℕ → Option (Vec ℤ Global) → Type 0
AreNumbersAt numbers places found = IfSome found (λ copies. map Number copies.items ≡ map (column (map Number numbers)) places)
