-- Stored rows in the order of some columns.
use Rattle.std.proofs.Common.{◌≡◌, ◌∙◌, ℕ, ◌+◌, Bool, List, [], ◌∷◌, filter, refl, sym, ap, ap₂, arith}
use Rattle.std.specs.Cmp.{IsTotalOrder}
use Rattle.std.specs.List.Sorted.{IsSorted, IsSortedBy, IsStable, IsStableBy, ties}
use Rattle.std.specs.Ordering.{is_lt}
use Rattle.std.proofs.lemmas.Cmp.{on_total, then_total}
use Rattle.std.proofs.lemmas.List.{get_or-map, length-map}
use Rattle.cq_model_bags.proofs.Totals.{by_test}
use Rattle.cq_values.specs.Keys.{value_cmp_total}
use Rattle.cq_values.specs.Value.{Row, column}
use Rattle.cq_segments_pieces.specs.Rows.{row_of, stored_rows}
use Rattle.cq_segments.specs.Sorted.{columns_cmp}
use Rattle.cq_segments_pieces.specs.declared.stored_row.StoredRow.{StoredRow}
use Rattle.cq_segments_pieces.specs.declared.stored_row.StoredRow.TheVariants as stored

-- the order of the columns is total
pub columns_cmp_total : (sort : List ℕ) → IsTotalOrder (columns_cmp sort)
columns_cmp_total [] = record { antisymm = λ x y. refl; trans = λ x y z a b. absurd (cc a); congr = λ x y z e. refl }
columns_cmp_total (at ∷ sort) = then_total (on_total (λ r. column r at) value_cmp_total) (columns_cmp_total sort)

-- of two stored rows the first comes first
abbrev pub stored_lt : List ℕ → StoredRow → StoredRow → Bool
stored_lt sort a b = is_lt (columns_cmp sort (row_of a) (row_of b))

-- a row that stands alone
abbrev alone : Row → StoredRow
alone r = stored.Alone (record { ref_ptr = (0, 0); now = r })

-- stored rows in order are in order
pub sorted-stored : (sort : List ℕ) (rows : List StoredRow) → IsSortedBy (stored_lt sort) rows → IsSorted (columns_cmp sort) (stored_rows rows)
sorted-stored sort rows sorted k d low high =
    let count = length-map rows row_of in
    let next = get_or-map row_of rows (k + 1) (alone d) d (omega (arith, high, count)) in
    let here = get_or-map row_of rows k (alone d) d (omega (arith, high, count)) in
    ap₂ (λ r s. is_lt (columns_cmp sort r s)) next here ∙ sorted k (alone d) low (omega (arith, high, count))

-- a test of the row keeps the same of stored rows
filter-stored : (keep : Row → Bool) (rows : List StoredRow) → filter keep (stored_rows rows) ≡ stored_rows (filter (λ s. keep (row_of s)) rows)
filter-stored keep [] = refl
filter-stored keep (s ∷ rows) = by_test (keep (row_of s)) (λ e. rw (e, filter-stored keep rows) refl) (λ e. rw (e, filter-stored keep rows) refl)

-- and ties stay as given
pub stable-stored : (sort : List ℕ) (rows sorted : List StoredRow) → IsStableBy (stored_lt sort) rows sorted → IsStable (columns_cmp sort) (stored_rows rows) (stored_rows sorted)
stable-stored sort rows sorted stable r =
    let keep = λ (s : Row). ties (λ x y. is_lt (columns_cmp sort x y)) r s in
    filter-stored keep sorted ∙ ap stored_rows (stable (alone r)) ∙ sym (filter-stored keep rows)
