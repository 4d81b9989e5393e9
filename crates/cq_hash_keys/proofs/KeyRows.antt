-- The keys at the places of columns, one column behind the other; and the first of each row.
use Rattle.std.proofs.Common.{◌≡◌, ℕ, not, cond, ◌||◌, List, [], ◌∷◌, ◌++◌, map, filter, length, refl, sym, ◌∙◌, ap, ap₂}
use Rattle.std.specs.List.{AllByRecursion, IsDistinct, list_any, range_with_len, zip}
use Rattle.std.proofs.lemmas.List.{append-nil, append_assoc, map-append}
use Rattle.std.proofs.lemmas.List.FromFn.{fill_by_all}
use Rattle.indexmap.specs.IndexSet.{insert_key}
use Rattle.cq_values.specs.declared.value.Value.{Value}
use Rattle.cq_values.specs.declared.value.Value.TheVariants.{Null}
use Rattle.cq_values.specs.Keys.{same_row-equiv}
use Rattle.cq_values.specs.Order.{same_row}
use Rattle.cq_values.specs.Value.{Row, column}
use Rattle.cq_model_bags.specs.Bag.{firsts}
use Rattle.cq_model_bags.proofs.Distincts.{is_among, is_among-firsts}
use Rattle.cq_model_bags.proofs.Once.{firsts-push, kept-apart}
use Rattle.cq_vectors.specs.Batch.{row_at}
use Rattle.cq_hash_keys.specs.Keys.{HasLength, key_rows}
use Rattle.cq_hash_keys_values.specs.Met.{with_new}
use Rattle.cq_hash_keys.specs.Stages.{behind, rows_with, singles}

-- ---- the first of each row
either-way : (r : Row) (rows : List Row) → list_any (same_row r) rows ≡ is_among r rows
either-way r [] = refl
either-way r (q ∷ rows) = ap₂ (λ a b. a || b) (same_row-equiv.symm r q) (either-way r rows)

-- the next row goes last, unless it was met
firsts-next : (rows : List Row) (r : Row) → insert_key same_row (firsts rows) r ≡ firsts (rows ++ r ∷ [])
firsts-next rows r =
    ap (λ b. cond b (firsts rows) (firsts rows ++ r ∷ [])) (either-way r (firsts rows) ∙ is_among-firsts rows r)
    ∙ sym (firsts-push rows r)

firsts-more : (rows more : List Row) → with_new same_row (firsts rows) more ≡ firsts (rows ++ more)
firsts-more rows [] = sym (ap firsts (append-nil rows))
firsts-more rows (r ∷ more) =
    ap (λ (rs : List Row). with_new same_row rs more) (firsts-next rows r) ∙ firsts-more (rows ++ r ∷ []) more ∙ ap firsts (append_assoc rows (r ∷ []) more)

-- rows of which no two are the same are their first ones
firsts-once : (rows : List Row) → IsDistinct same_row rows → firsts rows ≡ rows
unfolding IsDistinct
firsts-once [] once = refl
firsts-once (r ∷ rows) once =
    ap (λ rs. r ∷ filter (λ s. not (same_row r s)) rs) (firsts-once rows once.1)
    ∙ ap (λ rs. r ∷ rs) (kept-apart r rows once.0)

-- what is new goes behind rows that are there once each
pub new-firsts : (rows more : List Row) → IsDistinct same_row rows → with_new same_row rows more ≡ firsts (rows ++ more)
new-firsts rows more once = ap (λ (rs : List Row). with_new same_row rs more) (sym (firsts-once rows once)) ∙ firsts-more rows more

-- ---- rows of columns
zip-maps : {X Y Z : Type 0} (f : X → Y) (g : X → Z) (xs : List X) → zip (map f xs) (map g xs) ≡ map (λ x. (f x, g x)) xs
zip-maps f g [] = refl
zip-maps f g (x ∷ xs) = ap (λ ps. (f x, g x) ∷ ps) (zip-maps f g xs)

module _ (len : ℕ) where
  -- a column is its values at each place
  placed : (values : List Value) → length values ≡ len → values ≡ map (column values) (range_with_len 0 len)
  placed values long = fill_by_all (column values) values len Null long (λ k lt. refl)

  pub one-column : (values : List Value) → length values ≡ len → singles values ≡ key_rows len (values ∷ [])
  one-column values long = ap singles (placed values long) ∙ maps (range_with_len 0 len)
    where
      maps : (places : List ℕ) → singles (map (column values) places) ≡ map (row_at (values ∷ [])) places
      maps [] = refl
      maps (place ∷ places) = ap (λ (rs : List Row). (column values place ∷ []) ∷ rs) (maps places)

  behind-column : (columns : List (List Value)) (values : List Value) → length values ≡ len → behind (key_rows len columns) values ≡ key_rows len (columns ++ values ∷ [])
  behind-column columns values long =
      ap (behind (key_rows len columns)) (placed values long)
      ∙ ap (map (λ (next : Row × Value). next.0 ++ next.1 ∷ [])) (zip-maps (row_at columns) (column values) (range_with_len 0 len))
      ∙ maps (range_with_len 0 len)
    where
      maps : (places : List ℕ) → map (λ (next : Row × Value). next.0 ++ next.1 ∷ []) (map (λ place. (row_at columns place, column values place)) places) ≡ map (row_at (columns ++ values ∷ [])) places
      maps [] = refl
      maps (place ∷ places) =
          ap₂ (λ (r : Row) (rs : List Row). r ∷ rs) (sym (map-append (λ (vs : List Value). column vs place) columns (values ∷ []))) (maps places)

  pub rows-with : (done columns : List (List Value)) → AllByRecursion (HasLength len) columns → rows_with (key_rows len done) columns ≡ key_rows len (done ++ columns)
  rows-with done [] long = ap (key_rows len) (sym (append-nil done))
  rows-with done (values ∷ columns) long =
      ap (λ (rs : List Row). rows_with rs columns) (behind-column done values long.0)
      ∙ rows-with (done ++ values ∷ []) columns long.1
      ∙ ap (key_rows len) (append_assoc done (values ∷ []) columns)

  -- the keys of some columns, from those of the first
  pub all-columns : (values : List Value) (columns : List (List Value)) → AllByRecursion (HasLength len) (values ∷ columns) → rows_with (singles values) columns ≡ key_rows len (values ∷ columns)
  all-columns values columns long = ap (λ (rs : List Row). rows_with rs columns) (one-column values long.0) ∙ rows-with (values ∷ []) columns long.1
