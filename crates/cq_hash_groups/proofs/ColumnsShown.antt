-- The rows of groups from one on are those of their columns.
use Rattle.std.proofs.Common.{◌≡◌, ◌∙◌, ℕ, ◌+◌, ◌<◌, ◌≤◌, ◌⊎◌, inl, inr, List, [], ◌∷◌, ◌++◌, ap, ap₂, arith, get_or, length, map, refl, subst, sym, take}
use Rattle.std.specs.List.{AllByRecursion, range_with_len}
use Rattle.std.proofs.lemmas.Bool.{cases_lt}
use Rattle.std.proofs.lemmas.List.{append_assoc, ext_get_or, map-append, take_more}
use Rattle.std.proofs.lemmas.List.Elements.{All-from_recursion}
use Rattle.std.proofs.lemmas.List.FromFn.{fill_by_all, get_or-map-range_with_len, length-map-range_with_len, map-range_with_len_more}
use Rattle.cq_values.specs.declared.value.Value.{Value}
use Rattle.cq_values.specs.declared.value.Value.TheVariants.{Null}
use Rattle.cq_values.specs.Value.{Row, column as column_at}
use Rattle.cq_model_bags.proofs.Lists.{all-append}
use Rattle.cq_segments_pieces.specs.Columns.{AreColumns, rows_of_columns}
use Rattle.cq_vectors.specs.Batch.{row_at}
use Rattle.cq_hash_keys.specs.Keys.{HasValues, key_at}
use Rattle.cq_hash_groups_slots.specs.declared.slots.Slots.{Slots}
use Rattle.cq_hash_groups_slots.specs.Slots.{shown_at}
use Rattle.cq_hash_groups.specs.Groups.{shown_row}
use Rattle.cq_hash_groups.specs.Shown.{ForGroups, keys_from, of_groups, rows_from, shown_from}

-- what holds of so many groups and of the next one
pub for-next : (P : ℕ → Type 0) (start len : ℕ) → ForGroups P start len → P (start + len) → ForGroups P start (len + 1)
for-next P start len so_far next group from to = by_place (cases_lt group (start + len))
  where
    by_place : (group < start + len) ⊎ (start + len ≤ group) → P group
    by_place (inl before) = so_far group from before
    by_place (inr past) = let is : start + len ≡ group = omega (arith, past, to) in subst P is next

-- the columns of the keys, and those of the aggregates
abbrev pub key_columns : ℕ → List Row → ℕ → ℕ → List (List Value)
key_columns width keys start len = map (λ (column : ℕ). keys_from keys column start len) (range_with_len 0 width)

abbrev pub slot_columns : List Slots → ℕ → ℕ → List (List Value)
slot_columns slots start len = map (λ (s : Slots). shown_from s start len) slots

abbrev pub shown_columns : ℕ → List Row → List Slots → ℕ → ℕ → List (List Value)
shown_columns width keys slots start len = key_columns width keys start len ++ slot_columns slots start len

-- a column more of the keys, and of the aggregates
pub keys-next : (width : ℕ) (keys : List Row) (start len : ℕ) → key_columns (width + 1) keys start len ≡ key_columns width keys start len ++ keys_from keys width start len ∷ []
keys-next width keys start len = map-range_with_len_more (λ (column : ℕ). keys_from keys column start len) 0 width width (omega arith)

pub slots-next : (width : ℕ) (keys : List Row) (slots : List Slots) (i : ℕ) (each : Slots) (start len : ℕ) → i < length slots → each ≡ get_or slots i each
    → shown_columns width keys (take (i + 1) slots) start len ≡ shown_columns width keys (take i slots) start len ++ shown_from each start len ∷ []
slots-next width keys slots i each start len lt is =
    let next : take (i + 1) slots ≡ take i slots ++ each ∷ [] = take_more slots i each lt ∙ ap (λ (s : Slots). take i slots ++ s ∷ []) (sym is) in
    ap (λ (ss : List Slots). shown_columns width keys ss start len) next
    ∙ ap (λ (vs : List (List Value)). key_columns width keys start len ++ vs) (map-append (λ (s : Slots). shown_from s start len) (take i slots) (each ∷ []))
    ∙ sym (append_assoc (key_columns width keys start len) (slot_columns (take i slots) start len) (shown_from each start len ∷ []))

module _ {X : Type 0} (f : X → ℕ → Value) (start len : ℕ) where
  abbrev each : List X → List (List Value)
  each xs = map (λ (x : X). of_groups (f x) start len) xs

  at-place : (xs : List X) (place : ℕ) → place < len → row_at (each xs) place ≡ map (λ (x : X). f x (start + place)) xs
  at-place [] place lt = refl
  at-place (x ∷ xs) place lt = ap₂ (λ (v : Value) (vs : Row). v ∷ vs) (get_or-map-range_with_len (f x) start len place (start + place) Null lt refl) (at-place xs place lt)

  each-long : (xs : List X) → AllByRecursion (λ (values : List Value). length values ≡ len) (each xs)
  each-long [] = tt
  each-long (x ∷ xs) = (length-map-range_with_len (f x) start len, each-long xs)

-- a row has the values of its columns
row-values : (row : Row) (width : ℕ) → HasValues width row → map (column_at row) (range_with_len 0 width) ≡ row
row-values row width wide = sym (fill_by_all (column_at row) row width Null wide (λ k lt. refl))

module _ (width : ℕ) (keys : List Row) (slots : List Slots) (start len : ℕ) where
  abbrev columns : List (List Value)
  columns = shown_columns width keys slots start len

  row-shown : (place : ℕ) → place < len → HasValues width (key_at keys (start + place)) → row_at columns place ≡ shown_row (key_at keys (start + place)) (start + place) slots
  row-shown place lt wide =
      map-append (λ (values : List Value). column_at values place) (key_columns width keys start len) (slot_columns slots start len)
      ∙ ap₂ (λ (vs ws : Row). vs ++ ws)
      (at-place (λ (column group : ℕ). column_at (key_at keys group) column) start len (range_with_len 0 width) place lt ∙ row-values (key_at keys (start + place)) width wide)
      (at-place (λ (s : Slots) (group : ℕ). shown_at group s) start len slots place lt)

  -- the rows of the columns are those of the groups
  pub rows-shown : ForGroups (λ group. HasValues width (key_at keys group)) start len → rows_of_columns columns len ≡ rows_from keys slots start len
  rows-shown wide =
      let shown : ℕ → Row = λ group. shown_row (key_at keys group) group slots in
      let long : length (rows_of_columns columns len) ≡ len = length-map-range_with_len (row_at columns) 0 len in
      ext_get_or [] (rows_of_columns columns len) (rows_from keys slots start len) (long ∙ sym (length-map-range_with_len shown start len))
      (λ k below.
      let lt : k < len = omega (arith, below, long) in
      get_or-map-range_with_len (row_at columns) 0 len k k [] lt (omega arith)
      ∙ row-shown k lt (wide (start + k) (omega arith) (omega (arith, lt)))
      ∙ sym (get_or-map-range_with_len shown start len k (start + k) [] lt refl))

  -- and each column has a value of each group
  pub columns-long : AllByRecursion (λ (values : List Value). length values ≡ len) columns
  columns-long =
      all-append (λ (values : List Value). length values ≡ len) (key_columns width keys start len) (slot_columns slots start len)
      (each-long (λ (column group : ℕ). column_at (key_at keys group) column) start len (range_with_len 0 width))
      (each-long (λ (s : Slots) (group : ℕ). shown_at group s) start len slots)

-- so they can be those of a piece
pub are-columns : (columns : List (List Value)) → AllByRecursion (λ (values : List Value). length values ≡ 1024) columns → AreColumns columns 1024
are-columns columns long = record {
  some = omega arith;
  few = omega arith;
  long = All-from_recursion (λ (values : List Value). length values ≡ 1024) columns long;
}
