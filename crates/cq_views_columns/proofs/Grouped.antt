-- Conditions, items and groups of narrower rows are those of the rows.
use Rattle.std.proofs.Common.{◌≡◌, ◌↔◌, ℕ, ℤ, pos, Bool, true, ◌||◌, ◌==◌, if◌then◌else◌, List, [], ◌∷◌, ◌++◌, map, length, Option, Some, None, unwrap_or, refl, sym, ◌∙◌, ap, subst}
use Rattle.std.proofs.lemmas.Bool.{eq-eqb, or_left, or_right}
use Rattle.std.specs.List.{AllByRecursion, list_any}
use Rattle.std.specs.Option.{option_map}
use Rattle.std.specs.Ordering.{int_eq}
use Rattle.cq_values.specs.declared.value.Value.{Value}
use Rattle.cq_values.specs.declared.value.Value.TheVariants.{Null, Number}
use Rattle.cq_values.specs.Order.{same_row}
use Rattle.cq_values.specs.Truth.{is_true}
use Rattle.cq_values.specs.Value.{Row, column}
use Rattle.cq_model_bags.specs.Bag.{IsBag, Weighted, distinct_rows, filtered, once_each, projected, total}
use Rattle.cq_model_bags.specs.Join.{HasWidth}
use Rattle.cq_model_bags.proofs.Positives.{filtered-bag, projected-bag}
use Rattle.cq_model_bags.proofs.Totals.{by_test}
use Rattle.cq_model_bags.proofs.Widths.{filtered-width}
use Rattle.cq_model_laws.proofs.Counted.{extreme-counted}
use Rattle.cq_model.specs.Condition.{is_null}
use Rattle.cq_model.specs.Eval.{eval}
use Rattle.cq_model.specs.Expr.{Cond, Expr}
use Rattle.cq_model.specs.Group.{InRange, SumInRange, addend, aggregate, count_values, distinct_values, extreme_of, group_row, grouped, higher, key_of, keys_of, lower, rows_of_key, sum_values, value_bag}
use Rattle.cq_model.specs.Meaning.{ShapeInRange, items_of, keeps, shaped}
use Rattle.cq_model.specs.declared.query.Aggregate.{Aggregate}
use Rattle.cq_model.specs.declared.query.Aggregate.TheVariants.{CountAll, Count, CountDistinct, Sum, Min, Max}
use Rattle.cq_model.specs.declared.query.Shape.{Shape}
use Rattle.cq_model.specs.declared.query.Shape.TheVariants.{Plain, Grouped}
use Rattle.cq_model_terms.specs.Places.{is_one_of}
use Rattle.cq_model_terms.specs.Reads.{reads}
use Rattle.cq_views_columns.specs.Reads.{reads_argument, reads_filter, reads_shape}
use Rattle.cq_model_terms.specs.Renamed.{renamed, renamed_cond}
use Rattle.cq_views_columns.specs.Renamed.{renamed_aggregate, renamed_items, renamed_shape}
use Rattle.cq_model_terms.specs.Laws.{AreSameOn}
use Rattle.cq_model_terms.proofs.Values.{eval-renamed, holds-renamed}
use Rattle.cq_model.proofs.Extremes.{IsDownTo, IsUpTo, higher-choice, lower-choice}

-- ---- images of rows
-- what holds of rows of this width holds of each row
all-wide : (P : Row → Type 0) (n : ℕ) → ((row : Row) → length row ≡ n → P row) → (xs : Weighted) → HasWidth n xs → AllByRecursion (λ x. P x.0) xs
all-wide P n f [] w = tt
all-wide P n f (x ∷ xs) w = (f x.0 w.0, all-wide P n f xs w.1)

filtered-through : (keep also : Row → Bool) (f : Row → Row) (xs : Weighted) → AllByRecursion (λ x. keep (f x.0) ≡ also x.0) xs → filtered keep (projected f xs) ≡ projected f (filtered also xs)
filtered-through keep also f [] h = refl
filtered-through keep also f (x ∷ xs) h =
    let rest = filtered-through keep also f xs h.1 in
    by_test (also x.0) (λ k. rw (h.0, k, rest) refl) (λ k. rw (h.0, k, rest) refl)

projected-through : (g h f : Row → Row) (xs : Weighted) → AllByRecursion (λ x. g (f x.0) ≡ h x.0) xs → projected g (projected f xs) ≡ projected h xs
projected-through g h f [] a = refl
projected-through g h f (x ∷ xs) a =
    let first = a.0 in
    let rest = projected-through g h f xs a.1 in
    λ i. (first i, x.1) ∷ rest i

total-through : (g h : Row → ℤ) (f : Row → Row) (xs : Weighted) → AllByRecursion (λ x. g (f x.0) ≡ h x.0) xs → total g (projected f xs) ≡ total h xs
total-through g h f [] a = refl
total-through g h f (x ∷ xs) a = rw (a.0, total-through g h f xs a.1) refl

-- the narrower row has in its new place each column that is read
module _ (f : Row → Row) (to : ℕ → ℕ) (n : ℕ) (read : ℕ → Bool) (good : (row : Row) → length row ≡ n → AreSameOn (λ i. column (f row) (to i)) (column row) read) where
  -- these columns are read
  abbrev pub AreRead : (ℕ → Bool) → Type 0
  AreRead some = (i : ℕ) → some i ≡ true → read i ≡ true

  read-first : (a b : ℕ → Bool) → AreRead (λ i. a i || b i) → AreRead a
  read-first a b w i h = w i (or_left (a i) (b i) h)

  read-second : (a b : ℕ → Bool) → AreRead (λ i. a i || b i) → AreRead b
  read-second a b w i h = w i (or_right (a i) (b i) h)

  -- ---- one row
  eval-there : (e : Expr) → AreRead (λ i. reads i e) → (row : Row) → length row ≡ n → eval (renamed to e) (f row) ≡ eval e row
  eval-there e w row l = eval-renamed to (f row) row e (λ i h. good row l i (w i h))

  keeps-there : (condition : Option Cond) → AreRead (λ i. reads_filter i condition) → (row : Row) → length row ≡ n → keeps (option_map (renamed_cond to) condition) (f row) ≡ keeps condition row
  keeps-there None w row l = refl
  keeps-there (Some c) w row l = ap is_true (holds-renamed to (f row) row c (λ i h. good row l i (w i h)))

  items-there : (items : List Expr) → AreRead (λ i. list_any (reads i) items) → (row : Row) → length row ≡ n → items_of (map (renamed to) items) (f row) ≡ items_of items row
  items-there [] w row l = refl
  items-there (e ∷ items) w row l =
      let first = eval-there e (read-first (λ i. reads i e) (λ i. list_any (reads i) items) w) row l in
      let rest = items-there items (read-second (λ i. reads i e) (λ i. list_any (reads i) items) w) row l in
      λ i. first i ∷ rest i

  key-there : (keys : List ℕ) → AreRead (is_one_of keys) → (row : Row) → length row ≡ n → key_of (map to keys) (f row) ≡ key_of keys row
  key-there [] w row l = refl
  key-there (c ∷ keys) w row l =
      let first : column (f row) (to c) ≡ column row c = good row l c (w c (or_left (c == c) (is_one_of keys c) (eq-eqb c c refl))) in
      let rest = key-there keys (read-second (λ i. c == i) (is_one_of keys) w) row l in
      λ i. first i ∷ rest i

  -- ---- all rows
  pub filtered-narrow : (condition : Option Cond) → AreRead (λ i. reads_filter i condition) → (xs : Weighted) → HasWidth n xs
      → filtered (keeps (option_map (renamed_cond to) condition)) (projected f xs) ≡ projected f (filtered (keeps condition) xs)
  filtered-narrow condition w xs wide =
      filtered-through (keeps (option_map (renamed_cond to) condition)) (keeps condition) f xs
      (all-wide (λ row. keeps (option_map (renamed_cond to) condition) (f row) ≡ keeps condition row) n (keeps-there condition w) xs wide)

  items-narrow : (items : List Expr) → AreRead (λ i. list_any (reads i) items) → (xs : Weighted) → HasWidth n xs
      → projected (items_of (map (renamed to) items)) (projected f xs) ≡ projected (items_of items) xs
  items-narrow items w xs wide =
      projected-through (items_of (map (renamed to) items)) (items_of items) f xs
      (all-wide (λ row. items_of (map (renamed to) items) (f row) ≡ items_of items row) n (items-there items w) xs wide)

  counts-narrow : (e : Expr) → AreRead (λ i. reads i e) → (xs : Weighted) → HasWidth n xs → count_values (renamed to e) (projected f xs) ≡ count_values e xs
  counts-narrow e w xs wide =
      let counted : Value → ℤ = λ v. if is_null v then pos 0 else pos 1 in
      total-through (λ row. counted (eval (renamed to e) row)) (λ row. counted (eval e row)) f xs
      (all-wide (λ row. counted (eval (renamed to e) (f row)) ≡ counted (eval e row)) n (λ row l. ap counted (eval-there e w row l)) xs wide)

  sums-narrow : (e : Expr) → AreRead (λ i. reads i e) → (xs : Weighted) → HasWidth n xs → sum_values (renamed to e) (projected f xs) ≡ sum_values e xs
  sums-narrow e w xs wide =
      total-through (λ row. addend (eval (renamed to e) row)) (λ row. addend (eval e row)) f xs
      (all-wide (λ row. addend (eval (renamed to e) (f row)) ≡ addend (eval e row)) n (λ row l. ap addend (eval-there e w row l)) xs wide)

  values-narrow : (e : Expr) → AreRead (λ i. reads i e) → (xs : Weighted) → HasWidth n xs → value_bag (renamed to e) (projected f xs) ≡ value_bag e xs
  values-narrow e w xs wide =
      projected-through (λ row. eval (renamed to e) row ∷ []) (λ row. eval e row ∷ []) f xs
      (all-wide (λ row. (eval (renamed to e) (f row) ∷ []) ≡ (eval e row ∷ [])) n (λ row l. ap (λ v. v ∷ []) (eval-there e w row l)) xs wide)

  -- an aggregate of a bag of rows
  aggregate-narrow : (a : Aggregate) → AreRead (λ i. reads_argument i a) → (xs : Weighted) → HasWidth n xs → IsBag xs → aggregate (renamed_aggregate to a) (projected f xs) ≡ aggregate a xs
  aggregate-narrow CountAll w xs wide b =
      ap Number (total-through (λ row. pos 1) (λ row. pos 1) f xs (all-wide (λ row. pos 1 ≡ pos 1) n (λ row l. refl) xs wide))
  aggregate-narrow (Count e) w xs wide b = ap Number (counts-narrow e w xs wide)
  aggregate-narrow (CountDistinct e) w xs wide b = ap (λ (values : Weighted). Number (pos (length (distinct_values values)))) (values-narrow e w xs wide)
  aggregate-narrow (Sum e) w xs wide b =
      let counts = counts-narrow e w xs wide in
      let sums = sums-narrow e w xs wide in
      λ i. if int_eq (counts i) (pos 0) then Null else Number (sums i)
  aggregate-narrow (Min e) w xs wide b =
      extreme-counted (renamed to e) (projected f xs) (projected-bag f xs b) lower IsUpTo lower-choice
      ∙ ap (extreme_of lower) (values-narrow e w xs wide) ∙ sym (extreme-counted e xs b lower IsUpTo lower-choice)
  aggregate-narrow (Max e) w xs wide b =
      extreme-counted (renamed to e) (projected f xs) (projected-bag f xs b) higher IsDownTo higher-choice
      ∙ ap (extreme_of higher) (values-narrow e w xs wide) ∙ sym (extreme-counted e xs b higher IsDownTo higher-choice)

  aggregates-narrow : (aggregates : List Aggregate) → AreRead (λ i. list_any (reads_argument i) aggregates) → (xs : Weighted) → HasWidth n xs → IsBag xs
      → map (λ a. aggregate a (projected f xs)) (map (renamed_aggregate to) aggregates) ≡ map (λ a. aggregate a xs) aggregates
  aggregates-narrow [] w xs wide b = refl
  aggregates-narrow (a ∷ aggregates) w xs wide b =
      let first = aggregate-narrow a (read-first (λ i. reads_argument i a) (λ i. list_any (reads_argument i) aggregates) w) xs wide b in
      let rest = aggregates-narrow aggregates (read-second (λ i. reads_argument i a) (λ i. list_any (reads_argument i) aggregates) w) xs wide b in
      λ i. first i ∷ rest i

  -- ---- groups
  keys-narrow : (keys : List ℕ) → AreRead (is_one_of keys) → (xs : Weighted) → HasWidth n xs → keys_of (map to keys) (projected f xs) ≡ keys_of keys xs
  keys-narrow keys w xs wide =
      ap distinct_rows (projected-through (key_of (map to keys)) (key_of keys) f xs
      (all-wide (λ row. key_of (map to keys) (f row) ≡ key_of keys row) n (key-there keys w) xs wide))

  rows-narrow : (keys : List ℕ) → AreRead (is_one_of keys) → (k : Row) (xs : Weighted) → HasWidth n xs → rows_of_key (map to keys) k (projected f xs) ≡ projected f (rows_of_key keys k xs)
  rows-narrow keys w k xs wide =
      filtered-through (λ row. same_row (key_of (map to keys) row) k) (λ row. same_row (key_of keys row) k) f xs
      (all-wide (λ row. same_row (key_of (map to keys) (f row)) k ≡ same_row (key_of keys row) k) n (λ row l. ap (λ (key : Row). same_row key k) (key-there keys w row l)) xs wide)

  group-wide : (keys : List ℕ) (k : Row) (xs : Weighted) → HasWidth n xs → HasWidth n (rows_of_key keys k xs)
  group-wide keys k xs wide = filtered-width n (λ row. same_row (key_of keys row) k) xs wide

  group-bag : (keys : List ℕ) (k : Row) (xs : Weighted) → IsBag xs → IsBag (rows_of_key keys k xs)
  group-bag keys k xs b = filtered-bag (λ row. same_row (key_of keys row) k) xs b

  grouped-narrow : (keys : Option (List ℕ)) (aggregates : List Aggregate) → AreRead (is_one_of (unwrap_or keys [])) → AreRead (λ i. list_any (reads_argument i) aggregates)
      → (xs : Weighted) → HasWidth n xs → IsBag xs → grouped (option_map (map to) keys) (map (renamed_aggregate to) aggregates) (projected f xs) ≡ grouped keys aggregates xs
  grouped-narrow None aggregates v w xs wide b = ap (λ (vs : Row). once_each (vs ∷ [])) (aggregates-narrow aggregates w xs wide b)
  grouped-narrow (Some keys) aggregates v w xs wide b =
      let row : (k : Row) → group_row (map (renamed_aggregate to) aggregates) k (rows_of_key (map to keys) k (projected f xs)) ≡ group_row aggregates k (rows_of_key keys k xs) = λ k.
      ap (group_row (map (renamed_aggregate to) aggregates) k) (rows-narrow keys v k xs wide)
      ∙ ap (λ (vs : Row). k ++ vs) (aggregates-narrow aggregates w (rows_of_key keys k xs) (group-wide keys k xs wide) (group-bag keys k xs b)) in
      let are = keys-narrow keys v xs wide in
      λ i. once_each (map (λ k. row k i) (are i))

  -- what is shown of joined rows
  pub shown-narrow : (shape : Shape) (items : List Expr) → AreRead (λ i. reads_shape i shape items) → (xs : Weighted) → HasWidth n xs → IsBag xs
      → projected (items_of (renamed_items to shape items)) (shaped (renamed_shape to shape) (projected f xs)) ≡ projected (items_of items) (shaped shape xs)
  shown-narrow Plain items w xs wide b = items-narrow items w xs wide
  shown-narrow (Grouped keys aggregates having) items w xs wide b =
      ap (λ (zs : Weighted). projected (items_of items) (filtered (keeps having) zs))
      (grouped-narrow keys aggregates (read-first (is_one_of (unwrap_or keys [])) (λ i. list_any (reads_argument i) aggregates) w)
      (read-second (is_one_of (unwrap_or keys [])) (λ i. list_any (reads_argument i) aggregates) w) xs wide b)

  -- ---- totals
  sum-range : (a : Aggregate) → AreRead (λ i. reads_argument i a) → (xs : Weighted) → HasWidth n xs → SumInRange (renamed_aggregate to a) (projected f xs) ↔ SumInRange a xs
  sum-range CountAll w xs wide = (λ h. tt, λ h. tt)
  sum-range (Count e) w xs wide = (λ h. tt, λ h. tt)
  sum-range (CountDistinct e) w xs wide = (λ h. tt, λ h. tt)
  sum-range (Sum e) w xs wide = (subst InRange (sums-narrow e w xs wide), subst InRange (sym (sums-narrow e w xs wide)))
  sum-range (Min e) w xs wide = (λ h. tt, λ h. tt)
  sum-range (Max e) w xs wide = (λ h. tt, λ h. tt)

  sums-range : (aggregates : List Aggregate) → AreRead (λ i. list_any (reads_argument i) aggregates) → (xs : Weighted) → HasWidth n xs
      → AllByRecursion (λ a. SumInRange a (projected f xs)) (map (renamed_aggregate to) aggregates) ↔ AllByRecursion (λ a. SumInRange a xs) aggregates
  sums-range [] w xs wide = (λ h. tt, λ h. tt)
  sums-range (a ∷ aggregates) w xs wide =
      let first = sum-range a (read-first (λ i. reads_argument i a) (λ i. list_any (reads_argument i) aggregates) w) xs wide in
      let rest = sums-range aggregates (read-second (λ i. reads_argument i a) (λ i. list_any (reads_argument i) aggregates) w) xs wide in
      (λ h. (first.0 h.0, rest.0 h.1), λ h. (first.1 h.0, rest.1 h.1))

  -- both ways for each of a list
  each-way : (P Q : Row → Type 0) → ((k : Row) → P k ↔ Q k) → (ks : List Row) → AllByRecursion P ks ↔ AllByRecursion Q ks
  each-way P Q same [] = (λ h. tt, λ h. tt)
  each-way P Q same (k ∷ ks) =
      let rest = each-way P Q same ks in
      (λ h. ((same k).0 h.0, rest.0 h.1), λ h. ((same k).1 h.0, rest.1 h.1))

  pub shape-range : (shape : Shape) (items : List Expr) → AreRead (λ i. reads_shape i shape items) → (xs : Weighted) → HasWidth n xs
      → ShapeInRange (renamed_shape to shape) (projected f xs) ↔ ShapeInRange shape xs
  shape-range Plain items w xs wide = (λ h. tt, λ h. tt)
  shape-range (Grouped None aggregates having) items w xs wide =
      sums-range aggregates (read-second (is_one_of []) (λ i. list_any (reads_argument i) aggregates) w) xs wide
  shape-range (Grouped (Some keys) aggregates having) items w xs wide =
      let new = map (renamed_aggregate to) aggregates in
      let v = read-first (is_one_of keys) (λ i. list_any (reads_argument i) aggregates) w in
      let u = read-second (is_one_of keys) (λ i. list_any (reads_argument i) aggregates) w in
      let before : Row → Type 0 = λ k. AllByRecursion (λ a. SumInRange a (rows_of_key (map to keys) k (projected f xs))) new in
      let after : Row → Type 0 = λ k. AllByRecursion (λ a. SumInRange a (rows_of_key keys k xs)) aggregates in
      let same : (k : Row) → before k ↔ after k = λ k.
      let rows = rows-narrow keys v k xs wide in
      let way = sums-range aggregates u (rows_of_key keys k xs) (group-wide keys k xs wide) in
      (λ h. way.0 (subst (λ (zs : Weighted). AllByRecursion (λ a. SumInRange a zs) new) rows h), λ h. subst (λ (zs : Weighted). AllByRecursion (λ a. SumInRange a zs) new) (sym rows) (way.1 h)) in
      let are = keys-narrow keys v xs wide in
      let both = each-way before after same (keys_of keys xs) in
      (λ h. both.0 (subst (AllByRecursion before) are h), λ h. subst (AllByRecursion before) (sym are) (both.1 h))
