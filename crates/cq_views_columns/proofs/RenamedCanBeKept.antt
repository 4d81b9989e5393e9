-- A query whose columns are renamed is kept as the whole one is, and its columns have the same sizes.
use Rattle.std.proofs.Common.{◌≡◌, ℕ, zero, suc, ◌+◌, ◌<◌, Bool, true, false, ◌||◌, List, [], ◌∷◌, ◌++◌, map, slice_index_or, Option, Some, None, unwrap_or, refl, sym, ap, subst, arith}
use Rattle.std.proofs.lemmas.Bool.{eqb-true}
use Rattle.std.specs.List.{AllByRecursion, list_any, range_with_len}
use Rattle.std.specs.Option.{option_map}
use Rattle.std.proofs.lemmas.List.FromFn.{get_or-map-range_with_len}
use Rattle.cq_values.specs.declared.value.Value.TheVariants.{Null}
use Rattle.cq_values.specs.Value.{Row, column}
use Rattle.cq_model.specs.Sizes.{IsArgumentNarrow, IsNarrowOnStored, IsStored, column_sizes, row_size, shown_size, stored_size}
use Rattle.cq_model.specs.Expr.{Expr, Column, Literal, Negate, Plus, Times, Extract, Cond, Compare, IsNull, Between, In, Like, Not, And, Or}
use Rattle.cq_model.specs.Views.{sources_of}
use Rattle.cq_model.specs.Width.{Extent, number_limit, sizes_of, value_size, widest, widest_in, width}
use Rattle.cq_model.specs.declared.query.Aggregate.{Aggregate}
use Rattle.cq_model.specs.declared.query.Aggregate.TheVariants.{CountAll, Count, CountDistinct, Sum, Min, Max}
use Rattle.cq_model.specs.declared.query.Join.{Join}
use Rattle.cq_model.specs.declared.query.Query.{Query}
use Rattle.cq_model.specs.declared.query.Shape.{Shape}
use Rattle.cq_model.specs.declared.query.Shape.TheVariants.{Plain, Grouped}
use Rattle.cq_model.specs.declared.query.Source.{Source}
use Rattle.cq_views_model.specs.Query.{CanBeKept, HasNoHaving, IsTable, aggregates_in}
use Rattle.cq_views_columns.specs.Narrow.{renamed_join, renamed_query}
use Rattle.cq_model_terms.specs.Places.{place_in}
use Rattle.cq_model_terms.specs.Reads.{reads, reads_in}
use Rattle.cq_model_terms.specs.Renamed.{renamed, renamed_cond}
use Rattle.cq_views_columns.specs.Renamed.{renamed_aggregate, renamed_items, renamed_shape}
use Rattle.cq_model_terms.proofs.Values.{widest-renamed, width-renamed}

-- ---- columns that are named
-- a number that no column of an expression reaches
abbrev top : Expr → ℕ
top (Column i) = suc i
top (Literal v) = 0
top (Negate e) = top e
top (Plus a b) = top a + top b
top (Times a b) = top a + top b
top (Extract part e) = top e

abbrev tops : List Expr → ℕ
tops [] = 0
tops (e ∷ es) = top e + tops es

abbrev top_in : Cond → ℕ
top_in (Compare c a b) = top a + top b
top_in (IsNull e) = top e
top_in (Between e a b) = top e + (top a + top b)
top_in (In e es) = top e + tops es
top_in (Like e pattern) = top e
top_in (Not c) = top_in c
top_in (And a b) = top_in a + top_in b
top_in (Or a b) = top_in a + top_in b

-- of two one holds
either-below : (a b : Bool) (i m n : ℕ) → a || b ≡ true → (a ≡ true → i < m) → (b ≡ true → i < n) → i < m + n
either-below true b i m n h f g = omega (arith, f refl)
either-below false b i m n h f g = omega (arith, g h)

below-top : (i : ℕ) (e : Expr) → reads i e ≡ true → i < top e
below-top i (Column k) h = omega (arith, eqb-true k i h)
below-top i (Literal v) h = absurd (cc)
below-top i (Negate e) h = below-top i e h
below-top i (Plus a b) h = either-below (reads i a) (reads i b) i (top a) (top b) h (below-top i a) (below-top i b)
below-top i (Times a b) h = either-below (reads i a) (reads i b) i (top a) (top b) h (below-top i a) (below-top i b)
below-top i (Extract part e) h = below-top i e h

below-tops : (i : ℕ) (es : List Expr) → list_any (reads i) es ≡ true → i < tops es
below-tops i [] h = absurd (cc)
below-tops i (e ∷ es) h = either-below (reads i e) (list_any (reads i) es) i (top e) (tops es) h (below-top i e) (below-tops i es)

below-top_in : (i : ℕ) (c : Cond) → reads_in i c ≡ true → i < top_in c
below-top_in i (Compare c a b) h = either-below (reads i a) (reads i b) i (top a) (top b) h (below-top i a) (below-top i b)
below-top_in i (IsNull e) h = below-top i e h
below-top_in i (Between e a b) h =
    either-below (reads i e) (reads i a || reads i b) i (top e) (top a + top b) h (below-top i e)
    (λ k. either-below (reads i a) (reads i b) i (top a) (top b) k (below-top i a) (below-top i b))
below-top_in i (In e es) h = either-below (reads i e) (list_any (reads i) es) i (top e) (tops es) h (below-top i e) (below-tops i es)
below-top_in i (Like e pattern) h = below-top i e h
below-top_in i (Not c) h = below-top_in i c h
below-top_in i (And a b) h = either-below (reads_in i a) (reads_in i b) i (top_in a) (top_in b) h (below-top_in i a) (below-top_in i b)
below-top_in i (Or a b) h = either-below (reads_in i a) (reads_in i b) i (top_in a) (top_in b) h (below-top_in i a) (below-top_in i b)

-- ---- rows
module _ (to : ℕ → ℕ) (row : Row) where
  -- the row that has in so many places what the narrower one has in their new places
  abbrev spread : ℕ → ℕ → Row
  spread a n = map (λ i. column row (to i)) (range_with_len a n)

  spread-column : (n i : ℕ) → i < n → column (spread 0 n) i ≡ column row (to i)
  spread-column n i h = get_or-map-range_with_len (λ i. column row (to i)) 0 n i i Null h (omega arith)

  spread-stored : (a n : ℕ) → IsStored row → IsStored (spread a n)
  spread-stored a zero stored i = omega arith
  spread-stored a (suc n) stored zero = stored (to a)
  spread-stored a (suc n) stored (suc i) = spread-stored (a + 1) n stored i

-- a condition that is narrow on stored rows is so when it is renamed
narrow-renamed : (to : ℕ → ℕ) (condition : Option Cond) → IsNarrowOnStored condition → IsNarrowOnStored (option_map (renamed_cond to) condition)
narrow-renamed to None narrow row stored = tt
narrow-renamed to (Some c) narrow row stored =
    let whole = spread to row 0 (top_in c) in
    let same : widest_in (renamed_cond to c) (sizes_of row) ≡ widest_in c (sizes_of whole) =
    widest-renamed to (sizes_of row) (sizes_of whole) c (λ i h. ap value_size (sym (spread-column to row (top_in c) i (below-top_in i c h)))) in
    subst (λ (n : ℕ). n < number_limit) (sym same) (narrow whole (spread-stored to row 0 (top_in c) stored))

-- ---- sizes
module _ (to : ℕ → ℕ) where
  -- over stored rows an expression is as wide
  width-stored : (e : Expr) → width (renamed to e) (λ i. stored_size) ≡ width e (λ i. stored_size)
  width-stored e = width-renamed to (λ i. stored_size) (λ i. stored_size) e (λ i h. refl)

  shown-stored : (a : Aggregate) → shown_size (renamed_aggregate to a) ≡ shown_size a
  shown-stored CountAll = refl
  shown-stored (Count e) = refl
  shown-stored (CountDistinct e) = refl
  shown-stored (Sum e) = refl
  shown-stored (Min e) = ap (λ (x : Extent). x.size) (width-stored e)
  shown-stored (Max e) = ap (λ (x : Extent). x.size) (width-stored e)

  all-shown : (aggregates : List Aggregate) → map shown_size (map (renamed_aggregate to) aggregates) ≡ map shown_size aggregates
  all-shown [] = refl
  all-shown (a ∷ aggregates) =
      let first = shown-stored a in
      let rest = all-shown aggregates in
      λ i. first i ∷ rest i

  key-sizes : (keys : List ℕ) → map (λ k. stored_size) (map to keys) ≡ map (λ k. stored_size) keys
  key-sizes [] = refl
  key-sizes (k ∷ keys) = ap (λ (ns : List ℕ). stored_size ∷ ns) (key-sizes keys)

  keys-sizes : (keys : Option (List ℕ)) → map (λ k. stored_size) (unwrap_or (option_map (map to) keys) []) ≡ map (λ k. stored_size) (unwrap_or keys [])
  keys-sizes None = refl
  keys-sizes (Some keys) = key-sizes keys

  -- the columns that items read have the same sizes
  row-sizes : (shape : Shape) → row_size (renamed_shape to shape) ≡ row_size shape
  row-sizes Plain = refl
  row-sizes (Grouped keys aggregates having) =
      let ks = keys-sizes keys in
      let vs = all-shown aggregates in
      λ j i. slice_index_or (ks j ++ vs j) i 0

  items-sizes : (shape : Shape) (items : List Expr)
      → map (λ e. (width e (row_size (renamed_shape to shape))).size) (renamed_items to shape items) ≡ map (λ e. (width e (row_size shape)).size) items
  items-sizes (Grouped keys aggregates having) items = ap (λ (sizes : ℕ → ℕ). map (λ e. (width e sizes).size) items) (row-sizes (Grouped keys aggregates having))
  items-sizes Plain [] = refl
  items-sizes Plain (e ∷ items) =
      let first = width-stored e in
      let rest = items-sizes Plain items in
      λ i. (first i).size ∷ rest i

  -- and so is what can be worked out of them
  items-narrow : (shape : Shape) (items : List Expr) → AllByRecursion (λ e. widest (row_size shape) e < number_limit) items
      → AllByRecursion (λ e. widest (row_size (renamed_shape to shape)) e < number_limit) (renamed_items to shape items)
  items-narrow (Grouped keys aggregates having) items h =
      subst (λ (sizes : ℕ → ℕ). AllByRecursion (λ e. widest sizes e < number_limit) items) (sym (row-sizes (Grouped keys aggregates having))) h
  items-narrow Plain [] h = tt
  items-narrow Plain (e ∷ items) h =
      (subst (λ (x : Extent). x.widest < number_limit) (sym (width-stored e)) h.0, items-narrow Plain items h.1)

  argument-narrow : (a : Aggregate) → IsArgumentNarrow (λ i. stored_size) a → IsArgumentNarrow (λ i. stored_size) (renamed_aggregate to a)
  argument-narrow CountAll h = tt
  argument-narrow (Count e) h = subst (λ (x : Extent). x.widest < number_limit) (sym (width-stored e)) h
  argument-narrow (CountDistinct e) h = subst (λ (x : Extent). x.widest < number_limit) (sym (width-stored e)) h
  argument-narrow (Sum e) h = subst (λ (x : Extent). x.widest < number_limit) (sym (width-stored e)) h
  argument-narrow (Min e) h = subst (λ (x : Extent). x.widest < number_limit) (sym (width-stored e)) h
  argument-narrow (Max e) h = subst (λ (x : Extent). x.widest < number_limit) (sym (width-stored e)) h

  each-narrow : (aggregates : List Aggregate) → AllByRecursion (IsArgumentNarrow (λ i. stored_size)) aggregates → AllByRecursion (IsArgumentNarrow (λ i. stored_size)) (map (renamed_aggregate to) aggregates)
  each-narrow [] h = tt
  each-narrow (a ∷ aggregates) h = (argument-narrow a h.0, each-narrow aggregates h.1)

  arguments-narrow : (shape : Shape) → AllByRecursion (IsArgumentNarrow (λ i. stored_size)) (aggregates_in shape) → AllByRecursion (IsArgumentNarrow (λ i. stored_size)) (aggregates_in (renamed_shape to shape))
  arguments-narrow Plain h = tt
  arguments-narrow (Grouped keys aggregates having) h = each-narrow aggregates h

  no-having : (shape : Shape) → HasNoHaving shape → HasNoHaving (renamed_shape to shape)
  no-having Plain h = tt
  no-having (Grouped keys aggregates having) h = h

-- ---- queries
module _ (places : List ℕ) (columns : Source → List ℕ) (q : Query) where
  -- FROM names the same
  joined-sources : (js : List Join) → map (λ j. j.source) (map (renamed_join (place_in places) columns) js) ≡ map (λ j. j.source) js
  joined-sources [] = refl
  joined-sources (j ∷ js) = ap (λ (ss : List Source). j.source ∷ ss) (joined-sources js)

  pub renamed-sources : sources_of (renamed_query places columns q) ≡ sources_of q
  renamed-sources = ap (λ (ss : List Source). q.first ∷ ss) (joined-sources q.joins)

  pub renamed-sizes : column_sizes (renamed_query places columns q) ≡ column_sizes q
  renamed-sizes = items-sizes (place_in places) q.shape q.items

  pub renamed-kept : CanBeKept q → CanBeKept (renamed_query places columns q)
  renamed-kept k = record {
    tables = subst (AllByRecursion IsTable) (sym renamed-sources) k.tables;
    each = k.each;
    groups = no-having (place_in places) q.shape k.groups;
    filter = narrow-renamed (place_in places) q.filter k.filter;
    arguments = arguments-narrow (place_in places) q.shape k.arguments;
    items = items-narrow (place_in places) q.shape q.items k.items;
  }
