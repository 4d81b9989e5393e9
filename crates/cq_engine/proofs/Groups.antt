-- The rows of groups keep the sizes of the key's columns and of what is shown of each group.
use Rattle.std.proofs.Common.{◌≡◌, ℕ, ◌+◌, ◌<◌, ◌≤◌, Bool, true, false, List, [], ◌∷◌, ◌++◌, map, length, get_or, Option, Some, None, refl, sym, ap, ◌∙◌, arith, subst}
use Rattle.std.specs.Prelude.{◌==◌, if◌then◌else◌, position, slice_get, unwrap_or}
use Rattle.std.specs.List.{list_any}
use Rattle.std.proofs.lemmas.Bool.{eqb-true, ne_eqb}
use Rattle.std.proofs.lemmas.List.{get_or-append-add, get_or-map, get_or_append_left, length-map}
use Rattle.std.proofs.lemmas.List.Quantifiers.{position-Some}
use Rattle.std.proofs.lemmas.Option.{get_or_from_slice_get, slice_get_within}
use Rattle.cq_values.specs.Value.{Row}
use Rattle.cq_sql_language.specs.declared.written.ColumnName.{ColumnName}
use Rattle.cq_model_laws.specs.Sizes.{grouped_sizes}
use Rattle.cq_model.specs.Sizes.{IsSized, aggregate_size}
use Rattle.cq_model.specs.declared.query.Aggregate.{Aggregate}
use Rattle.cq_model.specs.Width.{limits_of, sizes_of}
use Rattle.cq_binder_rules.specs.Grouping.{is_empty}
use Rattle.cq_binder_rules.specs.Places.{group_places}
use Rattle.cq_binder_rules.specs.Queries.{bound_group}
use Rattle.cq_binder_rules.specs.Scopes.{in_groups}
use Rattle.cq_binder_rules.specs.Typing.{ScopeColumn, size_at}
use Rattle.cq_binder_expressions.specs.Expressions.{KeepShown, KeepSizes}
use Rattle.cq_engine_tables.proofs.Places.{not_there}

-- what is read of a key's column is told of the column that has a place in the key
key_size : (f : ℕ → ℕ) (rest places : List ℕ) (place : ℕ) → list_any (λ g. g == place) places ≡ true
    → get_or (map f places ++ rest) (unwrap_or (position (λ g. g == place) places) 0) 0 ≡ f place
key_size f rest places place among = at (position (λ g. g == place) places) refl
  where
    at : (o : Option ℕ) → position (λ g. g == place) places ≡ o → get_or (map f places ++ rest) (unwrap_or o 0) 0 ≡ f place
    at None is = absurd (not_there (λ g. g == place) places among is)
    at (Some i) is =
        let p = position-Some (λ g. g == place) places i 0 is in
        get_or_append_left (map f places) rest 0 i (omega (arith, p.0, length-map places f))
        ∙ get_or-map f places i 0 0 p.0
        ∙ ap f (eqb-true (get_or places i 0) place p.1)

-- and behind the key, of each aggregate
told_size : (f : Aggregate → ℕ) (key : List ℕ) (aggregates : List Aggregate) (i : ℕ) (a : Aggregate)
    → slice_get aggregates i ≡ Some a
    → get_or (key ++ map f aggregates) (length key + i) 0 ≡ f a
told_size f key aggregates i a at =
    get_or-append-add key (map f aggregates) i 0
    ∙ get_or-map f aggregates i a 0 (slice_get_within aggregates i a at)
    ∙ ap f (get_or_from_slice_get aggregates i a a at)

-- without GROUP BY the key has no column
pub key_places : (columns : List ScopeColumn) (group : List ColumnName) → unwrap_or (bound_group columns group) [] ≡ group_places columns group
key_places columns [] = refl
key_places columns (c ∷ group) =
    let some : is_empty (c ∷ group) ≡ false = ne_eqb (length (c ∷ group)) 0 (λ e. absurd (omega (arith, e))) in
    ap (λ (b : Bool). unwrap_or (if b then None else Some (group_places columns (c ∷ group))) []) some

module _ (columns : List ScopeColumn) (group : List ColumnName) (aggregates : List Aggregate) where
  abbrev places : List ℕ
  places = group_places columns group

  -- the sizes of a group's row, by those of the columns and of what is told
  abbrev row_sizes : (ℕ → ℕ) → (Aggregate → ℕ) → List ℕ
  row_sizes key told = map key places ++ map told aggregates

  -- ---- Sizes within those of the key's columns and of what is told
  module _ (key : ℕ → ℕ) (told : Aggregate → ℕ) (sizes : ℕ → ℕ) (within : (i : ℕ) → sizes i ≤ limits_of (row_sizes key told) i) where
    -- where no column promises less, those of the key keep their sizes
    pub key_keeps : ((place : ℕ) → place < length columns → key place ≤ size_at columns place)
        → KeepSizes (in_groups group columns) sizes
    key_keeps small place inside may =
        let at : ℕ = unwrap_or (position (λ g. g == place) places) 0 in
        omega (arith, within at, key_size key (map told aggregates) places place may, small place inside)

    -- and where no aggregate can be smaller, so do they
    pub told_keep : ((i : ℕ) (a : Aggregate) → slice_get aggregates i ≡ Some a → told a ≤ aggregate_size (size_at columns) a) → KeepShown (in_groups group columns) aggregates sizes
    told_keep small grouped i a at =
        let is : limits_of (row_sizes key told) (length places + i) ≡ told a
        = ap (λ (n : ℕ). limits_of (row_sizes key told) (n + i)) (sym (length-map places key))
        ∙ told_size told (map key places) aggregates i a at in
        omega (arith, within (length places + i), is, small i a at)

  -- ---- A row of the sizes that groups have
  abbrev sizes : List ℕ
  sizes = map (λ c. c.size) columns

  module _ (row : Row) (sized : IsSized (limits_of (grouped_sizes sizes (bound_group columns group) aggregates)) row) where
    -- is of those of its key's columns and of what is told
    there : IsSized (limits_of (row_sizes (limits_of sizes) (aggregate_size (limits_of sizes)))) row
    there =
        let told = map (aggregate_size (limits_of sizes)) aggregates in
        subst (λ (ks : List ℕ). IsSized (limits_of (map (limits_of sizes) ks ++ told)) row) (key_places columns group) sized

    -- so the columns of the key keep their sizes
    pub groups_keep : KeepSizes (in_groups group columns) (sizes_of row)
    groups_keep =
        key_keeps (limits_of sizes) (aggregate_size (limits_of sizes)) (sizes_of row) there
        (λ place inside. omega arith)

    -- and so do the aggregates
    pub groups_show : KeepShown (in_groups group columns) aggregates (sizes_of row)
    groups_show =
        told_keep (limits_of sizes) (aggregate_size (limits_of sizes)) (sizes_of row) there (λ i a at. omega arith)
