-- A query that can be worked out with the sizes of columns is exact on the rows that lent rows become.
use Rattle.std.proofs.Common.{◌≡◌, ◌+◌, ℕ, pos, ◌<ℤ◌, List, [], ◌∷◌, ◌++◌, append_assoc, filter, length, map, get_or, Option, Some, None, Ok, Err, refl, sym, ◌∙◌, ap, inl, inr, subst, arith, Bool, true, false}
use Rattle.std.specs.Prelude.{if◌then◌else◌}
use Rattle.std.proofs.lemmas.Int.{ints}
use Rattle.std.proofs.lemmas.List.{length-append}
use Rattle.std.specs.List.{AllByRecursion, flat_map}
use Rattle.cq_values.specs.Value.{Row}
use Rattle.cq_model_bags.specs.Bag.{IsBag, Weighted, distinct, once_each, weight_of}
use Rattle.cq_model_bags.specs.Listing.{IsListing}
use Rattle.cq_binder_rules.specs.declared.fault.Fault.TheVariants as faults
use Rattle.cq_model_eval.specs.Laws.{NarrowIsExact, NarrowIsExactIn}
use Rattle.cq_hash_groups.specs.Exact.{AreExactOver, IsExactFor}
use Rattle.cq_model.specs.declared.fault.ShowFault.{ShowFault}
use Rattle.cq_model.specs.declared.fault.ShowFault.TheVariants.{Memory, SumOutOfRange}
use Rattle.cq_operators.specs.Exec.{GivesRest, IsInRange, IsOpened, Remaining}
use Rattle.cq_model_laws.specs.Sizes.{GroupsKeepSizes, HasSizes, JoinedHaveSizes, JoinedRowsKeepSizes, KeepsColumns, grouped_sizes}
use Rattle.cq_model_laws.proofs.Columns.{listed-columns}
use Rattle.cq_model_laws.proofs.Positives.{once_each-bag}
use Rattle.cq_table_columns.specs.Sources.{stored_bags, rows_or}
use Rattle.cq_table_columns.specs.declared.stored_source.StoredSource.{StoredSource}
use Rattle.cq_model.specs.Exact.{AreExactAt, AreExactIn}
use Rattle.cq_model.specs.Expr.{Cond, Expr}
use Rattle.cq_model.specs.declared.query.Aggregate.{Aggregate}
use Rattle.cq_model.specs.declared.query.Aggregate.TheVariants.{CountAll, Count, CountDistinct, Sum, Min, Max}
use Rattle.cq_model.specs.declared.query.Join.{Join}
use Rattle.cq_model.specs.declared.query.Order.{Order}
use Rattle.cq_model.specs.declared.query.Query.{Query}
use Rattle.cq_model.specs.declared.query.Shape.{Shape}
use Rattle.cq_model.specs.declared.query.Shape.TheVariants.{Grouped, Plain}
use Rattle.cq_model.specs.declared.query.Source.{Source}
use Rattle.cq_model.specs.Group.{group_row, grouped, keys_of, rows_of_key}
use Rattle.cq_model.specs.Meaning.{MeaningInRange, ShapeInRange, chain, joined_rows, keeps, meaning, shown}
use Rattle.cq_model.specs.Own.{in_place}
use Rattle.cq_model.specs.Views.{sources_of}
use Rattle.cq_model.specs.Width.{IsNarrowIn, sizes_of}
use Rattle.cq_operators.specs.Selected.{AreCounted, CanSelect, CanShape, CanShow, IsExactBy, kept_rows, rows_in}
use Rattle.cq_plan.specs.Chain.{AreOf, ChainedSource, joined_lists, links_with}
use Rattle.cq_plan.specs.Own.{AreOwnOf, conditions_of}
use Rattle.cq_plan.specs.Plan.{IsPlanOf, kept_of}
use Rattle.cq_plan.specs.Planned.{AreAllOwn, CanAskEach, HaveColumns, asked_below, below_of, is_joined, widths_of}
use Rattle.cq_plan.specs.declared.plans.Plan.{Plan}
use Rattle.cq_plan.specs.declared.plans.PlannedSource.{PlannedSource}
use Rattle.cq_plan.specs.Laws.{ChainOfLists, OwnConditionsAreExact}
use Rattle.cq_engine_answers.specs.Lent.{CanAnswer, HaveSizes}
use Rattle.cq_engine_answers.specs.Narrow.{AreArgumentsSized, AreItemsSized, IsConditionSized, IsShapeSized}
use Rattle.cq_engine_answers.specs.Selects.{SelectsLent, shown_as}
use Rattle.cq_model_bags.proofs.Lists.{all-filter, all-listed, all-weaker}
use Rattle.cq_model_bags.proofs.Once.{is_there}
use Rattle.cq_model.proofs.ListedValues.{count_all-listed}
use Rattle.cq_model.specs.Sizes.{IsArgumentNarrow}

-- ---- rows that are there
all-there : (P : Row → Type 0) (rows : List Row) → ((row : Row) → pos 0 <ℤ weight_of (once_each rows) row → P row) → AllByRecursion P rows
all-there P rows each = all-listed P rows (λ i d h. each (get_or rows i d) (is_there rows i d h))

-- ---- what is worked out in rows whose columns have sizes
module _ (at : NarrowIsExact) (within : NarrowIsExactIn) where
  -- a condition
  exact_by : (sizes : List ℕ) (condition : Option Cond) (rows : List Row) → IsConditionSized sizes condition → AllByRecursion (HasSizes sizes) rows → AllByRecursion (IsExactBy condition) rows
  exact_by sizes condition rows can = all-weaker _ _ (λ row has. one condition row (can row has.sized)) rows
    where
      one : (c : Option Cond) (row : Row) → IsNarrowIn c row → IsExactBy c row
      one None row narrow = tt
      one (Some c) row narrow = within c row narrow

  -- items
  items_exact : (sizes : List ℕ) (items : List Expr) (rows : List Row) → AreItemsSized sizes items → AllByRecursion (HasSizes sizes) rows → AllByRecursion (AreExactAt items) rows
  items_exact sizes items rows can = all-weaker _ _ (λ row has. all-weaker _ _ (λ e narrow. at e row narrow) items (can row has.sized)) rows

  -- the arguments of aggregates
  over_exact : (sizes : List ℕ) (aggregates : List Aggregate) (rows : List Row) → AreArgumentsSized sizes aggregates → AllByRecursion (HasSizes sizes) rows → AllByRecursion (AreExactOver aggregates) rows
  over_exact sizes aggregates rows can = all-weaker _ _ (λ row has. all-weaker _ _ (λ a narrow. one row a narrow) aggregates (can row has.sized)) rows
    where
      one : (row : Row) (a : Aggregate) → IsArgumentNarrow (sizes_of row) a → IsExactFor a row
      one row CountAll narrow = tt
      one row (Count e) narrow = at e row narrow
      one row (CountDistinct e) narrow = at e row narrow
      one row (Sum e) narrow = at e row narrow
      one row (Min e) narrow = at e row narrow
      one row (Max e) narrow = at e row narrow

  -- ---- what is shown of rows, and of their groups
  listed-again : (rows : List Row) → once_each rows ≡ once_each (rows_in (once_each rows))
  listed-again [] = refl
  listed-again (r ∷ rows) = ap (λ (xs : Weighted). (r, pos 1) ∷ xs) (listed-again rows)

  groups-listed : (keys : Option (List ℕ)) (aggregates : List Aggregate) (xs : Weighted) → grouped keys aggregates xs ≡ once_each (rows_in (grouped keys aggregates xs))
  groups-listed None aggregates xs = listed-again (group_row aggregates [] xs ∷ [])
  groups-listed (Some columns) aggregates xs = listed-again (map (λ k. group_row aggregates k (rows_of_key columns k xs)) (keys_of columns xs))

  module _ (law : GroupsKeepSizes) (sizes : List ℕ) (keys : Option (List ℕ)) (aggregates : List Aggregate) (rows : List Row) (sized : AllByRecursion (HasSizes sizes) rows) where
    abbrev of_groups : List ℕ
    of_groups = grouped_sizes sizes keys aggregates

    abbrev groups : List Row
    groups = rows_in (grouped keys aggregates (once_each rows))

    groups_sized : AreCounted keys aggregates rows → AllByRecursion (HasSizes of_groups) groups
    groups_sized counted =
        let keep = law sizes keys aggregates (once_each rows) (once_each-bag rows) (listed-columns sizes rows sized)
        (omega (arith, ints, count_all-listed rows, counted.few)) counted.range in
        all-there (HasSizes of_groups) groups (subst (KeepsColumns of_groups) (groups-listed keys aggregates (once_each rows)) keep)

    can_show : (having : Option Cond) (items : List Expr) → IsConditionSized of_groups having → AreItemsSized of_groups items → AreCounted keys aggregates rows → CanShow having items groups
    can_show having items tested shown counted =
        let have = groups_sized counted in
        record {
          exact = exact_by of_groups having groups tested have;
          kept = items_exact of_groups items (filter (keeps having) groups) shown (all-filter (HasSizes of_groups) (keeps having) groups have);
        }

  can_shape : GroupsKeepSizes → (sizes : List ℕ) (shape : Shape) (items : List Expr) (rows : List Row) → IsShapeSized sizes shape items → AllByRecursion (HasSizes sizes) rows → CanShape shape items rows
  can_shape law sizes Plain items rows can sized = items_exact sizes items rows can sized
  can_shape law sizes (Grouped keys aggregates having) items rows can sized = (
    over_exact sizes aggregates rows can.0 sized,
    can_show law sizes keys aggregates rows sized having items can.1 can.2,
  )

-- ---- the rows of each source, as they are planned
module _ (sizes : Source → List ℕ) (lents : List StoredSource) where
  abbrev rows_at : Source → List Row
  rows_at s = rows_or lents s []

  abbrev width_at : Source → ℕ
  width_at s = length (sizes s)

  -- they have the columns of the plan
  have-columns : (ss : List PlannedSource) (sources : List Source) → widths_of ss ≡ map width_at sources → AllByRecursion (HaveSizes sizes lents) sources → HaveColumns ss (map rows_at sources)
  have-columns [] [] wide sized = tt
  have-columns [] (s ∷ sources) wide sized = absurd (cc wide)
  have-columns (p ∷ ss) [] wide sized = absurd (cc wide)
  have-columns (p ∷ ss) (s ∷ sources) wide sized =
      let head : p.wide ≡ width_at s = cc wide in
      let tail : widths_of ss ≡ map width_at sources = cc wide in
      (all-weaker _ _ (λ row has. has.values ∙ sym head) (rows_at s) sized.0, have-columns ss sources tail sized.1)

  -- and what they are asked can be worked out
  module _ (law : OwnConditionsAreExact) (below : Option Cond) where
    can-ask : (front : List ℕ) (before : ℕ) (ss : List PlannedSource) (sources : List Source) → before ≡ length front → AreAllOwn below before ss → widths_of ss ≡ map width_at sources → AllByRecursion (HaveSizes sizes lents) sources
        → IsConditionSized (front ++ flat_map sizes sources) below → CanAskEach ss (map rows_at sources)
    can-ask front before [] [] is own wide sized can = tt
    can-ask front before [] (s ∷ sources) is own wide sized can = absurd (cc wide)
    can-ask front before (p ∷ ss) [] is own wide sized can = absurd (cc wide)
    can-ask front before (p ∷ ss) (s ∷ sources) is own wide sized can =
        let head : p.wide ≡ width_at s = cc wide in
        let tail : widths_of ss ≡ map width_at sources = cc wide in
        let conditions = conditions_of p.own.items in (
          subst (λ n. AllByRecursion (λ row. AllByRecursion (λ c. AreExactIn c (in_place n row)) conditions) (rows_at s)) (sym is ∙ sym own.0.place)
              (law below front (sizes s) (flat_map sizes sources) p.wide conditions (rows_at s) can (subst (λ n. AreOwnOf below n p.wide conditions) is own.0.own) (all-weaker _ _ (λ row has. has.sized) (rows_at s) sized.0)),
          can-ask (front ++ sizes s) (before + p.wide) ss sources
              (omega (arith, is, length-append front (sizes s), head))
              own.1 tail sized.1 (subst (λ ns. IsConditionSized ns below) (sym (append_assoc front (sizes s) (flat_map sizes sources))) can),
        )

-- WHERE, or nothing, can be worked out where WHERE can
sized-below : (sizes : List ℕ) (where_is : Option Cond) (below : Bool) → IsConditionSized sizes where_is → IsConditionSized sizes (asked_below below where_is)
sized-below sizes where_is true can = can
sized-below sizes where_is false can = λ row sized. tt

-- ---- rows that are lent
-- the others are the sources of the joins
links-are : (lents : List StoredSource) (joins : List Join) → AreOf (stored_bags lents) joins (links_with joins (map (λ s. rows_or lents s []) (map (λ j. j.source) joins)))
links-are lents [] = tt
links-are lents (j ∷ joins) = (refl, refl, links-are lents joins)

module _ (law : ChainOfLists) (lents : List StoredSource) (q : Query) where
  abbrev pub all_sources : List (List Row)
  all_sources = map (λ s. rows_or lents s []) (sources_of q)

  abbrev joined : List Row
  joined = joined_lists q.joins all_sources

  abbrev links : List ChainedSource
  links = links_with q.joins (map (λ s. rows_or lents s []) (map (λ j. j.source) q.joins))

  chained : once_each joined ≡ chain (stored_bags lents) (stored_bags lents q.first) q.joins
  chained = law.chain (stored_bags lents) (rows_or lents q.first []) q.joins links (links-are lents q.joins)

  kept : once_each (kept_of q all_sources) ≡ joined_rows q (stored_bags lents)
  kept = law.kept q (stored_bags lents) (rows_or lents q.first []) links refl (links-are lents q.joins)

  module _ (widths : List ℕ) (can : CanAnswer lents q widths) where
    abbrev all_sizes : List ℕ
    all_sizes = flat_map can.sizes (sources_of q)

    -- joined rows have the sizes of all columns
    joined_sized : JoinedRowsKeepSizes → JoinedHaveSizes all_sizes q (stored_bags lents)
    joined_sized law_of_joins = law_of_joins q (stored_bags lents) can.sizes (bags (sources_of q)) (all-weaker _ _ (λ s sized. listed-columns (can.sizes s) (rows_or lents s []) sized) (sources_of q) can.rows)
      where
        bags : (sources : List Source) → AllByRecursion (λ s. IsBag (stored_bags lents s)) sources
        bags [] = tt
        bags (s ∷ sources) = (once_each-bag (rows_or lents s []), bags sources)

    -- so the query can be worked out on them
    pub can_select : NarrowIsExact → NarrowIsExactIn → JoinedRowsKeepSizes → GroupsKeepSizes → CanSelect q joined
    can_select at within law_of_joins law_of_groups =
        let sized = joined_sized law_of_joins in
        record {
          exact = exact_by at within all_sizes q.filter joined can.filter (all-there (HasSizes all_sizes) joined (subst (KeepsColumns all_sizes) (sym chained) sized.joined));
          shape = can_shape at within law_of_groups all_sizes q.shape q.items (kept_rows q joined) can.shown
              (all-there (HasSizes all_sizes) (kept_rows q joined) (subst (KeepsColumns all_sizes) (sym kept) sized.kept));
        }

    module _ (plan : Plan) (order : Order) (is : IsPlanOf q order widths plan) where
      wide : widths_of plan.sources.items ≡ map (λ s. length (can.sizes s)) (sources_of q)
      wide = is.wide ∙ can.wide

      -- the rows of each source have its columns
      pub all_wide : HaveColumns plan.sources.items all_sources
      all_wide = have-columns can.sizes lents plan.sources.items (sources_of q) wide can.rows

      -- and own conditions can be worked out on them
      pub can_ask_each : OwnConditionsAreExact → CanAskEach plan.sources.items all_sources
      can_ask_each law_of_own =
          can-ask can.sizes lents law_of_own (below_of plan.query.now) [] 0 plan.sources.items (sources_of q) refl is.whole.own wide can.rows
          (subst (λ (p : Query). IsConditionSized all_sizes (below_of p)) (sym is.query) (sized-below all_sizes q.filter (is_joined q) can.filter))

  -- ---- the list
  module _ (order : Order) (e : Remaining) (opened : IsOpened q order all_sources e) where
    ranged : IsInRange e → MeaningInRange q (stored_bags lents)
    ranged range =
        subst (ShapeInRange q.shape) kept
        (subst (λ (rows : List Row). ShapeInRange q.shape (once_each rows)) opened.kept (subst (λ (p : Query). ShapeInRange p.shape (once_each e.kept)) opened.query range))

    unranged : MeaningInRange q (stored_bags lents) → IsInRange e
    unranged range =
        subst (λ (p : Query). ShapeInRange p.shape (once_each e.kept)) (sym opened.query)
        (subst (λ (rows : List Row). ShapeInRange q.shape (once_each rows)) (sym opened.kept) (subst (ShapeInRange q.shape) (sym kept) range))

    -- what remains of the query's list is all of it
    pub selects_rest : (rows : List Row) → GivesRest e (Ok rows) → SelectsLent q order lents (Ok rows)
    selects_rest rows rest = (
      subst (λ (list : List Row). IsListing order.keys order.limit (meaning q (stored_bags lents)) list) (sym rest.0)
          (subst (λ xs. IsListing order.keys order.limit (let all = shown q xs in if q.distinct then distinct all else all) e.left) kept opened.whole),
      ranged rest.2,
    )

    -- a total that cannot be shown is one of what it means
    pub selects_none : GivesRest e (Err SumOutOfRange) → SelectsLent q order lents (Err faults.SumOutOfRange)
    selects_none rest = inr (refl, λ range. rest.1 (unranged range))

    -- a fault is told as it is
    pub tells-rest : (f : ShowFault) → GivesRest e (Err f) → SelectsLent q order lents (Err (shown_as f))
    tells-rest Memory rest = inl refl
    tells-rest SumOutOfRange rest = selects_none rest

  -- what is opened by a plan of the query
  pub opened-of : (order : Order) (widths : List ℕ) (plan : Plan) → IsPlanOf q order widths plan → (sources : List (List Row)) → sources ≡ all_sources → (e : Remaining)
      → IsOpened plan.query.now plan.order.now sources e → IsOpened q order all_sources e
  opened-of order widths plan is sources are e opened =
      subst (λ (ss : List (List Row)). IsOpened q order ss e) are
      (subst (λ (o : Order). IsOpened q o sources e) is.order
      (subst (λ (p : Query). IsOpened p plan.order.now sources e) is.query opened))
