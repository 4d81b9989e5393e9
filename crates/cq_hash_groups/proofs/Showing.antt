-- What groups show is what their rows give.
use Rattle.std.proofs.Common.{◌≡◌, ℕ, suc, ◌<◌, pos, not, cond, List, [], ◌∷◌, map, filter, length, get_or, refl, sym, ◌∙◌, ap, ap₂, arith, subst, Option, Some, None, eqb}
use Rattle.std.specs.List.{AllByRecursion}
use Rattle.std.proofs.lemmas.Bool.{eqb-true}
use Rattle.std.proofs.lemmas.List.{get_or-map}
use Rattle.cq_values.specs.declared.value.Value.{Value}
use Rattle.cq_values.specs.declared.value.Value.TheVariants.{Null, Number}
use Rattle.cq_values.specs.Value.{Row}
use Rattle.cq_values.specs.Order.{same_row}
use Rattle.cq_values.specs.Keys.{same_row-refl}
use Rattle.cq_model_bags.specs.Bag.{Weighted, once_each, firsts, distinct_rows}
use Rattle.cq_model_bags.proofs.Totals.{by_test}
use Rattle.cq_model_bags.proofs.Distincts.{once_each-filter, once_each-map}
use Rattle.cq_model.specs.declared.query.Aggregate.{Aggregate}
use Rattle.cq_model.specs.declared.query.Aggregate.TheVariants.{CountAll, Count, CountDistinct, Sum, Min, Max}
use Rattle.cq_model.specs.Eval.{eval}
use Rattle.cq_model.specs.Group.{InRange, SumInRange, SumsInRange, aggregate, group_row, grouped, key_of, keys_of, rows_of_key}
use Rattle.cq_hash_groups_slots.specs.declared.bests.Extreme.TheVariants.{Least, Greatest}
use Rattle.cq_hash_groups.specs.Arguments.{argument}
use Rattle.cq_hash_groups.specs.Groups.{group_columns, group_keys, kept_best, kept_count, kept_each, kept_set, kept_sum, known, rows_at, slots_at}
use Rattle.cq_hash_groups_sums.specs.declared.wide_sums.Sum.{Sum as Summed}
use Rattle.cq_hash_groups_sums.specs.Puts.{no_sum, shown_sum}
use Rattle.cq_hash_groups_slots.specs.Slots.{CanShow, shown_at}
use Rattle.cq_model_bags.proofs.Lists.{all-weaker}
use Rattle.cq_model_bags.proofs.Once.{distinct-once}
use Rattle.cq_model.specs.Totals.{shown_total, total_of}
use Rattle.cq_hash_groups.proofs.Different.{distinct-of}
use Rattle.cq_model.proofs.ListedValues.{count-of, count_all-of, max-of, min-of, sum-in_range, sum-of, sum-shows}

-- each row counts
pub count-rows : (rows : List Row) → kept_count (map (λ r. Number (pos 0)) rows) ≡ length rows
count-rows [] = refl
count-rows (r ∷ rows) = ap suc (count-rows rows)

-- the sum of values is their total, and NULL of none
shown-sum : (vs : List Value) → cond (eqb (length vs) 0) Null (Number (total_of vs)) ≡ shown_total vs
shown-sum [] = refl
shown-sum (v ∷ vs) = by_test (eqb (length (v ∷ vs)) 0) (λ k. absurd (let e = eqb-true (length (v ∷ vs)) 0 k in omega (arith, e))) (λ k. rw k refl)

module _ (columns : List ℕ) (rows keys : List Row) (group : ℕ) (key : Row) (lt : group < length keys) (is : key ≡ get_or keys group key) where
  -- what is kept of the group of a number
  at-group : {S : Type 0} (kept : List Value → S) (nothing : S) (value : Row → Value) → get_or (kept_each kept value columns rows keys) group nothing ≡ kept (map value (rows_at columns rows key))
  at-group kept nothing value = get_or-map (λ (k : Row). kept (map value (rows_at columns rows k))) keys group key nothing lt ∙ ap (λ (k : Row). kept (map value (rows_at columns rows k))) (sym is)

  -- each aggregate is shown
  shown-one : (a : Aggregate) → shown_at group (slots_at columns rows keys a) ≡ aggregate a (once_each (rows_at columns rows key))
  shown-one CountAll = ap (λ (n : ℕ). Number (pos n)) (at-group kept_count 0 (argument CountAll) ∙ count-rows (rows_at columns rows key)) ∙ count_all-of (rows_at columns rows key)
  shown-one (Count e) = ap (λ (n : ℕ). Number (pos n)) (at-group kept_count 0 (eval e)) ∙ count-of e (rows_at columns rows key)
  shown-one (CountDistinct e) = ap (λ (vs : List Value). Number (pos (length vs))) (at-group kept_set [] (eval e)) ∙ distinct-of e (rows_at columns rows key)
  shown-one (Sum e) = ap shown_sum (at-group kept_sum no_sum (eval e)) ∙ shown-sum (known (map (eval e) (rows_at columns rows key))) ∙ sum-of e (rows_at columns rows key)
  shown-one (Min e) = at-group (kept_best Least) Null (eval e) ∙ min-of e (rows_at columns rows key)
  shown-one (Max e) = at-group (kept_best Greatest) Null (eval e) ∙ max-of e (rows_at columns rows key)

  pub shown-all : (aggregates : List Aggregate) → map (shown_at group) (map (slots_at columns rows keys) aggregates) ≡ map (λ a. aggregate a (once_each (rows_at columns rows key))) aggregates
  shown-all [] = refl
  shown-all (a ∷ aggregates) = ap₂ (λ (v : Value) (vs : List Value). v ∷ vs) (shown-one a) (shown-all aggregates)

  range-one : (a : Aggregate) → CanShow group (slots_at columns rows keys a) → SumInRange a (once_each (rows_at columns rows key))
  range-one CountAll h = tt
  range-one (Count e) h = tt
  range-one (CountDistinct e) h = tt
  range-one (Sum e) h = sum-in_range e (rows_at columns rows key) (subst (λ (s : Summed). InRange s.total) (at-group kept_sum no_sum (eval e)) h)
  range-one (Min e) h = tt
  range-one (Max e) h = tt

  one-range : (a : Aggregate) → SumInRange a (once_each (rows_at columns rows key)) → CanShow group (slots_at columns rows keys a)
  one-range CountAll h = tt
  one-range (Count e) h = tt
  one-range (CountDistinct e) h = tt
  one-range (Sum e) h = subst (λ (s : Summed). InRange s.total) (sym (at-group kept_sum no_sum (eval e))) (sum-shows e (rows_at columns rows key) h)
  one-range (Min e) h = tt
  one-range (Max e) h = tt

  pub range-all : (aggregates : List Aggregate) → AllByRecursion (CanShow group) (map (slots_at columns rows keys) aggregates) → AllByRecursion (λ a. SumInRange a (once_each (rows_at columns rows key))) aggregates
  range-all [] h = tt
  range-all (a ∷ aggregates) h = (range-one a h.0, range-all aggregates h.1)

  pub all-range : (aggregates : List Aggregate) → AllByRecursion (λ a. SumInRange a (once_each (rows_at columns rows key))) aggregates → AllByRecursion (CanShow group) (map (slots_at columns rows keys) aggregates)
  all-range [] h = tt
  all-range (a ∷ aggregates) h = (one-range a h.0, all-range aggregates h.1)

-- ---- the groups of a query are those of its keys
-- the rows of a key, each once
own-rows : (columns : List ℕ) (rows : List Row) (k : Row) → once_each (rows_at columns rows k) ≡ rows_of_key columns k (once_each rows)
own-rows columns rows k = once_each-filter (λ r. same_row (key_of columns r) k) rows

keys-met : (columns : List ℕ) (rows : List Row) → firsts (map (key_of columns) rows) ≡ keys_of columns (once_each rows)
keys-met columns rows = sym (distinct-once (map (key_of columns) rows)) ∙ ap distinct_rows (once_each-map (key_of columns) rows)

-- without GROUP BY there is no key but the one
no-key_more : (rows : List Row) → filter (λ s. not (same_row [] s)) (firsts (map (key_of []) rows)) ≡ []
no-key_more [] = refl
no-key_more (r ∷ rows) = let itself = same_row-refl [] in rw itself (ap (filter (λ s. not (same_row [] s))) (no-key_more rows))

one-key : (rows : List Row) → group_keys None rows ≡ [] ∷ []
one-key rows = ap (λ (xs : List Row). [] ∷ xs) (no-key_more rows)

-- which has all rows
all-rows : (rows : List Row) → rows_at [] rows [] ≡ rows
all-rows [] = refl
all-rows (r ∷ rows) = let itself = same_row-refl [] in rw itself (ap (λ (xs : List Row). r ∷ xs) (all-rows rows))

-- the rows of all groups
abbrev pub shown_rows : Option (List ℕ) → List Aggregate → List Row → List Row → List Row
shown_rows keys aggregates rows found = map (λ (k : Row). group_row aggregates k (once_each (rows_at (group_columns keys) rows k))) found

-- and that each total of these groups can be shown
abbrev pub AreShown : Option (List ℕ) → List Aggregate → List Row → List Row → Type 0
AreShown keys aggregates rows found = AllByRecursion (λ k. AllByRecursion (λ a. SumInRange a (once_each (rows_at (group_columns keys) rows k))) aggregates) found

map-same : (f g : Row → Row) → ((k : Row) → f k ≡ g k) → (keys : List Row) → map f keys ≡ map g keys
map-same f g h [] = refl
map-same f g h (k ∷ keys) = ap₂ (λ (r : Row) (rs : List Row). r ∷ rs) (h k) (map-same f g h keys)

pub rows-are_grouped : (keys : Option (List ℕ)) (aggregates : List Aggregate) (rows : List Row) → once_each (shown_rows keys aggregates rows (group_keys keys rows)) ≡ grouped keys aggregates (once_each rows)
rows-are_grouped None aggregates rows =
    ap (λ (found : List Row). once_each (shown_rows None aggregates rows found)) (one-key rows) ∙ ap (λ (rs : List Row). once_each (group_row aggregates [] (once_each rs) ∷ [])) (all-rows rows)
rows-are_grouped (Some columns) aggregates rows =
    ap once_each (map-same (λ (k : Row). group_row aggregates k (once_each (rows_at columns rows k))) (λ (k : Row). group_row aggregates k (rows_of_key columns k (once_each rows))) (λ k. ap (group_row aggregates k) (own-rows columns rows k)) (firsts (map (key_of columns) rows))
    ∙ ap (map (λ (k : Row). group_row aggregates k (rows_of_key columns k (once_each rows)))) (keys-met columns rows))

abbrev InEach : List Aggregate → Weighted → Type 0
InEach aggregates xs = AllByRecursion (λ a. SumInRange a xs) aggregates

pub ranges-are_grouped : (keys : Option (List ℕ)) (aggregates : List Aggregate) (rows : List Row) → AreShown keys aggregates rows (group_keys keys rows) → SumsInRange keys aggregates (once_each rows)
ranges-are_grouped None aggregates rows h =
    let one : AreShown None aggregates rows ([] ∷ []) = subst (AreShown None aggregates rows) (one-key rows) h in
    subst (λ (rs : List Row). InEach aggregates (once_each rs)) (all-rows rows) one.0
ranges-are_grouped (Some columns) aggregates rows h =
    subst (AllByRecursion (λ (k : Row). InEach aggregates (rows_of_key columns k (once_each rows)))) (keys-met columns rows)
    (all-weaker (λ (k : Row). InEach aggregates (once_each (rows_at columns rows k))) (λ (k : Row). InEach aggregates (rows_of_key columns k (once_each rows))) (λ k a. subst (InEach aggregates) (own-rows columns rows k) a) (firsts (map (key_of columns) rows)) h)

pub grouped-ranges : (keys : Option (List ℕ)) (aggregates : List Aggregate) (rows : List Row) → SumsInRange keys aggregates (once_each rows) → AreShown keys aggregates rows (group_keys keys rows)
grouped-ranges None aggregates rows h =
    subst (AreShown None aggregates rows) (sym (one-key rows)) (subst (λ (rs : List Row). InEach aggregates (once_each rs)) (sym (all-rows rows)) h, tt)
grouped-ranges (Some columns) aggregates rows h =
    all-weaker (λ (k : Row). InEach aggregates (rows_of_key columns k (once_each rows))) (λ (k : Row). InEach aggregates (once_each (rows_at columns rows k))) (λ k a. subst (InEach aggregates) (sym (own-rows columns rows k)) a) (firsts (map (key_of columns) rows))
    (subst (AllByRecursion (λ (k : Row). InEach aggregates (rows_of_key columns k (once_each rows)))) (sym (keys-met columns rows)) h)
