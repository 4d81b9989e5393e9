-- A table of rows, with rows added, and what it shows.
use Rattle.std.proofs.Common.{◌≡◌, ℕ, ◌+◌, ◌<◌, List, [], ◌∷◌, ◌++◌, map, take, length, get_or, sym, ◌∙◌, ap, ap₂, subst, Option}
use Rattle.std.specs.List.{AllByRecursion}
use Rattle.std.proofs.lemmas.List.{map-append, take_more}
use Rattle.cq_values.specs.Value.{Row}
use Rattle.cq_model_bags.specs.Bag.{firsts, once_each}
use Rattle.cq_hash_keys.specs.Keys.{key_at}
use Rattle.cq_model.specs.declared.query.Aggregate.{Aggregate}
use Rattle.cq_model.specs.Group.{SumInRange, SumsInRange, group_row, key_of}
use Rattle.cq_hash_groups_slots.specs.declared.slots.Slots.{Slots}
use Rattle.cq_hash_groups.specs.Groups.{all_added, first_keys, group_columns, group_keys, kept_at, rows_at, slots_at}
use Rattle.cq_hash_groups.specs.Lead.{first_sum}
use Rattle.cq_hash_groups_sums.specs.Puts.{AreNumbers}
use Rattle.cq_hash_groups_slots.specs.Slots.{CanShow, shown_at}
use Rattle.cq_hash_groups.proofs.Keeping.{slots-added}
use Rattle.cq_hash_groups.proofs.KeysMet.{AreApart, apart-firsts, keys-more}
use Rattle.cq_hash_groups.proofs.Showing.{AreShown, all-range, grouped-ranges, range-all, shown-all, shown_rows}
use Rattle.cq_hash_groups.proofs.Turns.{each-added}
use Rattle.cq_model_bags.proofs.Lists.{all-at}

-- what is kept, with rows added to the groups of their keys
pub slots-hold : (keys : Option (List ℕ)) (aggregates : List Aggregate) (rows more found next : List Row) (numbers : List ℕ) → found ≡ group_keys keys rows → next ≡ firsts (found ++ map (key_of (group_columns keys)) more)
    → map (key_at next) numbers ≡ map (key_of (group_columns keys)) more → AreNumbers (length next) numbers
    → all_added (first_sum aggregates) (length next) numbers more aggregates (map (kept_at (group_columns keys) rows found (first_sum aggregates)) aggregates) ≡ map (kept_at (group_columns keys) (rows ++ more) next (first_sum aggregates)) aggregates
slots-hold keys aggregates rows more found next numbers found_is next_is are there =
    let columns = group_columns keys in
    let lead = first_sum aggregates in
    let news = keys-more columns (first_keys keys) rows more in
    let new = news.0 in
    let e : next ≡ found ++ new =
    next_is ∙ ap (λ (fs : List Row). firsts (fs ++ map (key_of columns) more)) found_is ∙ news.1 ∙ ap (λ (fs : List Row). fs ++ new) (sym found_is) in
    let apart : AreApart (found ++ new) = subst AreApart (sym next_is ∙ e) (apart-firsts (found ++ map (key_of columns) more)) in
    let are_here = subst (λ (fs : List Row). map (key_at fs) numbers ≡ map (key_of columns) more) e are in
    let there_here = subst (λ (fs : List Row). AreNumbers (length fs) numbers) e there in
    subst (λ (fs : List Row). all_added lead (length fs) numbers more aggregates (map (kept_at columns rows found lead) aggregates) ≡ map (kept_at columns (rows ++ more) fs lead) aggregates) (sym e)
    (each-added lead (length (found ++ new)) numbers more (kept_at columns rows found lead) (kept_at columns (rows ++ more) (found ++ new) lead) (slots-added columns rows found new news.2 more numbers apart are_here there_here lead) aggregates)

module _ (keys : Option (List ℕ)) (aggregates : List Aggregate) (of found : List Row) (slots : List Slots) (slots_are : slots ≡ map (slots_at (group_columns keys) of found) aggregates)
    (group : ℕ) (key : Row) (lt : group < length found) (is : key ≡ get_or found group key) where
  -- the groups so far and the next one
  next-taken : take (group + 1) found ≡ take group found ++ key ∷ []
  next-taken = take_more found group key lt ∙ ap (λ (k : Row). take group found ++ k ∷ []) (sym is)

  pub rows-next : (done : List Row) (row : Row) → done ≡ shown_rows keys aggregates of (take group found) → row ≡ key ++ map (shown_at group) slots → done ++ row ∷ [] ≡ shown_rows keys aggregates of (take (group + 1) found)
  rows-next done row so_far row_is =
      let here : row ≡ group_row aggregates key (once_each (rows_at (group_columns keys) of key)) =
      row_is ∙ ap (λ (ss : List Slots). key ++ map (shown_at group) ss) slots_are ∙ ap (λ vs. key ++ vs) (shown-all (group_columns keys) of found group key lt is aggregates) in
      ap₂ (λ (ds : List Row) (r : Row). ds ++ r ∷ []) so_far here
      ∙ sym (ap (shown_rows keys aggregates of) next-taken ∙ map-append (λ k. group_row aggregates k (once_each (rows_at (group_columns keys) of k))) (take group found) (key ∷ []))

  pushed : (P : Row → Type 0) (qs : List Row) (q : Row) → AllByRecursion P qs → P q → AllByRecursion P (qs ++ q ∷ [])
  pushed P [] q a b = (b, tt)
  pushed P (r ∷ qs) q a b = (a.0, pushed P qs q a.1 b)

  pub range-next : AreShown keys aggregates of (take group found) → AllByRecursion (CanShow group) slots → AreShown keys aggregates of (take (group + 1) found)
  range-next so_far can =
      let here = range-all (group_columns keys) of found group key lt is aggregates (subst (AllByRecursion (CanShow group)) slots_are can) in
      subst (AreShown keys aggregates of) (sym next-taken)
      (pushed (λ k. AllByRecursion (λ a. SumInRange a (once_each (rows_at (group_columns keys) of k))) aggregates) (take group found) key so_far here)

  -- a group of a query that can be shown can be shown
  pub range-can : found ≡ group_keys keys of → SumsInRange keys aggregates (once_each of) → AllByRecursion (CanShow group) slots
  range-can found_is all =
      let P : Row → Type 0 = λ k. AllByRecursion (λ a. SumInRange a (once_each (rows_at (group_columns keys) of k))) aggregates in
      let each = subst (AreShown keys aggregates of) (sym found_is) (grouped-ranges keys aggregates of all) in
      let here : P key = subst P (sym is) (all-at P found group key lt each) in
      subst (AllByRecursion (CanShow group)) (sym slots_are) (all-range (group_columns keys) of found group key lt is aggregates here)

  -- so one that cannot is one of a query that cannot
  pub range-fails : found ≡ group_keys keys of → (AllByRecursion (CanShow group) slots → ⊥) → SumsInRange keys aggregates (once_each of) → ⊥
  range-fails found_is cannot all = cannot (range-can found_is all)
