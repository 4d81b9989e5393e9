-- Groups that stand for few and small rows hold, and can be shown where the model's can.
use Rattle.std.proofs.Common.{◌≡◌, ℕ, ◌+◌, ◌<◌, ◌≤◌, ◌^◌, ◌↔◌, List, [], ◌∷◌, map, Option, unwrap_or, sym, ◌∙◌, ap, subst, arith}
use Rattle.std.specs.List.{AllByRecursion}
use Rattle.std.proofs.lemmas.Int.{ints}
use Rattle.cq_values.specs.Value.{Row}
use Rattle.cq_model_bags.specs.Bag.{Weighted}
use Rattle.cq_model.specs.declared.query.Aggregate.{Aggregate}
use Rattle.cq_model.specs.declared.query.Aggregate.TheVariants.{CountAll, Count, CountDistinct, Sum, Min, Max}
use Rattle.cq_model.specs.Group.{rows_of_key, InRange, SumInRange}
use Rattle.cq_views_model.specs.Kept.{Kept, Counted, Totalled, Listed, IsKept, AreKept, Group, GroupStands, group_of, kept_of}
use Rattle.cq_deltas.specs.Additions.{Addition}
use Rattle.cq_deltas.specs.Additions.{additions}
use Rattle.cq_deltas.specs.Kept.{KeptHolds, GroupHolds}
use Rattle.cq_deltas.specs.Laws.{AreSmall}
use Rattle.cq_deltas.specs.Keyed.{KeyedGroups, group_at, group_with_all, count_moves, all_total_moves, HoldsFor}
use Rattle.cq_deltas.specs.Shown.{CanBeShown, AllCanBeShown}
use Rattle.cq_deltas.proofs.NoRows.{none-stands}
use Rattle.cq_deltas.proofs.Ranges.{group_with_all-holds}
use Rattle.cq_deltas.proofs.Rowwise.{rowwise-stands}
use Rattle.cq_deltas.specs.Extremes.{alone}

-- of what is kept of the same rows, one holds while another does
alike-holds : (counts totals : ℕ) (a : Aggregate) (xs : Weighted) (k l : Kept) → IsKept a xs k → IsKept a xs l → KeptHolds counts totals k → KeptHolds counts totals l
alike-holds counts totals CountAll xs (Counted n) (Counted m) g h holds = rw (h ∙ sym g) holds
alike-holds counts totals (Count e) xs (Counted n) (Counted m) g h holds = rw (h ∙ sym g) holds
alike-holds counts totals (Sum e) xs (Totalled n t) (Totalled m s) g h holds = (rw (h.0 ∙ sym g.0) holds.0, rw (h.1 ∙ sym g.1) holds.1)
alike-holds counts totals (CountDistinct e) xs (Listed vs) (Listed ws) g h holds = λ v. rw (h.at (alone v) ∙ sym (g.at (alone v))) (holds v)
alike-holds counts totals (Min e) xs (Listed vs) (Listed ws) g h holds = λ v. rw (h.at (alone v) ∙ sym (g.at (alone v))) (holds v)
alike-holds counts totals (Max e) xs (Listed vs) (Listed ws) g h holds = λ v. rw (h.at (alone v) ∙ sym (g.at (alone v))) (holds v)
alike-holds counts totals CountAll xs (Counted n) (Totalled m s) g h holds = absurd h
alike-holds counts totals CountAll xs (Counted n) (Listed ws) g h holds = absurd h
alike-holds counts totals CountAll xs (Totalled n t) l g h holds = absurd g
alike-holds counts totals CountAll xs (Listed vs) l g h holds = absurd g
alike-holds counts totals (Count e) xs (Counted n) (Totalled m s) g h holds = absurd h
alike-holds counts totals (Count e) xs (Counted n) (Listed ws) g h holds = absurd h
alike-holds counts totals (Count e) xs (Totalled n t) l g h holds = absurd g
alike-holds counts totals (Count e) xs (Listed vs) l g h holds = absurd g
alike-holds counts totals (Sum e) xs (Totalled n t) (Counted m) g h holds = absurd h
alike-holds counts totals (Sum e) xs (Totalled n t) (Listed ws) g h holds = absurd h
alike-holds counts totals (Sum e) xs (Counted n) l g h holds = absurd g
alike-holds counts totals (Sum e) xs (Listed vs) l g h holds = absurd g
alike-holds counts totals (CountDistinct e) xs (Listed vs) (Counted m) g h holds = absurd h
alike-holds counts totals (CountDistinct e) xs (Listed vs) (Totalled m s) g h holds = absurd h
alike-holds counts totals (CountDistinct e) xs (Counted n) l g h holds = absurd g
alike-holds counts totals (CountDistinct e) xs (Totalled n t) l g h holds = absurd g
alike-holds counts totals (Min e) xs (Listed vs) (Counted m) g h holds = absurd h
alike-holds counts totals (Min e) xs (Listed vs) (Totalled m s) g h holds = absurd h
alike-holds counts totals (Min e) xs (Counted n) l g h holds = absurd g
alike-holds counts totals (Min e) xs (Totalled n t) l g h holds = absurd g
alike-holds counts totals (Max e) xs (Listed vs) (Counted m) g h holds = absurd h
alike-holds counts totals (Max e) xs (Listed vs) (Totalled m s) g h holds = absurd h
alike-holds counts totals (Max e) xs (Counted n) l g h holds = absurd g
alike-holds counts totals (Max e) xs (Totalled n t) l g h holds = absurd g

all-alike-hold : (counts totals : ℕ) (aggregates : List Aggregate) (xs : Weighted) (ks ls : List Kept) → AreKept aggregates xs ks → AreKept aggregates xs ls → AllByRecursion (KeptHolds counts totals) ks
    → AllByRecursion (KeptHolds counts totals) ls
all-alike-hold counts totals [] xs ks [] g h holds = tt
all-alike-hold counts totals [] xs ks (l ∷ ls) g h holds = absurd h
all-alike-hold counts totals (a ∷ aggregates) xs [] ls g h holds = absurd g
all-alike-hold counts totals (a ∷ aggregates) xs (k ∷ ks) [] g h holds = absurd h
all-alike-hold counts totals (a ∷ aggregates) xs (k ∷ ks) (l ∷ ls) g h holds = (alike-holds counts totals a xs k l g.0 h.0 holds.0, all-alike-hold counts totals aggregates xs ks ls g.1 h.1 holds.1)

-- so it is with groups
group-alike-holds : (counts totals : ℕ) (aggregates : List Aggregate) (xs : Weighted) (g h : Group) → GroupStands aggregates xs g → GroupStands aggregates xs h → GroupHolds counts totals g → GroupHolds counts totals h
group-alike-holds counts totals aggregates xs g h stands other holds = record {
  count = rw (other.count ∙ sym stands.count) holds.count;
  kept = all-alike-hold counts totals aggregates xs g.kept h.kept stands.kept other.kept holds.kept;
}

-- what is kept of no rows holds while it may
nothing-holds : (counts totals : ℕ) (aggregates : List Aggregate) → counts < 2 ^ 127 → totals ≤ 2 ^ 250 → AllByRecursion (KeptHolds counts totals) (map (kept_of []) aggregates)
nothing-holds counts totals [] x y = tt
nothing-holds counts totals (CountAll ∷ aggregates) x y = (omega (arith, ints, x), nothing-holds counts totals aggregates x y)
nothing-holds counts totals (Count e ∷ aggregates) x y = (omega (arith, ints, x), nothing-holds counts totals aggregates x y)
nothing-holds counts totals (Sum e ∷ aggregates) x y = ((omega (arith, ints, x), omega (arith, ints, y)), nothing-holds counts totals aggregates x y)
nothing-holds counts totals (CountDistinct e ∷ aggregates) x y = (λ v. omega (arith, ints, x), nothing-holds counts totals aggregates x y)
nothing-holds counts totals (Min e ∷ aggregates) x y = (λ v. omega (arith, ints, x), nothing-holds counts totals aggregates x y)
nothing-holds counts totals (Max e ∷ aggregates) x y = (λ v. omega (arith, ints, x), nothing-holds counts totals aggregates x y)

pub small-hold : (columns : List ℕ) (aggregates : List Aggregate) (xs : Weighted) (table : KeyedGroups) (change : List Addition)
    → ((k : Row) → GroupStands aggregates (rows_of_key columns k xs) (group_at aggregates table k)) → AreSmall (additions columns aggregates xs) change → HoldsFor change table
small-hold columns aggregates xs table change stands small = record {
  at = λ k g is.
      let rows = rows_of_key columns k xs in
      let none = group_of aggregates [] in
      let own : group_at aggregates table k ≡ g = ap (λ (o : Option Group). unwrap_or o none) is in
      group-alike-holds (count_moves change) (all_total_moves change) aggregates rows (group_with_all (additions columns aggregates xs) k none) g
      (rowwise-stands columns aggregates k [] xs none (none-stands aggregates)) (subst (GroupStands aggregates rows) own (stands k))
      (group_with_all-holds (additions columns aggregates xs) k (count_moves change) (all_total_moves change) none (record {
        count = omega (arith, ints, small.counts);
        kept = nothing-holds (count_moves (additions columns aggregates xs) + count_moves change) (all_total_moves (additions columns aggregates xs) + all_total_moves change) aggregates small.counts small.totals;
      }));
}

-- what is kept can be shown exactly where the totals can
range-shown : (a : Aggregate) (xs : Weighted) (k : Kept) → IsKept a xs k → CanBeShown a k ↔ SumInRange a xs
range-shown (Sum e) xs (Totalled n total) h = (λ can. subst InRange h.1 can, λ can. subst InRange (sym h.1) can)
range-shown (Sum e) xs (Counted n) h = absurd h
range-shown (Sum e) xs (Listed values) h = absurd h
range-shown CountAll xs k h = (λ can. tt, λ can. tt)
range-shown (Count e) xs k h = (λ can. tt, λ can. tt)
range-shown (CountDistinct e) xs k h = (λ can. tt, λ can. tt)
range-shown (Min e) xs k h = (λ can. tt, λ can. tt)
range-shown (Max e) xs k h = (λ can. tt, λ can. tt)

ranges-shown : (aggregates : List Aggregate) (xs : Weighted) (kept : List Kept) → AreKept aggregates xs kept → AllCanBeShown aggregates kept ↔ AllByRecursion (λ a. SumInRange a xs) aggregates
ranges-shown [] xs kept h = (λ all. tt, λ all. tt)
ranges-shown (a ∷ aggregates) xs [] h = absurd h
ranges-shown (a ∷ aggregates) xs (k ∷ kept) h =
    let here = range-shown a xs k h.0 in
    let rest = ranges-shown aggregates xs kept h.1 in
    (λ all. (here.0 all.0, rest.0 all.1), λ all. (here.1 all.0, rest.1 all.1))

pub ranges-show : (aggregates : List Aggregate) (xs : Weighted) (g : Group) → GroupStands aggregates xs g → AllCanBeShown aggregates g.kept ↔ AllByRecursion (λ a. SumInRange a xs) aggregates
ranges-show aggregates xs g h = ranges-shown aggregates xs g.kept h.kept

-- groups of no rows hold for a small change
pub first-hold : (aggregates : List Aggregate) (table : KeyedGroups) (change : List Addition) → ((k : Row) → group_at aggregates table k ≡ group_of aggregates []) → AreSmall [] change → HoldsFor change table
first-hold aggregates table change none small = small-hold [] aggregates [] table change (λ k. subst (GroupStands aggregates []) (sym (none k)) (none-stands aggregates)) small
