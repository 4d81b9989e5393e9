-- What a view keeps behind its joins stands for the bag of the rows.
use Rattle.std.proofs.Common.{List, [], ◌∷◌, map, unwrap_or, refl, ◌∙◌}
use Rattle.cq_values.specs.Order.{same_row}
use Rattle.cq_model_bags.specs.Bag.{Weighted, SameBag, projected}
use Rattle.cq_model_bags.proofs.Bags.{same-refl, same-trans, filtered-respects, projected-respects}
use Rattle.cq_model.specs.Expr.{Expr}
use Rattle.cq_model.specs.declared.query.Aggregate.{Aggregate}
use Rattle.cq_model.specs.declared.query.Aggregate.TheVariants.{CountAll, Count, CountDistinct, Sum, Min, Max}
use Rattle.cq_model.specs.declared.query.Query.{Query}
use Rattle.cq_model.specs.declared.query.Shape.{Shape}
use Rattle.cq_model.specs.declared.query.Shape.TheVariants.{Plain, Grouped}
use Rattle.cq_model.specs.Eval.{eval}
use Rattle.cq_model.specs.Group.{count_all, count_values, sum_values, value_bag, key_of, rows_of_key}
use Rattle.cq_model.specs.Meaning.{items_of}
use Rattle.cq_views_model.specs.Kept.{Kept, Counted, Totalled, Listed, IsKept, AreKept, Group, GroupStands, Last, Images, Groups, LastStands, kept_of, built_last}
use Rattle.cq_model_laws.proofs.Groups.{count_all-respects, count-respects, sum-respects}

-- ---- and for their bag alone
kept-respects : (a : Aggregate) (xs ys : Weighted) → SameBag xs ys → (k : Kept) → IsKept a xs k → IsKept a ys k
kept-respects CountAll xs ys s (Counted n) h = h ∙ count_all-respects xs ys s
kept-respects (Count e) xs ys s (Counted n) h = h ∙ count-respects e xs ys s
kept-respects (CountDistinct e) xs ys s (Listed v) h = same-trans v (value_bag e xs) (value_bag e ys) h (projected-respects (λ r. eval e r ∷ []) xs ys s)
kept-respects (Sum e) xs ys s (Totalled n t) h = (
  h.0 ∙ count-respects e xs ys s,
  h.1 ∙ sum-respects e xs ys s,
)
kept-respects (Min e) xs ys s (Listed v) h = same-trans v (value_bag e xs) (value_bag e ys) h (projected-respects (λ r. eval e r ∷ []) xs ys s)
kept-respects (Max e) xs ys s (Listed v) h = same-trans v (value_bag e xs) (value_bag e ys) h (projected-respects (λ r. eval e r ∷ []) xs ys s)
kept-respects CountAll xs ys s (Totalled n t) h = absurd h
kept-respects CountAll xs ys s (Listed v) h = absurd h
kept-respects (Count e) xs ys s (Totalled n t) h = absurd h
kept-respects (Count e) xs ys s (Listed v) h = absurd h
kept-respects (CountDistinct e) xs ys s (Counted n) h = absurd h
kept-respects (CountDistinct e) xs ys s (Totalled n t) h = absurd h
kept-respects (Sum e) xs ys s (Counted n) h = absurd h
kept-respects (Sum e) xs ys s (Listed v) h = absurd h
kept-respects (Min e) xs ys s (Counted n) h = absurd h
kept-respects (Min e) xs ys s (Totalled n t) h = absurd h
kept-respects (Max e) xs ys s (Counted n) h = absurd h
kept-respects (Max e) xs ys s (Totalled n t) h = absurd h

-- and all that is kept of a group
all-kept-respect : (aggregates : List Aggregate) (xs ys : Weighted) → SameBag xs ys → (kept : List Kept) → AreKept aggregates xs kept → AreKept aggregates ys kept
all-kept-respect [] xs ys s [] h = tt
all-kept-respect [] xs ys s (k ∷ kept) h = absurd h
all-kept-respect (a ∷ aggregates) xs ys s [] h = absurd h
all-kept-respect (a ∷ aggregates) xs ys s (k ∷ kept) h = (kept-respects a xs ys s k h.0, all-kept-respect aggregates xs ys s kept h.1)

-- what stands behind the joins stands for the bag
pub last-respects : (q : Query) (shape : Shape) (xs ys : Weighted) → SameBag xs ys → (last : Last) → LastStands q shape xs last → LastStands q shape ys last
last-respects q Plain xs ys s (Images rows) h =
    same-trans rows (projected (items_of q.items) xs) (projected (items_of q.items) ys) h (projected-respects (items_of q.items) xs ys s)
last-respects q Plain xs ys s (Groups group) h = absurd h
last-respects q (Grouped keys aggregates having) xs ys s (Images rows) h = absurd h
last-respects q (Grouped keys aggregates having) xs ys s (Groups group) h = λ k.
    let columns = unwrap_or keys [] in
    let same = filtered-respects (λ r. same_row (key_of columns r) k) xs ys s in
    record {
      count = (h k).count ∙ count_all-respects (rows_of_key columns k xs) (rows_of_key columns k ys) same;
      kept = all-kept-respect aggregates (rows_of_key columns k xs) (rows_of_key columns k ys) same (group k).kept (h k).kept;
    }

-- ---- worked out from scratch
kept_of-is : (a : Aggregate) (xs : Weighted) → IsKept a xs (kept_of xs a)
kept_of-is CountAll xs = refl
kept_of-is (Count e) xs = refl
kept_of-is (CountDistinct e) xs = same-refl (value_bag e xs)
kept_of-is (Sum e) xs = (refl, refl)
kept_of-is (Min e) xs = same-refl (value_bag e xs)
kept_of-is (Max e) xs = same-refl (value_bag e xs)

-- and of all aggregates
all_kept-are : (aggregates : List Aggregate) (xs : Weighted) → AreKept aggregates xs (map (kept_of xs) aggregates)
all_kept-are [] xs = tt
all_kept-are (a ∷ aggregates) xs = (kept_of-is a xs, all_kept-are aggregates xs)

-- what is worked out from the rows stands for them
pub built_last-stands : (q : Query) (shape : Shape) (xs : Weighted) → LastStands q shape xs (built_last q shape xs)
built_last-stands q Plain xs = same-refl (projected (items_of q.items) xs)
built_last-stands q (Grouped keys aggregates having) xs = λ k.
    record { count = refl; kept = all_kept-are aggregates (rows_of_key (unwrap_or keys []) k xs) }
