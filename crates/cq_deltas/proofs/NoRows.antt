-- A bag in which no row is counted has none, and so its group is that of no rows.
use Rattle.std.proofs.Common.{◌≡◌, pos, false, cond, List, [], ◌∷◌, map, refl, sym, ◌∙◌, ap, subst, int_lt, true≢false}
use Rattle.std.specs.List.{list_any}
use Rattle.cq_values.specs.Value.{Row}
use Rattle.cq_values.specs.Order.{same_row}
use Rattle.cq_values.specs.Keys.{same_row-refl}
use Rattle.cq_model_bags.specs.Bag.{Weighted, weight_of, SameBag, IsBag, once_each, distinct_rows, projected}
use Rattle.cq_model_bags.proofs.Bags.{same-refl, projected-respects}
use Rattle.cq_model_bags.proofs.Totals.{is_row, total-same}
use Rattle.cq_model_bags.proofs.Linears.{weight_of-projected}
use Rattle.cq_model_bags.proofs.Entries.{weighed, bag-entries, image-there}
use Rattle.cq_model.specs.declared.query.Aggregate.{Aggregate}
use Rattle.cq_model.specs.declared.query.Aggregate.TheVariants.{CountAll, Count, CountDistinct, Sum, Min, Max}
use Rattle.cq_model.specs.Eval.{eval}
use Rattle.cq_model.specs.Group.{count_all}
use Rattle.cq_views_model.specs.Kept.{AreKept, GroupStands, group_of, kept_of}
use Rattle.cq_model_laws.proofs.Groups.{count_all-respects, count-respects, sum-respects}

none-among : (rows : List Row) → list_any (λ r. same_row [] []) rows ≡ false → rows ≡ []
none-among [] h = refl
none-among (r ∷ rows) h = absurd (true≢false (sym (rw (same_row-refl []) refl) ∙ h))

-- a bag that counts no row is the empty one
pub nothing-counted : (xs : Weighted) → IsBag xs → count_all xs ≡ pos 0 → SameBag [] xs
nothing-counted xs bag none =
    let counted : weight_of (projected (λ r. []) xs) [] ≡ count_all xs =
    weight_of-projected (λ r. []) xs [] ∙ total-same (λ r. is_row [] []) (λ r. pos 1) (λ r. ap (λ b. cond b (pos 1) (pos 0)) (same_row-refl [])) xs in
    let rows = none-among (distinct_rows xs) (sym (image-there (λ r. []) xs bag []) ∙ ap (int_lt (pos 0)) (counted ∙ none)) in
    subst (λ (rows : List Row). SameBag (weighed (weight_of xs) (once_each rows)) xs) rows (bag-entries xs bag)

-- then what is kept of no rows is kept of it
all_kept-empty : (aggregates : List Aggregate) (xs : Weighted) → SameBag [] xs → AreKept aggregates xs (map (kept_of []) aggregates)
all_kept-empty [] xs s = tt
all_kept-empty (CountAll ∷ aggregates) xs s = (count_all-respects [] xs s, all_kept-empty aggregates xs s)
all_kept-empty (Count e ∷ aggregates) xs s = (count-respects e [] xs s, all_kept-empty aggregates xs s)
all_kept-empty (Sum e ∷ aggregates) xs s = ((count-respects e [] xs s, sum-respects e [] xs s), all_kept-empty aggregates xs s)
all_kept-empty (CountDistinct e ∷ aggregates) xs s = (projected-respects (λ r. eval e r ∷ []) [] xs s, all_kept-empty aggregates xs s)
all_kept-empty (Min e ∷ aggregates) xs s = (projected-respects (λ r. eval e r ∷ []) [] xs s, all_kept-empty aggregates xs s)
all_kept-empty (Max e ∷ aggregates) xs s = (projected-respects (λ r. eval e r ∷ []) [] xs s, all_kept-empty aggregates xs s)

-- and of none
pub all_kept-none : (aggregates : List Aggregate) → AreKept aggregates [] (map (kept_of []) aggregates)
all_kept-none aggregates = all_kept-empty aggregates [] (same-refl [])

-- the group of no rows stands for a bag that counts none
pub empty-stands : (aggregates : List Aggregate) (xs : Weighted) → IsBag xs → count_all xs ≡ pos 0 → GroupStands aggregates xs (group_of aggregates [])
empty-stands aggregates xs bag none = record { count = sym none; kept = all_kept-empty aggregates xs (nothing-counted xs bag none) }

-- and for none
pub none-stands : (aggregates : List Aggregate) → GroupStands aggregates [] (group_of aggregates [])
none-stands aggregates = record { count = refl; kept = all_kept-none aggregates }
