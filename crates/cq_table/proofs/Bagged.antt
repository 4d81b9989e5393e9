-- Stored rows, and the bag that they are.
use Rattle.std.proofs.Common.{◌≡◌, ℕ, Bool, List, [], ◌++◌, length, arith, refl, sym, ap, ◌∙◌, subst}
use Rattle.std.specs.Prelude.{filter}
use Rattle.cq_values.specs.Value.{Row}
use Rattle.cq_model_bags.specs.Bag.{Weighted, SameBag, once_each, filtered}
use Rattle.cq_model_bags.specs.Canonical.{bag_of}
use Rattle.cq_model_bags.proofs.Bags.{same-sym, filtered-respects}
use Rattle.cq_model_bags.proofs.Distincts.{once_each-filter}
use Rattle.cq_model_bags.proofs.Canonicals.{bag_of-again, bag_of-weights, length-bag_of, same-bag_of}
use Rattle.cq_values.specs.declared.column.ColumnDef.{ColumnDef}
use Rattle.cq_model_state.specs.Fitting.{FitsColumns}
use Rattle.cq_table.specs.Table.{AreSound}
use Rattle.cq_table.proofs.RowLists.{all_of_bag}

-- no rows are the empty bag
pub bag_of_none : bag_of [] ≡ []
unfolding bag_of
bag_of_none = refl

-- more rows behind the stored ones are more rows in the bag
pub bag_of_more : (stored more : List Row) → bag_of (stored ++ more) ≡ bag_of (bag_of stored ++ more)
bag_of_more stored more = sym (bag_of-again stored more)

-- rows that are sound make a sound bag
pub sound_bag : (columns : List ColumnDef) (max_rows : ℕ) (stored : List Row) → AreSound columns max_rows stored → AreSound columns max_rows (bag_of stored)
sound_bag columns max_rows stored sound = record { fitting = all_of_bag (FitsColumns columns) stored sound.fitting; limited = omega (arith, sound.limited, length-bag_of stored) }

-- what is kept of the stored rows is what is kept of their bag
same_kept : (keep : Row → Bool) (stored : List Row) → SameBag (filtered keep (once_each stored)) (filtered keep (once_each (bag_of stored)))
same_kept keep stored = filtered-respects keep (once_each stored) (once_each (bag_of stored)) (same-sym (once_each (bag_of stored)) (once_each stored) (same-bag_of stored))

-- one list stands for what is kept, of the stored rows and of their bag
pub bag_of_kept : (keep : Row → Bool) (stored : List Row) → bag_of (filter keep stored) ≡ bag_of (filter keep (bag_of stored))
bag_of_kept keep stored =
    bag_of-weights (filter keep stored) (filter keep (bag_of stored))
    (subst (λ (xs : Weighted). SameBag xs (once_each (filter keep (bag_of stored)))) (sym (once_each-filter keep stored))
    (subst (λ (xs : Weighted). SameBag (filtered keep (once_each stored)) xs) (sym (once_each-filter keep (bag_of stored))) (same_kept keep stored)))

-- as many are kept of the stored rows as of their bag
pub length-kept : (keep : Row → Bool) (stored : List Row) → length (filter keep stored) ≡ length (filter keep (bag_of stored))
length-kept keep stored = sym (length-bag_of (filter keep stored)) ∙ ap length (bag_of_kept keep stored) ∙ length-bag_of (filter keep (bag_of stored))
