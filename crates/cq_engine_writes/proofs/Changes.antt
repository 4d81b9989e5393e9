-- The bag of a table behind a write is the one before it with the change, which is the difference of the two.
use Rattle.std.proofs.Common.{◌≡◌, pos, ◌+ℤ◌, neg_ℤ, Bool, not, List, [], ◌∷◌, ◌++◌, sym, arith, subst}
use Rattle.std.specs.Prelude.{filter}
use Rattle.std.proofs.lemmas.Int.{ints}
use Rattle.std.proofs.lemmas.List.{map-append}
use Rattle.cq_values.specs.Order.{same_row}
use Rattle.cq_values.specs.Value.{Row}
use Rattle.cq_model_bags.specs.Bag.{Weighted, SameBag, difference, negative, weight_of, once_each}
use Rattle.cq_model_bags.specs.Canonical.{bag_of}
use Rattle.cq_model_bags.proofs.Bags.{same-sym, same-trans}
use Rattle.cq_model_bags.proofs.Canonicals.{same-bag_of}
use Rattle.cq_model_bags.proofs.Totals.{by_test, weight_of-append, weight_of-negative}
use Rattle.cq_views.specs.Changes.{weighed}

-- rows that come
pub with_more : (rows more : List Row) → SameBag (once_each (bag_of (rows ++ more))) (once_each rows ++ once_each more)
with_more rows more = subst (λ (xs : Weighted). SameBag (once_each (bag_of (rows ++ more))) xs) (map-append (λ r. (r, pos 1)) rows more) (same-bag_of (rows ++ more))

-- rows that go have the opposite weights
weight_gone : (rows : List Row) (r : Row) → weight_of (weighed rows (neg_ℤ (pos 1))) r +ℤ weight_of (once_each rows) r ≡ pos 0
weight_gone [] r = omega (arith, ints)
weight_gone (x ∷ xs) r = by_test (same_row x r)
    (λ k. rw k (omega (arith, ints, weight_gone xs r)))
    (λ k. rw k (omega (arith, ints, weight_gone xs r)))

-- of all rows some are kept and the others are not
weight_split : (keep : Row → Bool) (rows : List Row) (r : Row) → weight_of (once_each rows) r ≡ weight_of (once_each (filter keep rows)) r +ℤ weight_of (once_each (filter (λ x. not (keep x)) rows)) r
weight_split keep [] r = omega (arith, ints)
weight_split keep (x ∷ xs) r = by_test (keep x)
    (λ k. rw k (omega (arith, ints, weight_split keep xs r)))
    (λ k. rw k (omega (arith, ints, weight_split keep xs r)))

-- rows that go
pub with_fewer : (keep : Row → Bool) (rows gone : List Row) → bag_of gone ≡ bag_of (filter keep rows) → SameBag (once_each (bag_of (filter (λ x. not (keep x)) rows))) (once_each rows ++ weighed gone (neg_ℤ (pos 1)))
with_fewer keep rows gone same = same-trans (once_each (bag_of left)) (once_each left) (once_each rows ++ weighed gone (neg_ℤ (pos 1))) (same-bag_of left) (record { at = weights })
  where
    left : List Row
    left = filter (λ x. not (keep x)) rows

    gone_same : SameBag (once_each gone) (once_each (filter keep rows))
    gone_same =
        same-trans (once_each gone) (once_each (bag_of gone)) (once_each (filter keep rows)) (same-sym (once_each (bag_of gone)) (once_each gone) (same-bag_of gone))
        (subst (λ (rs : List Row). SameBag (once_each rs) (once_each (filter keep rows))) (sym same) (same-bag_of (filter keep rows)))

    weights : (r : Row) → weight_of (once_each left) r ≡ weight_of (once_each rows ++ weighed gone (neg_ℤ (pos 1))) r
    weights r = omega (arith, ints, weight_of-append (once_each rows) (weighed gone (neg_ℤ (pos 1))) r, weight_gone gone r, weight_split keep rows r, gone_same.at r)

-- what takes the old bag to the new one is the new one less the old one
pub taken_to : (old new : List Row) (dxs : Weighted) → SameBag (once_each (bag_of new)) (once_each old ++ dxs) → SameBag dxs (difference (once_each new) (once_each old))
taken_to old new dxs is = record {
  at = λ r. omega (
    arith,
    ints,
    is.at r,
    (same-bag_of new).at r,
    weight_of-append (once_each old) dxs r,
    weight_of-append (once_each new) (negative (once_each old)) r,
    weight_of-negative (once_each old) r,
  );
}
