-- Rows that go while others come: the bag that is left.
use Rattle.std.proofs.Common.{◌≡◌, pos, neg_ℤ, Bool, not, List, ◌++◌, arith}
use Rattle.std.specs.Prelude.{filter}
use Rattle.std.proofs.lemmas.Int.{ints}
use Rattle.cq_values.specs.Value.{Row}
use Rattle.cq_model_bags.specs.Bag.{SameBag, once_each}
use Rattle.cq_model_bags.specs.Canonical.{bag_of}
use Rattle.cq_model_bags.proofs.Canonicals.{same-bag_of}
use Rattle.cq_model_bags.proofs.Totals.{weight_of-append}
use Rattle.cq_table.proofs.Replaced.{weight_both}
use Rattle.cq_engine_writes.proofs.Changes.{with_fewer}
use Rattle.cq_views.specs.Changes.{exchanged, weighed}

module _ (keep : Row → Bool) (rows gone : List Row) (chosen : bag_of gone ≡ bag_of (filter keep rows)) where
  abbrev left : List Row
  left = filter (λ x. not (keep x)) rows

  -- rows that come in place of those that go
  pub with_exchanged : (come : List Row) → SameBag (once_each (bag_of (left ++ come))) (once_each rows ++ exchanged gone come)
  with_exchanged come = record {
    at = λ r. omega (
      arith,
      ints,
      (with_fewer keep rows gone chosen).at r,
      (same-bag_of left).at r,
      (same-bag_of (left ++ come)).at r,
      weight_both left come r,
      weight_of-append (once_each rows) (weighed gone (neg_ℤ (pos 1))) r,
      weight_of-append (once_each rows) (exchanged gone come) r,
      weight_of-append (weighed gone (neg_ℤ (pos 1))) (weighed come (pos 1)) r,
    );
  }
