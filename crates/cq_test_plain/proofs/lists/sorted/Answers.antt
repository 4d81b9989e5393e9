use Rattle.std.proofs.Common.{rules}
use Rattle.std.specs.Ordering.{is_lt}
use Rattle.std.proofs.lemmas.Fn.{always_returns_same}
use Rattle.std.proofs.lemmas.List.Sorted.{ranks_by}
use Rattle.cq_values.specs.Value.{Row}
use Rattle.cq_model_bags.specs.Listing.{listing_cmp}
use Rattle.cq_model_bags.proofs.Listings.{listing_cmp_total}
use Rattle.cq_model_bags.proofs.Sorts.{SameBag-permutation, in_order-sorted}
use Rattle.cq_test_plain.proofs.lists.sorted.Goals as goal

pub returns : goal.returns
returns c =
    let keys = c.args.keys.now in
    record {
      same = SameBag-permutation c.args.rows.items c.sort_by.new.self.items c.in_ok-sort_by.ensures.permutation;
      in_order = in_order-sorted (listing_cmp_total keys) c.sort_by.new.self.items
          (c.in_ok-sort_by.ensures.sorted (λ (x y : Row). is_lt (listing_cmp keys x y)) (ranks_by (listing_cmp_total keys) (λ (x : Row). x)) (always_returns_same _ _ _ (λ a r g called. search rules)));
    }
