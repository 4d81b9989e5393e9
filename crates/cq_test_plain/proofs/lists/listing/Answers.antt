use Rattle.std.proofs.Common.{List, subst}
use Rattle.cq_model_bags.specs.declared.sort_key.SortKey.{SortKey}
use Rattle.cq_model_bags.specs.Bag.{once_each}
use Rattle.cq_model_bags.specs.Listing.{Lists}
use Rattle.cq_test_plain.proofs.lists.listing.Goals as goal

pub returns : goal.returns
returns c =
    let all = subst (λ (keys : List SortKey). Lists keys (once_each c.args.rows.items) c.in_ok-list.list.items) c.as_slice.ensures c.in_ok-list.ensures in
    (c.in_ok-list.list.items, all, c.limited.ensures)
