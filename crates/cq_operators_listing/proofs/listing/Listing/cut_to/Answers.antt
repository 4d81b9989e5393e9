use Rattle.std.proofs.Common.{◌≡◌, List, Some, ap, arith, subst, ◌∙◌}
use Rattle.cq_values.specs.Value.{Row}
use Rattle.cq_model_bags.specs.declared.sort_key.SortKey.{SortKey}
use Rattle.cq_model_bags.specs.Bag.{once_each}
use Rattle.cq_model_bags.specs.Listing.{IsListing}
use Rattle.cq_operators_listing.specs.Stored.{StoredListing, kept_for}
use Rattle.cq_operators_listing.proofs.Fronts.{can_list-cut, front_where, in_order-first}
use Rattle.cq_operators_listing.proofs.listing.Listing.cut_to.Goals as goal

-- the rows that are left are the first ones in order
pub invariant_of-self-2 : goal.invariant_of-self-2
invariant_of-self-2 c =
    let keys = c.self.inside.order.now.keys in
    let shown = c.in_ok-self-inside.field-0 in
    let first = subst (λ (keys : List SortKey). IsListing keys (Some c.args.count) (once_each c.replace-all.result) shown) c.as_slice.ensures c.in_ok-self-inside.ensures in
    front_where (kept_for c.self.inside.order.now shown) c.front_within-self-inside.result c.args.count c.len.result c.front_within-self-inside.ensures
    (λ there. record {
      limit = ap (λ (s : StoredListing). s.limit) c.self.view_is ∙ c.requires;
      enough = omega (arith, there, c.len.ensures);
      in_order = in_order-first keys c.args.count (once_each c.replace-all.result) shown first;
    })

pub returns-clause-ok : goal.returns-clause-ok
returns-clause-ok c all can =
    let old = c.args.self.now in
    let shown = c.in_ok-self-inside.field-0 in
    let keys = ap (λ (s : StoredListing). s.keys) c.self.view_is in
    let rows : c.replace-all.result ≡ old.rows = c.replace-all.ensures.value ∙ ap (λ (s : StoredListing). s.rows) c.self.view_is in
    let first = subst (λ (keys : List SortKey). IsListing keys (Some c.args.count) (once_each c.replace-all.result) shown) (c.as_slice.ensures ∙ keys) c.in_ok-self-inside.ensures in
    can_list-cut old (kept_for c.self.inside.order.now shown) c.args.count keys (ap (λ (s : StoredListing). s.limit) c.self.view_is) c.requires
    (subst (λ (all : List Row). IsListing old.keys (Some c.args.count) (once_each all) shown) rows first) all can
