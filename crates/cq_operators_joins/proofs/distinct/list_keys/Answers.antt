use Rattle.std.proofs.Common.{◌≡◌, ◌∙◌, ◌++◌, ℕ, List, Option, ap, arith, subst, take}
use Rattle.std.specs.Prelude.{IfOk}
use Rattle.std.proofs.lemmas.List.{take_all}
use Rattle.cq_values.specs.Value.{Row}
use Rattle.cq_model_bags.specs.declared.sort_key.SortKey.{SortKey}
use Rattle.cq_model_bags.specs.Bag.{once_each}
use Rattle.cq_model_bags.specs.Listing.{IsListing}
use Rattle.cq_operators_listing.specs.Stored.{CanList}
use Rattle.cq_operators_joins.proofs.Kept.{part-next}
use Rattle.cq_operators_joins.proofs.distinct.list_keys.Goals as goal

-- the next keys can be listed too
pub loop-start-preserved : goal.loop-start-preserved
loop-start-preserved c =
    let keys = c.args.keys.now.keys in
    let start = c.loop-start.start in
    let so_far = c.loop-start.invariant in
    record {
      within = omega (arith, c.min-len.ensures, c.loop-start-test.true, c.len-count.ensures);
      keys = c.in_ok-add.ensures.keys ∙ so_far.keys;
      limit = c.in_ok-add.ensures.limit ∙ so_far.limit;
      so_far = subst (CanList c.add.new.self) (ap (λ (more : List Row). take start keys ++ more) c.in_ok-key_batch.ensures ∙ part-next start c.min-len.result keys)
          (c.in_ok-add.ensures.ok (take start keys) so_far.so_far);
    }

-- all can
pub returns : goal.returns
returns c =
    let keys = c.args.keys.now.keys in
    let order = c.args.order.now in
    let list = c.loop-start.list in
    let all : take c.loop-start.start keys ≡ keys = take_all c.loop-start.start keys (omega (arith, c.loop-start-test.false, c.len-count.ensures)) in
    subst (λ (rows : List Row). IfOk c.rows.result (λ shown. IsListing order.keys order.limit (once_each rows) shown)) all
    (subst (λ (limit : Option ℕ). IfOk c.rows.result (λ shown. IsListing order.keys limit (once_each (take c.loop-start.start keys)) shown)) c.loop-start.invariant.limit
    (subst (λ (by : List SortKey). IfOk c.rows.result (λ shown. IsListing by list.limit (once_each (take c.loop-start.start keys)) shown)) c.loop-start.invariant.keys
    (c.rows.ensures (take c.loop-start.start keys) c.loop-start.invariant.so_far)))
