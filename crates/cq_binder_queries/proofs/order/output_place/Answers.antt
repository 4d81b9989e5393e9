use Rattle.std.proofs.Common.{ℕ, List, [], ◌∷◌, subst}
use Rattle.cq_binder_rules.specs.Orders.{named_check, named_place}
use Rattle.cq_binder_queries.specs.Walk.{WalksTo}
use Rattle.cq_binder_queries.proofs.order.output_place.Goals as goal

pub returns-in-Named : goal.returns-in-Named
returns-in-Named c =
    let names = c.args.names.now in
    let found = subst (λ (name : List ℕ). WalksTo (named_check name names ∷ []) (named_place name names) c.named_place.result) c.as_str.ensures c.named_place.ensures in
    rw c.in-Named.is found
