use Rattle.std.proofs.Common.{◌≡◌, ◌∙◌, ◌<◌, map, ap, rules, arith, min, length}
use Rattle.std.specs.List.{list_any}
use denote.Param.Weighed.{most}
use Rattle.cq_sql_language.proofs.written.ExprNode.TheLaws.{the_size}
use Rattle.cq_sql_language.specs.declared.written.ExprNode.TheViews.{the_lemmas}
use Rattle.cq_sql_language.specs.Written.{written}
use Rattle.cq_binder_rules.specs.Grouping.{has_aggregate}
use Rattle.cq_binder_expressions.proofs.Standing.{in_chain, in_list, in_sum, stands_first, stands_later}
use Rattle.cq_binder_expressions.proofs.Nodes.{most_take}
use Rattle.cq_binder_expressions.proofs.aggregates.+aggregates.Goals as goal

-- a list behind IN
pub has_aggregate-returns-else-has_aggregate-4 : goal.has_aggregate-returns-else-has_aggregate-4
has_aggregate-returns-else-has_aggregate-4 t c =
    let parts = in_list c.args.node.now c.in-In.value c.in-In.entries _ c.in-In.is in
    let entries = ap (λ es. list_any has_aggregate (map written es)) c.deref-else-has_aggregate-4.ensures.value in
    stands_later _ _ _ parts c.has_aggregate-in-In.result (search rules) c.any_has_aggregate.result (search rules) (c.any_has_aggregate.ensures ∙ entries)

-- the later terms of a sum are not larger
pub has_aggregate-any_has_aggregate-requires-else-has_aggregate-5 : goal.has_aggregate-any_has_aggregate-requires-else-has_aggregate-5
has_aggregate-any_has_aggregate-requires-else-has_aggregate-5 t c =
    let below : most the_size c.in-Sum.others.items < the_size c.args.node.now = search (rules, the_lemmas) in
    (omega (arith, below, most_take the_size c.min.result c.deref-in-Sum.result.now, ap (most the_size) c.deref-in-Sum.ensures.value, c.decreases), tt)

pub has_aggregate-returns-then-has_aggregate-5 : goal.has_aggregate-returns-then-has_aggregate-5
has_aggregate-returns-then-has_aggregate-5 t c =
    let count : c.min.result ≡ min (length c.in-Sum.signs.items) (length c.in-Sum.others.items)
    = omega (arith, c.min.ensures, c.len.ensures, c.len-in-Sum.ensures, c.in-Sum.signs.ok.0, c.in-Sum.others.ok.0) in
    let parts = in_sum c.args.node.now c.in-Sum.first c.in-Sum.others c.in-Sum.signs c.min.result c.deref-in-Sum.result.now c.in-Sum.is count c.deref-in-Sum.ensures.value in
    stands_first _ _ _ parts c.has_aggregate-in-Sum.result (search rules) (search rules)

pub has_aggregate-returns-else-has_aggregate-5 : goal.has_aggregate-returns-else-has_aggregate-5
has_aggregate-returns-else-has_aggregate-5 t c =
    let count : c.min.result ≡ min (length c.in-Sum.signs.items) (length c.in-Sum.others.items)
    = omega (arith, c.min.ensures, c.len.ensures, c.len-in-Sum.ensures, c.in-Sum.signs.ok.0, c.in-Sum.others.ok.0) in
    let parts = in_sum c.args.node.now c.in-Sum.first c.in-Sum.others c.in-Sum.signs c.min.result c.deref-in-Sum.result.now c.in-Sum.is count c.deref-in-Sum.ensures.value in
    stands_later _ _ _ parts c.has_aggregate-in-Sum.result (search rules) c.any_has_aggregate-else-has_aggregate-5.result (search rules) c.any_has_aggregate-else-has_aggregate-5.ensures

-- products, AND and OR
pub has_aggregate-returns-then-has_aggregate-6 : goal.has_aggregate-returns-then-has_aggregate-6
has_aggregate-returns-then-has_aggregate-6 t c =
    let parts = in_chain c.args.node.now c.in-Product.first c.in-Product.others c.in-Product.is in
    stands_first _ _ _ parts c.has_aggregate-in-Product.result (search rules) (search rules)

pub has_aggregate-returns-else-has_aggregate-6 : goal.has_aggregate-returns-else-has_aggregate-6
has_aggregate-returns-else-has_aggregate-6 t c =
    let parts = in_chain c.args.node.now c.in-Product.first c.in-Product.others c.in-Product.is in
    let others = ap (λ es. list_any has_aggregate (map written es)) c.deref-else-has_aggregate-6.ensures.value in
    stands_later _ _ _ parts c.has_aggregate-in-Product.result (search rules) c.any_has_aggregate-else-has_aggregate-6.result (search rules) (c.any_has_aggregate-else-has_aggregate-6.ensures ∙ others)
