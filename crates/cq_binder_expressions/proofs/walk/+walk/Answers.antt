use Rattle.std.proofs.Common.{◌≡◌, ◌∙◌, ◌<◌, ap, rules, arith, min, length, refl}
use denote.Param.Weighed.{most}
use Rattle.cq_sql_language.proofs.written.ExprNode.TheLaws.{the_size}
use Rattle.cq_sql_language.specs.declared.written.ExprNode.TheViews.{the_lemmas}
use Rattle.cq_binder_expressions.specs.Expressions.{scope_of}
use Rattle.cq_binder_expressions.proofs.Nodes.{connection_chain, goes_on, goes_on_lent, most_take, product_chain, stops, sum_chain}
use Rattle.cq_binder_expressions.proofs.walk.+walk.Goals as goal

pub node_typing-returns-in_err-node_typing-in-Product : goal.node_typing-returns-in_err-node_typing-in-Product
node_typing-returns-in_err-node_typing-in-Product t c = search (rules, stops _ _ _ _ _ (product_chain (scope_of c.args.scope.now) c.args.node.now c.in-Product.first c.in-Product.others c.in-Product.is) c.in_err-node_typing-in-Product.field-0.0 (search rules))

pub node_typing-chain_typing-requires : goal.node_typing-chain_typing-requires
node_typing-chain_typing-requires t c = (search (rules, the_lemmas), tt)

pub node_typing-returns-in_ok-node_typing-in-Product : goal.node_typing-returns-in_ok-node_typing-in-Product
node_typing-returns-in_ok-node_typing-in-Product t c =
    goes_on_lent _ _ _ _ _ (product_chain (scope_of c.args.scope.now) c.args.node.now c.in-Product.first c.in-Product.others c.in-Product.is) c.in_ok-node_typing-in-Product.field-0 _ _ c.chain_typing.ensures c.deref-in-Product-2.ensures.value (search rules)

pub node_typing-returns-in_err-node_typing-in-Sum : goal.node_typing-returns-in_err-node_typing-in-Sum
node_typing-returns-in_err-node_typing-in-Sum t c =
    let chain = sum_chain (scope_of c.args.scope.now) c.args.node.now c.in-Sum.first c.in-Sum.others c.in-Sum.signs _ _ c.in-Sum.is refl refl in
    search (rules, stops _ _ _ _ _ chain c.in_err-node_typing-in-Sum.field-0.0 (search rules))

pub node_typing-chain_typing-requires-in-Sum : goal.node_typing-chain_typing-requires-in-Sum
node_typing-chain_typing-requires-in-Sum t c =
    let below : most the_size c.in-Sum.others.items < the_size c.args.node.now = search (rules, the_lemmas) in
    (omega (arith, below, most_take the_size c.min.result c.deref-in-Sum.result.now, ap (most the_size) c.deref-in-Sum.ensures.value, c.decreases), tt)

pub node_typing-returns-in_ok-node_typing-in-Sum : goal.node_typing-returns-in_ok-node_typing-in-Sum
node_typing-returns-in_ok-node_typing-in-Sum t c =
    let count : c.min.result ≡ min (length c.in-Sum.signs.items) (length c.in-Sum.others.items)
    = omega (arith, c.min.ensures, c.len.ensures, c.len-in-Sum.ensures, c.in-Sum.signs.ok.0, c.in-Sum.others.ok.0) in
    let chain = sum_chain (scope_of c.args.scope.now) c.args.node.now c.in-Sum.first c.in-Sum.others c.in-Sum.signs c.min.result c.deref-in-Sum.result.now c.in-Sum.is count c.deref-in-Sum.ensures.value in
    c.chain_typing-in-Sum.ensures ∙ goes_on _ _ _ _ _ chain c.in_ok-node_typing-in-Sum.field-0 (search rules)

pub node_typing-in_typing-requires : goal.node_typing-in_typing-requires
node_typing-in_typing-requires t c = (search (rules, the_lemmas), tt)

pub node_typing-returns-in_err-node_typing-in-And : goal.node_typing-returns-in_err-node_typing-in-And
node_typing-returns-in_err-node_typing-in-And t c = search (rules, stops _ _ _ _ _ (connection_chain (scope_of c.args.scope.now) c.args.node.now c.in-And.first c.in-And.others c.in-And.is) c.in_err-node_typing-in-And.field-0.0 (search rules))

pub node_typing-chain_typing-requires-in-And : goal.node_typing-chain_typing-requires-in-And
node_typing-chain_typing-requires-in-And t c = (search (rules, the_lemmas), tt)

pub node_typing-returns-in_ok-node_typing-in-And : goal.node_typing-returns-in_ok-node_typing-in-And
node_typing-returns-in_ok-node_typing-in-And t c =
    goes_on_lent _ _ _ _ _ (connection_chain (scope_of c.args.scope.now) c.args.node.now c.in-And.first c.in-And.others c.in-And.is) c.in_ok-node_typing-in-And.field-0 _ _ c.chain_typing-in-And.ensures c.deref-in-And-2.ensures.value (search rules)
