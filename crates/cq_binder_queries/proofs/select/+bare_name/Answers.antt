use Rattle.std.proofs.Common.{rules, tests, arith, ◌≡◌, ◌⊎◌, inl, inr, length, sym}
use Rattle.cq_binder_queries.proofs.BareNames.{chain_of, one_part, several_parts, sum_of_one, sum_of_several}
use Rattle.cq_binder_queries.proofs.select.+bare_name.Goals.{then-is_empty, else-is_empty}
use Rattle.cq_binder_queries.proofs.select.+bare_name.Goals as goal

pub returns-then-is_empty-2 : goal.returns-then-is_empty-2
returns-then-is_empty-2 t c =
    let none : (length c.in-Sum.signs.items ≡ 0) ⊎ (length c.in-Sum.rest.items ≡ 0)
    = elim c.if-is_empty.branch [ then-is_empty w ↦ inl (search (rules, tests, arith)) | else-is_empty w ↦ inr (search (rules, tests, arith)) ] in
    let one = sum_of_one c.args.node.now c.in-Sum.first c.in-Sum.rest c.in-Sum.signs c.in-Sum.is none in
    search (rules, one)

pub returns-else-is_empty-2 : goal.returns-else-is_empty-2
returns-else-is_empty-2 t c =
    elim c.if-is_empty.branch [
      | then-is_empty w ↦ absurd (search (rules, tests, arith))
      | else-is_empty w ↦ sym (sum_of_several c.args.node.now c.in-Sum.first c.in-Sum.rest c.in-Sum.signs c.in-Sum.is (search (rules, tests, arith)) (search (rules, tests, arith)))
    ]

pub returns-then-is_empty-3 : goal.returns-then-is_empty-3
returns-then-is_empty-3 t c =
    let chain = chain_of c.args.node.now c.in-Product.first c.in-Product.rest c.in-Product.is in
    let one = one_part _ _ _ chain (search (rules, tests, arith)) in
    search (rules, one)

pub returns-else-is_empty-3 : goal.returns-else-is_empty-3
returns-else-is_empty-3 t c =
    let chain = chain_of c.args.node.now c.in-Product.first c.in-Product.rest c.in-Product.is in
    sym (several_parts _ _ _ chain (search (rules, tests, arith)))
