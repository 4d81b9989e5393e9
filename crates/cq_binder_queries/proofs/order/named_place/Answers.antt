use Rattle.std.proofs.Common.{sym, ap, ◌∙◌, false, true}
use Rattle.std.specs.Prelude.{unwrap_or}
use Rattle.std.proofs.lemmas.List.{take_rest}
use Rattle.cq_binder_queries.proofs.Ordering.{repeat_is_ambiguous, unknown_name}
use Rattle.cq_binder_queries.proofs.order.named_place.Goals as goal

pub returns-in-None : goal.returns-in-None
returns-in-None c = unknown_name c.args.name.now c.args.names.now (sym c.first_named.ensures ∙ c.in-None.is)

pub returns-then-is_named : goal.returns-then-is_named
returns-then-is_named c =
    let name = c.args.name.now in
    let names = c.args.names.now in
    let again = rw take_rest at (sym c.is_named.ensures ∙ c.if-is_named.true) in
    repeat_is_ambiguous name names c.in-Some.place true (sym c.first_named.ensures ∙ c.in-Some.is) again

pub returns-else-is_named : goal.returns-else-is_named
returns-else-is_named c =
    let name = c.args.name.now in
    let names = c.args.names.now in
    let there = sym c.first_named.ensures ∙ c.in-Some.is in
    let again = rw take_rest at (sym c.is_named.ensures ∙ c.if-is_named.false) in
    (repeat_is_ambiguous name names c.in-Some.place false there again, sym (ap (λ o. unwrap_or o 0) there))
