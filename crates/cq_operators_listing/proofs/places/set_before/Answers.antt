use Rattle.std.proofs.Common.{Bool, replicate, sym, ◌∙◌, ap₂, subst}
use Rattle.cq_values.specs.Value.{column}
use Rattle.cq_operators_listing.specs.Places.{TellBefore}
use Rattle.cq_operators_listing.proofs.Truths.{known_long, told_down, told_up}
use Rattle.cq_operators_listing.proofs.places.set_before.Goals as goal

pub or_with-requires : goal.or_with-requires
or_with-requires c =
    let same = c.new-worst.ensures ∙ ap₂ replicate c.len.ensures.len c.lend.ensures in
    known_long c.args.values.now c.new-worst.result (column c.args.worst.now c.args.key.column) same c.compare.new.to c.is_null.new.to c.compare.ensures c.is_null.ensures

pub returns-then-key : goal.returns-then-key
returns-then-key c =
    let values = c.args.values.now in
    let worst = column c.args.worst.now c.args.key.column in
    let same = c.new-worst.ensures ∙ ap₂ replicate c.len.ensures.len c.lend.ensures in
    subst (λ (descending : Bool). TellBefore descending values worst c.or_with.new.self) (sym c.if-key.true)
    (told_down values c.new-worst.result worst same c.compare.new.to c.is_null.new.to c.or_with.new.self c.compare.ensures c.is_null.ensures c.or_with.ensures)

pub returns : goal.returns
returns c =
    let values = c.args.values.now in
    let worst = column c.args.worst.now c.args.key.column in
    let same = c.new-worst.ensures ∙ ap₂ replicate c.len.ensures.len c.lend.ensures in
    subst (λ (descending : Bool). TellBefore descending values worst c.compare-else-key.new.to) (sym c.if-key.false)
    (told_up values c.new-worst.result worst same c.compare-else-key.new.to c.compare-else-key.ensures)
