use Rattle.std.proofs.Common.{arith, refl}
use Rattle.cq_operators_listing.specs.InOrder.{EachInOrder}
use Rattle.cq_operators_listing.proofs.Sorting.{lists-in_order}
use Rattle.cq_operators_listing.proofs.arranging.is_listed.Goals as goal

pub returns : goal.returns
returns c =
    let each : EachInOrder c.args.keys.now c.args.rows.now = λ k d high. c.loop-place.invariant k d (omega (arith, high)) in
    record { order = (λ e. each, λ e. refl); listed = lists-in_order c.args.keys.now c.args.rows.now each }
