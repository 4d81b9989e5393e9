use Rattle.std.proofs.Common.{◌+ℤ◌, ◌*ℤ◌, ◌^◌, pos, ◌∙◌, ap, ap₂, map, arith, ◌≡◌, to_z, of_z}
use Rattle.std.specs.Int.{w128}
use Rattle.std.proofs.lemmas.Int.{ints, to_z-of_z}
use Rattle.cq_model.specs.Condition.{is_null}
use Rattle.cq_prims_arithmetic.proofs.SumLemmas.{sum_of_numbers}
use Rattle.cq_prims_arithmetic.specs.Sums.{sum_at, sum_of}
use Rattle.cq_prims_arithmetic.proofs.sums.sum_into.Goals as goal

pub returns-in-Some : goal.returns-in-Some
returns-in-Some c =
    let kept : to_z w128 (of_z w128 c.sum_places.result) ≡ c.sum_places.result = search (arith, ints, to_z-of_z) in
    let sum : c.sum_places.result ≡ sum_of c.in-Some.numbers c.args.places.now =
    c.sum_places.ensures.sum ∙ ap₂ sum_at c.values.ensures.values c.places.ensures.places
    ∙ sum_of_numbers c.in-Some.numbers c.values.result.now (map is_null c.in-Some.numbers) c.values.ensures.whole c.args.places.now in
    c.add.ensures ∙ ap (λ n. c.args.total.now +ℤ n) (kept ∙ sum ∙ ap (λ values. sum_of values c.args.places.now) c.in-Some.ensures)

pub returns-in-Wide : goal.returns-in-Wide
returns-in-Wide c =
    let low = c.sum_halves-low.result.0 in
    let high = c.sum_halves-low.result.1 in
    let sum : low +ℤ high *ℤ pos (2 ^ 64) ≡ sum_of c.in-Wide.numbers c.args.places.now =
    c.sum_halves-low.ensures.sum ∙ ap₂ sum_at c.values-in-Wide.ensures.values c.places-in-Wide.ensures.places
    ∙ sum_of_numbers c.in-Wide.numbers c.values-in-Wide.result.now (map is_null c.in-Wide.numbers) c.values-in-Wide.ensures.whole c.args.places.now in
    rw (← c.form.ensures.values, c.in-Wide.is) (search (arith, ints, to_z-of_z, sum))
