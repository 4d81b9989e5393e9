use Rattle.std.proofs.Common.{Some, ap, ap₂, false, rules, subst, sym, w64, ℤ, ◌∙◌}
use mir.Val.{SFits}
use Rattle.std.proofs.lemmas.Int.{to_z-of_z}
use Rattle.cq_values.specs.declared.value.Value.{Value}
use Rattle.cq_encodings_plain.specs.Kind.{datum, number_values}
use Rattle.cq_encodings_numbers.specs.Bounds.{AreBounds, Ends}
use Rattle.cq_segments.proofs.number_bounds.bounds_of_numbers.Goals as goal

pub returns : goal.returns
returns c =
    let stands = λ (z : ℤ). datum c.args.kind z false in
    let least_fits : SFits w64 c.in-Some.least = search rules in
    let greatest_fits : SFits w64 c.in-Some.greatest = search rules in
    let least = c.in_ok-value_of.ensures ∙ ap stands (to_z-of_z w64 c.in-Some.least least_fits) in
    let greatest = c.in_ok-value_of-2.ensures ∙ ap stands (to_z-of_z w64 c.in-Some.greatest greatest_fits) in
    subst (λ (ends : Ends). AreBounds false ends (number_values c.args.kind c.args.numbers.now)) (ap₂ (λ (v w : Value). Some (v, w)) (sym least) (sym greatest)) c.in-Some.ensures.some
