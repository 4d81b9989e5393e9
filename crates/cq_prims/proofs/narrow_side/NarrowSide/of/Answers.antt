use Rattle.std.proofs.Common.{◌≡◌, ◌∙◌, ap, ap₂, arith, length, of_z, replicate, rules, subst, sym, to_z, to_z-of_z, w32, List, ℕ, ℤ}
use Rattle.std.proofs.lemmas.Int.{ints}
use Rattle.std.specs.Int.{w128}
use Rattle.cq_values.specs.Lent.{owned}
use Rattle.cq_values.specs.declared.value.Value.{Value}
use Rattle.cq_values.specs.declared.value.Value.TheVariants.{Day, Number}
use Rattle.cq_vectors.specs.Form.{values_in}
use Rattle.cq_prims.specs.Beside.{AreBeside}
use Rattle.cq_prims.proofs.narrow_side.NarrowSide.of.Goals as goal

pub returns-in-Narrow-Number : goal.returns-in-Narrow-Number
returns-in-Narrow-Number c =
    let one = c.in-Narrow-Number in
    let is = sym (ap values_in one.is-0) ∙ c.form.ensures.values in
    let long = sym c.requires ∙ ap length (sym is) in
    let value : to_z w128 (of_z w128 one.value) ≡ one.value = search rules in
    subst (λ (vs : List Value). AreBeside c.of_numbers.result vs c.args.other.now) is
    (c.of_numbers.ensures c.args.other.now (c.in-Some.ensures ∙ ap₂ (λ (n : ℕ) (v : Value). replicate n v) long (ap owned one.is-1 ∙ ap (λ (n : ℤ). Number n) (sym value))))

pub returns-in-NarrowDays-Day : goal.returns-in-NarrowDays-Day
returns-in-NarrowDays-Day c =
    let one = c.in-NarrowDays-Day in
    let is = sym (ap values_in one.is-0) ∙ c.form.ensures.values in
    let long = sym c.requires ∙ ap length (sym is) in
    let number : to_z w32 (of_z w32 c.number.result) ≡ c.number.result = search (arith, ints, to_z-of_z) in
    let day = sym (number ∙ c.number.ensures) in
    subst (λ (vs : List Value). AreBeside c.of_days.result vs c.args.other.now) is
    (c.of_days.ensures c.args.other.now (c.in-Some.ensures ∙ ap₂ (λ (n : ℕ) (v : Value). replicate n v) long (ap owned one.is-1 ∙ ap (λ (d : ℤ). Day d) day)))
