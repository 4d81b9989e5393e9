use Rattle.std.proofs.Common.{List, arith, get_or, pos, refl, rules, sym, true, false, w64, ◌+ℤ◌, ◌∙◌, ap, ℤ}
use Rattle.std.specs.Int.{w128}
use mir.Val.{SFits}
use Rattle.std.proofs.lemmas.Int.{to_z-of_z}
use Rattle.cq_values.specs.declared.value.Value.{Value}
use Rattle.cq_values.specs.declared.value.Value.TheVariants.{Null}
use Rattle.cq_encodings_plain.specs.Kind.{datum}
use Rattle.cq_encodings_numbers.proofs.Above.{packed_at, packed_past}
use Rattle.cq_encodings_numbers.proofs.packed.PackedEncoded.value_at.Goals as goal
use Rattle.cq_encodings_numbers.proofs.packed.PackedEncoded.value_at.Goals.{then-place-len-via-then-place-len, then-place-len-via-else-place-len+then-at}

pub returns-then-place-len : goal.returns-then-place-len
returns-then-place-len c =
    let inside = c.self.inside in
    sym (ap (λ (vs : List Value). get_or vs c.args.place Null) (sym c.self.view_is)
    ∙ elim c.then-place-len.branch [
      | then-place-len-via-then-place-len w ↦ packed_past inside.kind inside.least inside.offsets inside.nulls c.self.invariant.are.long c.args.place (omega (arith, w.if-place-len.true, c.len.ensures))
      | then-place-len-via-else-place-len+then-at w ↦
          packed_at inside.kind inside.least inside.offsets inside.nulls c.self.invariant.are.long c.args.place (get_or inside.offsets c.args.place 0) true
          (omega (arith, w.if-place-len.false, c.len.ensures)) refl (sym w.at.ensures ∙ w.if-at.true)
    ])

pub returns : goal.returns
returns c =
    let inside = c.self.inside in
    let least : SFits w64 inside.least = search rules in
    let number : SFits w128 c.raised-number.result = search rules in
    c.lend_number.ensures
    ∙ ap (λ (z : ℤ). datum inside.kind z false)
    (to_z-of_z w128 c.raised-number.result number ∙ c.raised-number.ensures ∙ ap (λ (z : ℤ). z +ℤ pos c.at-2.result) (to_z-of_z w64 inside.least least))
    ∙ sym (packed_at inside.kind inside.least inside.offsets inside.nulls c.self.invariant.are.long c.args.place c.at-2.result false
    (omega (arith, c.if-place-len.false, c.len.ensures)) (sym c.at-2.ensures) (sym c.at.ensures ∙ c.if-at.false))
    ∙ ap (λ (vs : List Value). get_or vs c.args.place Null) c.self.view_is
