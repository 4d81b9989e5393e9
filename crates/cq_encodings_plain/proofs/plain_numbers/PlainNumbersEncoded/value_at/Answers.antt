use Rattle.std.proofs.Common.{List, ap, arith, false, get_or, pos, refl, rules, sym, true, w64, ◌∙◌, ℤ}
use mir.Val.{SFits}
use Rattle.std.specs.Int.{w128}
use Rattle.std.proofs.lemmas.Int.{to_z-of_z}
use Rattle.cq_values.specs.declared.value.Value.{Value}
use Rattle.cq_values.specs.declared.value.Value.TheVariants.{Null}
use Rattle.cq_encodings_plain.specs.Kind.{datum}
use Rattle.cq_encodings_plain.proofs.Zipped.{zipped_at, zipped_past}
use Rattle.cq_encodings_plain.proofs.plain_numbers.PlainNumbersEncoded.value_at.Goals as goal
use Rattle.cq_encodings_plain.proofs.plain_numbers.PlainNumbersEncoded.value_at.Goals.{then-place-len-via-then-place-len, then-place-len-via-else-place-len+then-at}

pub returns-then-place-len : goal.returns-then-place-len
returns-then-place-len c =
    let inside = c.self.inside in
    sym (ap (λ (vs : List Value). get_or vs c.args.place Null) (sym c.self.view_is)
    ∙ elim c.then-place-len.branch [
      | then-place-len-via-then-place-len w ↦ zipped_past (datum inside.kind) inside.numbers.items inside.nulls c.args.place (omega (arith, w.if-place-len.true, c.len.ensures)) c.self.invariant.0
      | then-place-len-via-else-place-len+then-at w ↦
          zipped_at (datum inside.kind) inside.numbers.items inside.nulls c.args.place (pos 0) (get_or inside.numbers.items c.args.place (pos 0)) true
          (omega (arith, w.if-place-len.false, c.len.ensures)) c.self.invariant.0 refl (sym w.at.ensures ∙ w.if-at.true)
    ])

pub returns : goal.returns
returns c =
    let inside = c.self.inside in
    let number = c.index.result.now in
    let fits : SFits w64 number = search rules in
    let wide : SFits w128 c.from.result = search rules in
    c.lend_number.ensures
    ∙ ap (λ (z : ℤ). datum inside.kind z false) (to_z-of_z w128 c.from.result wide ∙ c.from.ensures ∙ to_z-of_z w64 number fits)
    ∙ sym (zipped_at (datum inside.kind) inside.numbers.items inside.nulls c.args.place number number false
    (omega (arith, c.if-place-len.false, c.len.ensures)) c.self.invariant.0 (sym c.index.ensures) (sym c.at.ensures ∙ c.if-at.false))
    ∙ ap (λ (vs : List Value). get_or vs c.args.place Null) c.self.view_is
