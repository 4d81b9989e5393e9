use Rattle.std.proofs.Common.{List, [], ap, arith, false, get_or, refl, sym, true, ◌∙◌}
use Rattle.cq_values.specs.declared.value.Value.{Value}
use Rattle.cq_values.specs.declared.value.Value.TheVariants.{Null}
use Rattle.cq_vectors_stored.specs.Columns.{text_unless}
use Rattle.cq_encodings_plain.proofs.Zipped.{zipped_at, zipped_past}
use Rattle.cq_encodings_plain.proofs.plain_texts.PlainTextsEncoded.value_at.Goals as goal
use Rattle.cq_encodings_plain.proofs.plain_texts.PlainTextsEncoded.value_at.Goals.{then-place-len-via-then-place-len, then-place-len-via-else-place-len+then-at}

pub returns-then-place-len : goal.returns-then-place-len
returns-then-place-len c =
    let inside = c.self.inside in
    sym (ap (λ (vs : List Value). get_or vs c.args.place Null) (sym c.self.view_is)
    ∙ elim c.then-place-len.branch [
      | then-place-len-via-then-place-len w ↦ zipped_past text_unless inside.texts inside.nulls c.args.place (omega (arith, w.if-place-len.true, c.len.ensures.len)) c.self.invariant.0
      | then-place-len-via-else-place-len+then-at w ↦
          zipped_at text_unless inside.texts inside.nulls c.args.place [] (get_or inside.texts c.args.place []) true
          (omega (arith, w.if-place-len.false, c.len.ensures.len)) c.self.invariant.0 refl (sym w.at.ensures ∙ w.if-at.true)
    ])

pub returns : goal.returns
returns c =
    let inside = c.self.inside in
    sym (zipped_at text_unless inside.texts inside.nulls c.args.place [] c.get.result.now false
    (omega (arith, c.if-place-len.false, c.len.ensures.len)) c.self.invariant.0 (sym c.get.ensures) (sym c.at.ensures ∙ c.if-at.false))
    ∙ ap (λ (vs : List Value). get_or vs c.args.place Null) c.self.view_is
