use Rattle.std.proofs.Common.{List, [], ap, arith, false, get_or, length, refl, sym, true, ◌≡◌, ◌∙◌}
use Rattle.cq_values.specs.declared.value.Value.{Value}
use Rattle.cq_values.specs.declared.value.Value.TheVariants.{Null}
use Rattle.cq_vectors_stored.specs.Columns.{text_unless}
use Rattle.cq_encodings.specs.Dict.{coded}
use Rattle.cq_encodings.proofs.Coded.{coded_at, length-coded}
use Rattle.cq_encodings_plain.proofs.Zipped.{zipped_at, zipped_past}
use Rattle.cq_encodings.proofs.dict.DictEncoded.value_at.Goals as goal
use Rattle.cq_encodings.proofs.dict.DictEncoded.value_at.Goals.{then-place-len-via-then-place-len, then-place-len-via-else-place-len+then-at}

pub returns-then-place-len : goal.returns-then-place-len
returns-then-place-len c =
    let inside = c.self.inside in
    let texts = coded inside.entries inside.codes in
    let long : length texts ≡ length inside.codes = length-coded inside.entries inside.codes in
    let same : length inside.nulls ≡ length texts = omega (arith, long, c.self.invariant.0.long) in
    sym (ap (λ (vs : List Value). get_or vs c.args.place Null) (sym c.self.view_is)
    ∙ elim c.then-place-len.branch [
      | then-place-len-via-then-place-len w ↦ zipped_past text_unless texts inside.nulls c.args.place (omega (arith, w.if-place-len.true, c.len.ensures, long)) same
      | then-place-len-via-else-place-len+then-at w ↦
          zipped_at text_unless texts inside.nulls c.args.place [] (get_or texts c.args.place []) true
          (omega (arith, w.if-place-len.false, c.len.ensures, long)) same refl (sym w.at.ensures ∙ w.if-at.true)
    ])

pub returns : goal.returns
returns c =
    let inside = c.self.inside in
    let texts = coded inside.entries inside.codes in
    let long : length texts ≡ length inside.codes = length-coded inside.entries inside.codes in
    let same : length inside.nulls ≡ length texts = omega (arith, long, c.self.invariant.0.long) in
    sym (zipped_at text_unless texts inside.nulls c.args.place [] c.text_at.result.now false
    (omega (arith, c.if-place-len.false, c.len.ensures, long)) same
    (coded_at inside.entries inside.codes c.args.place c.at-2.result (omega (arith, c.if-place-len.false, c.len.ensures)) (sym c.at-2.ensures) ∙ sym c.text_at.ensures)
    (sym c.at.ensures ∙ c.if-at.false))
    ∙ ap (λ (vs : List Value). get_or vs c.args.place Null) c.self.view_is
