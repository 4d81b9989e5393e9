use Rattle.std.proofs.Common.{List, ap, arith, get_or, sym, ◌∙◌}
use Rattle.cq_values.specs.declared.value.Value.{Value}
use Rattle.cq_values.specs.declared.value.Value.TheVariants.{Null}
use Rattle.cq_encodings_numbers.specs.Deltas.{bits_datum}
use Rattle.cq_encodings_plain.proofs.Zipped.{zipped_at, zipped_past}
use Rattle.cq_encodings_numbers.proofs.deltas.DeltasEncoded.value_at.Goals as goal

pub returns-then-place-len : goal.returns-then-place-len
returns-then-place-len c =
    let inside = c.self.inside in
    sym (ap (λ (vs : List Value). get_or vs c.args.place Null) (sym c.self.view_is)
    ∙ zipped_past (bits_datum inside.kind) inside.numbers inside.nulls c.args.place (omega (arith, c.if-place-len.true, c.len.ensures)) c.self.invariant)

pub returns : goal.returns
returns c =
    let inside = c.self.inside in
    c.lend_bits.ensures
    ∙ sym (zipped_at (bits_datum inside.kind) inside.numbers inside.nulls c.args.place 0 c.at.result c.at-2.result
    (omega (arith, c.if-place-len.false, c.len.ensures)) c.self.invariant (sym c.at.ensures) (sym c.at-2.ensures))
    ∙ ap (λ (vs : List Value). get_or vs c.args.place Null) c.self.view_is
