use Rattle.std.proofs.Common.{IfSome, arith, subst}
use Rattle.cq_values.specs.declared.value.Value.{Value}
use Rattle.cq_encodings_plain.specs.Kind.{StandsFor}
use Rattle.cq_segments_pieces.proofs.ValuesFrom.{value_from}
use Rattle.cq_segments.proofs.numbers.number_at.Goals as goal

pub returns-then-place-len : goal.returns-then-place-len
returns-then-place-len c =
    let read = value_from c.args.columns.now c.in-Some.encoded.now c.in-Some.part c.in-Some.from c.args.column c.args.place c.in-Some.ensures.part (omega (arith, c.if-place-len.true, c.len.ensures.len)) in
    subst (λ (v : Value). IfSome c.number_at.result (λ n. StandsFor n.0 n.1 v)) read c.number_at.ensures
