use Rattle.std.proofs.Common.{ap, arith, length}
use Rattle.cq_encodings_plain.specs.Kind.{datum}
use Rattle.cq_encodings_plain.proofs.Zipped.{length-zipped}
use Rattle.cq_encodings_plain.proofs.plain_numbers.PlainNumbersEncoded.len.Goals as goal

pub returns : goal.returns
returns c =
    let inside = c.self.inside in
    omega (arith, c.len.ensures, length-zipped (datum inside.kind) inside.numbers.items inside.nulls c.self.invariant.0, ap length c.self.view_is)
