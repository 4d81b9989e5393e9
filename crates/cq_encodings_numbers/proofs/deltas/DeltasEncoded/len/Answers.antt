use Rattle.std.proofs.Common.{ap, arith, length}
use Rattle.cq_encodings_numbers.specs.Deltas.{bits_datum}
use Rattle.cq_encodings_plain.proofs.Zipped.{length-zipped}
use Rattle.cq_encodings_numbers.proofs.deltas.DeltasEncoded.len.Goals as goal

pub returns : goal.returns
returns c =
    let inside = c.self.inside in
    omega (arith, c.len.ensures, length-zipped (bits_datum inside.kind) inside.numbers inside.nulls c.self.invariant, ap length c.self.view_is)
