use Rattle.std.proofs.Common.{ap, length, rules}
use Rattle.cq_encodings_plain.specs.Kind.{datum}
use Rattle.cq_encodings_plain.proofs.Zipped.{length-zipped}
use Rattle.cq_writestore_rows.proofs.number_column.NumberColumn.len.Goals as goal

pub returns : goal.returns
returns c =
    let inside = c.self.inside in
    search (rules, length-zipped (datum inside.kind) inside.numbers.items inside.nulls c.self.invariant.0, ap length c.self.view_is)
