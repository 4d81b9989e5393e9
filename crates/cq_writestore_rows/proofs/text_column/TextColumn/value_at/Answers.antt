use Rattle.std.proofs.Common.{List, [], ap, arith, false, get_or, length, sym, ◌∙◌, ◌<◌}
use Rattle.cq_values.specs.declared.value.Value.{Value}
use Rattle.cq_values.specs.declared.value.Value.TheVariants.{Null}
use Rattle.cq_vectors_stored.specs.Columns.{text_unless}
use Rattle.cq_encodings_plain.proofs.Zipped.{length-zipped, zipped_at}
use Rattle.cq_writestore_rows.proofs.text_column.TextColumn.value_at.Goals as goal

pub get-requires : goal.get-requires
get-requires c =
    let inside = c.self.inside in
    omega (arith, c.requires, c.len-len.ensures.len, c.len-len.ensures.few, c.self.invariant.0, ap length c.self.view_is, length-zipped text_unless inside.texts inside.nulls c.self.invariant.0)

pub get-requires-2 : goal.get-requires-2
get-requires-2 c =
    let inside = c.self.inside in
    omega (arith, c.requires, ap length c.self.view_is, length-zipped text_unless inside.texts inside.nulls c.self.invariant.0)

pub returns : goal.returns
returns c =
    let inside = c.self.inside in
    let lt : c.args.place < length inside.texts = omega (arith, c.requires, ap length c.self.view_is, length-zipped text_unless inside.texts inside.nulls c.self.invariant.0) in
    sym (zipped_at text_unless inside.texts inside.nulls c.args.place [] c.get-2.result.now false lt c.self.invariant.0 (sym c.get-2.ensures) (sym c.get.ensures ∙ c.if-get.false))
    ∙ ap (λ (vs : List Value). get_or vs c.args.place Null) c.self.view_is
