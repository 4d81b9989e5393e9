use Rattle.std.proofs.Common.{List, ap, arith, get_or, length, rules, sym, w64, ◌∙◌, ◌<◌, ℤ}
use mir.Val.{SFits}
use Rattle.std.specs.Int.{w128}
use Rattle.std.proofs.lemmas.Int.{to_z-of_z}
use Rattle.cq_values.specs.declared.value.Value.{Value}
use Rattle.cq_values.specs.declared.value.Value.TheVariants.{Null}
use Rattle.cq_encodings_plain.specs.Kind.{datum}
use Rattle.cq_encodings_plain.proofs.Zipped.{length-zipped, zipped_at}
use Rattle.cq_writestore_rows.proofs.number_column.NumberColumn.value_at.Goals as goal

pub index-requires : goal.index-requires
index-requires c =
    let inside = c.self.inside in
    omega (arith, c.requires, ap length c.self.view_is, length-zipped (datum inside.kind) inside.numbers.items inside.nulls c.self.invariant.0)

pub get-requires : goal.get-requires
get-requires c =
    let inside = c.self.inside in
    omega (arith, c.requires, c.len-len.ensures.len, c.len-len.ensures.few, c.self.invariant.0, ap length c.self.view_is, length-zipped (datum inside.kind) inside.numbers.items inside.nulls c.self.invariant.0)

pub returns : goal.returns
returns c =
    let inside = c.self.inside in
    let number = c.index.result.now in
    let fits : SFits w64 number = search rules in
    let wide : SFits w128 c.from.result = search rules in
    let lt : c.args.place < length inside.numbers.items = omega (arith, c.requires, ap length c.self.view_is, length-zipped (datum inside.kind) inside.numbers.items inside.nulls c.self.invariant.0) in
    c.lend_unless.ensures
    ∙ ap (λ (z : ℤ). datum inside.kind z c.get.result) (to_z-of_z w128 c.from.result wide ∙ c.from.ensures ∙ to_z-of_z w64 number fits)
    ∙ sym (zipped_at (datum inside.kind) inside.numbers.items inside.nulls c.args.place number number c.get.result lt c.self.invariant.0 (sym c.index.ensures) (sym c.get.ensures))
    ∙ ap (λ (vs : List Value). get_or vs c.args.place Null) c.self.view_is
