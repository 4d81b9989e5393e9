use Rattle.std.proofs.Common.{◌<◌, ◌∙◌, ap, arith, get_or, length, sym}
use Rattle.std.proofs.lemmas.List.{length-map}
use Rattle.cq_encodings.specs.AnyEncoded.{encoded_values}
use Rattle.cq_segments_pieces.specs.Columns.{values_from}
use Rattle.cq_values.specs.Value.{column}
use Rattle.cq_values.specs.declared.value.Value.TheVariants.{Null}
use Rattle.cq_segments_pieces.proofs.Parts.{part_read_from}
use Rattle.cq_segments_pieces.proofs.ValuesAt.{column_read, null_read}
use Rattle.cq_segments_pieces.proofs.columns.Columns.lend.Goals as goal

pub returns-then-place-len : goal.returns-then-place-len
returns-then-place-len c =
    let place = c.args.place in
    let at = c.args.column in
    let rows = c.args.self.now in
    let there : place < length (values_from c.in-Some.encoded.now c.in-Some.part c.in-Some.from) = omega (arith, c.if-place-len.true, c.len.ensures.len, ap length c.in-Some.ensures.part, length-map rows (λ row. column row at)) in
    c.value_at.ensures
    ∙ sym (part_read_from c.in-Some.part c.in-Some.from place (encoded_values c.in-Some.encoded.now) there)
    ∙ ap (λ values. get_or values place Null) c.in-Some.ensures.part ∙ column_read rows at place

pub returns-in-None : goal.returns-in-None
returns-in-None c =
    let place = c.args.place in
    sym (null_read (length c.args.self.now) place) ∙ ap (λ values. get_or values place Null) (sym c.in-None.ensures.past)
    ∙ column_read c.args.self.now c.args.column place
