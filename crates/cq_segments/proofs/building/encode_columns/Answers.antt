use Rattle.std.proofs.Common.{◌∙◌, [], ◌∷◌, ◌++◌, ap, ap₂, arith, length, length-append, subst, sym}
use Rattle.std.proofs.lemmas.List.{map-append}
use Rattle.std.proofs.lemmas.List.FromFn.{map-range_with_len_more}
use Rattle.cq_encodings.specs.AnyEncoded.{encoded_values}
use Rattle.cq_vectors.specs.Gathered.{column_of}
use Rattle.cq_encodings_numbers.specs.Bounds.{AreBounds}
use Rattle.cq_segments_pieces.specs.Columns.{columns_in}
use Rattle.cq_segments.specs.InOrder.{rows_in_order}
use Rattle.cq_segments.specs.Segment.{HaveBounds}
use Rattle.cq_segments.proofs.OneMore.{bounds-more}
use Rattle.cq_segments.proofs.building.encode_columns.Goals as goal

pub loop-column-preserved : goal.loop-column-preserved
loop-column-preserved c =
    let rows = rows_in_order c.args.rows.now in
    let encoded = c.loop-column.encoded.items in
    let bounds = c.loop-column.bounds.items in
    let column = c.in_ok-form.form in
    let ends = c.in_ok-form.ends in
    let here = subst (AreBounds ends.has_null ends.ends) (ap (column_of rows) (sym c.loop-column.invariant.as_many)) c.in_ok-form.ensures.bounds in
    record {
      values = ap columns_in c.in_ok-push.ensures.items ∙ map-append encoded_values encoded (column ∷ [])
          ∙ ap₂ (λ l v. l ++ v ∷ []) c.loop-column.invariant.values c.in_ok-form.ensures.values
          ∙ sym (map-range_with_len_more (column_of rows) 0 c.loop-column.column c.loop-column.column (omega arith));
      as_many = omega (arith, ap length c.in_ok-push-2.ensures.items, length-append bounds (ends ∷ []), c.loop-column.invariant.as_many);
      bounds = subst (λ m. HaveBounds m rows) (sym c.in_ok-push-2.ensures.items) (bounds-more rows bounds ends c.loop-column.invariant.bounds here);
    }
