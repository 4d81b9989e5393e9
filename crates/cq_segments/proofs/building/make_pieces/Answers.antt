use Rattle.std.proofs.Common.{◌∙◌, ◌≡◌, ◌<◌, ◌≤◌, ◌*◌, ◌-◌, ◌∷◌, [], List, ap, arith, get_or, length, length-append, min, subst, sym}
use Rattle.std.specs.Global.{Vec}
use Rattle.std.proofs.Math.Nat.{div-add-mod}
use Rattle.std.proofs.lemmas.List.{take_all}
use Rattle.cq_encodings.specs.declared.any_encoded.AnyEncoded.{AnyEncoded}
use Rattle.cq_segments_pieces.specs.Columns.{AreColumns, columns_in, encoded_rows, parts_of, rows_of_columns}
use Rattle.cq_segments_pieces.specs.Marked.{MarkedRow, unmarked}
use Rattle.cq_segments_pieces.specs.Pieces.{joined}
use Rattle.cq_segments.proofs.OneMore.{full_pieces, lengths-more, piece-more}
use Rattle.cq_segments_pieces.proofs.Parts.{parts_are, rows_of_parts}
use Rattle.cq_segments_pieces.proofs.Transposed.{length-rows}
use Rattle.cq_segments.proofs.building.make_pieces.Goals as goal

pub of-requires-clause-long : goal.of-requires-clause-long
of-requires-clause-long c =
    let part = c.loop-part.part in
    let count = c.min-count.result in
    let lt : 1024 * part < c.args.len = omega (arith, c.loop-part-test.true, c.div_ceil-part-end.ensures, div-add-mod c.args.len 1024) in
    subst (λ (v : Vec AnyEncoded). AreColumns (parts_of part v.items) count) (sym c.in_ok-clone.ensures.cases)
    (parts_are c.args.encoded.value.items c.args.len part count c.requires.long c.min-count.ensures lt)

pub loop-part-preserved : goal.loop-part-preserved
loop-part-preserved c =
    let part = c.loop-part.part in
    let count = c.min-count.result in
    let encoded = c.args.encoded.value.items in
    let rows = encoded_rows encoded c.args.len in
    let made = c.loop-part.made.items in
    let piece = c.of-in-loop-part.result in
    let read = ap (λ (v : Vec AnyEncoded). rows_of_columns (parts_of part v.items) count) c.in_ok-clone.ensures.cases in
    let holds = c.of-in-loop-part.ensures ∙ ap unmarked (c.of.ensures ∙ read ∙ rows_of_parts encoded c.args.len part count c.requires.long c.min-count.ensures) in
    let items = c.in_ok-push.ensures.items in
    record {
      rows = ap joined items ∙ piece-more rows part made piece holds c.loop-part.invariant.rows;
      as_many = omega (arith, ap length items, length-append made (piece ∷ []), c.loop-part.invariant.as_many);
      lengths = λ k. subst (λ (l : List (List MarkedRow)). k < length l → length (get_or l k []) ≡ min 1024 (length rows - 1024 * k)) (sym items)
          (lengths-more rows part made piece holds c.loop-part.invariant.as_many c.loop-part.invariant.lengths k);
    }

pub returns-clause-rows : goal.returns-clause-rows
returns-clause-rows c =
    let rows = encoded_rows c.args.encoded.value.items c.args.len in
    let all : length rows ≤ 1024 * c.loop-part.part =
    omega (arith, c.loop-part-test.false, c.div_ceil-part-end.ensures, div-add-mod c.args.len 1024, length-rows (columns_in c.args.encoded.value.items) c.args.len) in
    c.loop-part.invariant.rows ∙ ap unmarked (take_all (1024 * c.loop-part.part) rows all)

pub returns-clause-full : goal.returns-clause-full
returns-clause-full c =
    let rows = encoded_rows c.args.encoded.value.items c.args.len in
    full_pieces c.loop-part.made.items (length rows)
    (omega (arith, c.loop-part.invariant.as_many, c.loop-part.auto.part-end, c.div_ceil-part-end.ensures, div-add-mod c.args.len 1024, length-rows (columns_in c.args.encoded.value.items) c.args.len))
    c.loop-part.invariant.lengths
