use Rattle.std.proofs.Common.{◌≡◌, ◌∙◌, [], arith, length, refl, sym}
use Rattle.std.proofs.lemmas.Bool.{eqb-true}
use Rattle.std.proofs.lemmas.List.{nil_from_length}
use Rattle.cq_segments_pieces.proofs.Marks.{length-live}
use Rattle.cq_writestore.specs.Writes.{written_rows}
use Rattle.cq_table_columns.specs.Stored.{stored_marked}
use Rattle.cq_table_columns.proofs.Parts.{first_segment}
use Rattle.cq_table_columns.proofs.stored.Stored.split_segment.Goals as goal

pub overflow_sub-rest : goal.overflow_sub-rest
overflow_sub-rest c =
    let own = c.args.self.now in
    let segment = c.in_ok-segment.segment.now in
    let none : own.pieces.now ≡ [] = nil_from_length own.pieces.now (eqb-true (length own.pieces.now) 0 (sym c.is_empty.ensures ∙ c.if-not-is_empty.false)) in
    let parts = first_segment (stored_marked own) own.pieces.now own.segments.now c.in_ok-segment.segments.now (written_rows own.written) segment refl none c.in_ok-segment.ensures.cases.0 in
    omega (arith, c.len.ensures.len, c.marked_len.ensures.len, own.counted, parts.count, length-live segment)

pub invariant_of-rest : goal.invariant_of-rest
invariant_of-rest c =
    let own = c.args.self.now in
    let segment = c.in_ok-segment.segment.now in
    let none : own.pieces.now ≡ [] = nil_from_length own.pieces.now (eqb-true (length own.pieces.now) 0 (sym c.is_empty.ensures ∙ c.if-not-is_empty.false)) in
    let parts = first_segment (stored_marked own) own.pieces.now own.segments.now c.in_ok-segment.segments.now (written_rows own.written) segment refl none c.in_ok-segment.ensures.cases.0 in
    record { counted = omega (arith, c.len.ensures.len, c.marked_len.ensures.len, own.counted, parts.count, length-live segment) }

pub returns-clause-rows : goal.returns-clause-rows
returns-clause-rows c =
    let own = c.args.self.now in
    let none : own.pieces.now ≡ [] = nil_from_length own.pieces.now (eqb-true (length own.pieces.now) 0 (sym c.is_empty.ensures ∙ c.if-not-is_empty.false)) in
    (first_segment (stored_marked own) own.pieces.now own.segments.now c.in_ok-segment.segments.now (written_rows own.written) c.in_ok-segment.segment.now refl none c.in_ok-segment.ensures.cases.0).rows

pub returns-clause-some : goal.returns-clause-some
returns-clause-some c =
    omega (arith, c.len.ensures.len, c.marked_len.ensures.len, length-live c.in_ok-segment.segment.now, c.if-live-eq0.false)
