use Rattle.std.proofs.Common.{◌∙◌, ◌++◌, ap, ap₂, arith, length, sym}
use Rattle.cq_segments_pieces.specs.Marked.{live}
use Rattle.cq_writestore.specs.Writes.{tail_rows}
use Rattle.cq_table_columns.specs.Stored.{stored_marked}
use Rattle.cq_table_columns.proofs.Parts.{are_parts}
use Rattle.cq_table_columns.proofs.stored.Stored.split_tail.Goals as goal

pub overflow_sub-rest : goal.overflow_sub-rest
overflow_sub-rest c =
    let front = c.split_front.result.0 in
    let parts = are_parts (stored_marked c.args.self.now) (tail_rows front.written) (tail_rows c.split_front.result.1) (c.requires ∙ c.split_front.ensures.parts) in
    omega (arith, c.len.ensures, ap length c.of_written-front.ensures.rows, parts.count, c.args.self.now.counted)

pub invariant_of-rest : goal.invariant_of-rest
invariant_of-rest c =
    let front = c.split_front.result.0 in
    let parts = are_parts (stored_marked c.args.self.now) (tail_rows front.written) (tail_rows c.split_front.result.1) (c.requires ∙ c.split_front.ensures.parts) in
    record { counted = omega (arith, c.len.ensures, ap length c.of_written-front.ensures.rows, parts.count, c.args.self.now.counted, ap (λ s. length (live s)) c.of_tail.ensures.rows) }

pub returns-clause-rows : goal.returns-clause-rows
returns-clause-rows c =
    let front = c.split_front.result.0 in
    let rest = tail_rows c.split_front.result.1 in
    let parts = are_parts (stored_marked c.args.self.now) (tail_rows front.written) rest (c.requires ∙ c.split_front.ensures.parts) in
    parts.rows ∙ ap₂ (λ f r. f ++ live r) (sym c.of_written-front.ensures.rows) (sym c.of_tail.ensures.rows)
