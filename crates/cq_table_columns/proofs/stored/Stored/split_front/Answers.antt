use Rattle.std.proofs.Common.{◌∙◌, ◌++◌, ap, arith}
use Rattle.std.proofs.lemmas.List.{nil_from_length}
use Rattle.cq_table_columns.specs.Stored.{all_rows, front_rows}
use Rattle.cq_table_columns.proofs.Parts.{front_few}
use Rattle.cq_table_columns.proofs.stored.Stored.split_front.Goals as goal

pub loop-rest-init : goal.loop-rest-init
loop-rest-init c = (c.split_piece.ensures.rows, omega (arith, c.split_piece.ensures.few, front_few c.split_piece.result.0))

pub loop-rest-preserved : goal.loop-rest-preserved
loop-rest-preserved c =
    let none = nil_from_length (front_rows c.loop-rest.front) (omega (arith, c.len.ensures, c.loop-rest-test.true)) in (
      c.loop-rest.invariant.0 ∙ ap (λ l. l ++ all_rows c.loop-rest.rest) none ∙ c.split_piece-in-loop-rest.ensures.rows,
      omega (arith, c.split_piece-in-loop-rest.ensures.few, front_few c.split_piece-in-loop-rest.result.0),
    )
