use Rattle.cq_segments.proofs.Misses.{none_ruled_out}
use Rattle.cq_segments.proofs.column_test.may_match.Goals as goal

pub returns-in-Some : goal.returns-in-Some
returns-in-Some c =
    none_ruled_out c.in-Some.bounds c.args.test.now c.args.columns.now c.column.result c.column.ensures c.in-Some.ensures c.may_hold.result c.may_hold.ensures
