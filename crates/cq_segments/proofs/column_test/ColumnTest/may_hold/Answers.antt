use Rattle.std.proofs.Common.{ap}
use Rattle.cq_encodings_numbers.specs.Bounds.{ends_of, owned_ends}
use Rattle.cq_segments.proofs.Misses.{none_compared, none_known, none_null}
use Rattle.cq_segments.proofs.column_test.ColumnTest.may_hold.Goals as goal

pub returns-in-Compare : goal.returns-in-Compare
returns-in-Compare c =
    let b = c.args.bounds.now in
    rw c.in-Compare.is (none_compared c.in-Compare._column b.has_null (ends_of b) c.in-Compare.comparison c.in-Compare.constant c.may_pass.result c.may_pass.ensures)

pub returns-in-IsNull : goal.returns-in-IsNull
returns-in-IsNull c =
    let b = c.args.bounds.now in
    rw c.in-IsNull.is (none_null c.in-IsNull._column b.has_null (ends_of b))

pub returns-in-None : goal.returns-in-None
returns-in-None c =
    let b = c.args.bounds.now in
    rw c.in-IsNotNull.is (none_known c.in-IsNotNull._column b.has_null (ends_of b) (ap owned_ends c.in-None.is))
