use Rattle.std.proofs.Common.{◌∙◌, ap, false, not, refl, sym}
use Rattle.cq_values.specs.Lent.{owned}
use Rattle.cq_values.specs.declared.comparison.Comparison.TheVariants.{Equal, Greater, GreaterOrEqual, Less, LessOrEqual}
use Rattle.cq_segments.proofs.Misses.{ruled_out}
use Rattle.cq_segments.proofs.column_test.may_lie_between.Goals as goal

pub returns-then-is_after : goal.returns-then-is_after
returns-then-is_after c =
    rw c.in-Equal.is (ruled_out (owned c.args.least.now) (owned c.args.greatest.now) Equal (owned c.args.constant.now) false (sym (rw (sym c.is_after.ensures ∙ c.if-is_after.true) refl)))

pub returns-else-is_after : goal.returns-else-is_after
returns-else-is_after c =
    rw c.in-Equal.is
    (ruled_out (owned c.args.least.now) (owned c.args.greatest.now) Equal (owned c.args.constant.now) (not c.is_after-in-Equal.result) (rw (sym c.is_after.ensures ∙ c.if-is_after.false) (ap not c.is_after-in-Equal.ensures)))

pub returns-in-Less : goal.returns-in-Less
returns-in-Less c =
    rw c.in-Less.is (ruled_out (owned c.args.least.now) (owned c.args.greatest.now) Less (owned c.args.constant.now) c.is_after-in-Less.result c.is_after-in-Less.ensures)

pub returns-in-LessOrEqual : goal.returns-in-LessOrEqual
returns-in-LessOrEqual c =
    rw c.in-LessOrEqual.is (ruled_out (owned c.args.least.now) (owned c.args.greatest.now) LessOrEqual (owned c.args.constant.now) (not c.is_after-in-LessOrEqual.result) (ap not c.is_after-in-LessOrEqual.ensures))

pub returns-in-Greater : goal.returns-in-Greater
returns-in-Greater c =
    rw c.in-Greater.is (ruled_out (owned c.args.least.now) (owned c.args.greatest.now) Greater (owned c.args.constant.now) c.is_after-in-Greater.result c.is_after-in-Greater.ensures)

pub returns-in-GreaterOrEqual : goal.returns-in-GreaterOrEqual
returns-in-GreaterOrEqual c =
    rw c.in-GreaterOrEqual.is (ruled_out (owned c.args.least.now) (owned c.args.greatest.now) GreaterOrEqual (owned c.args.constant.now) (not c.is_after-in-GreaterOrEqual.result) (ap not c.is_after-in-GreaterOrEqual.ensures))
