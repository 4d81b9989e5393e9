use Rattle.std.proofs.Common.{◌*◌}
use Rattle.cq_encodings_numbers.proofs.PartEnds.{part_clear}
use Rattle.cq_encodings_numbers.proofs.ends.may_have_null.Goals as goal

pub returns-in-Some : goal.returns-in-Some
returns-in-Some c = part_clear c.args.nulls.now c.in-Some.plane.now (1024 * c.args.part) c.is_clear.result c.in-Some.ensures.there c.is_clear.ensures
