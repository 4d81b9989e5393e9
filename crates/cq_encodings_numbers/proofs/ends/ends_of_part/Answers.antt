use Rattle.std.proofs.Common.{arith, ◌*◌, ◌+◌}
use Rattle.cq_encodings_numbers.proofs.PartEnds.{whole_part}
use Rattle.cq_encodings_numbers.proofs.ends.ends_of_part.Goals as goal

pub returns : goal.returns
returns c =
    let start = 1024 * c.args.part in
    whole_part start c.args.offsets.now c.args.nulls.now (start + c.min.result) (start + 1024) c.ends_between.result
    (omega (arith, c.min.ensures)) (omega (arith, c.min.ensures, c.len-len.ensures)) c.ends_between.ensures
