use Rattle.std.proofs.Common.{arith}
use Rattle.cq_encodings_plain.proofs.fixed_width.VecU8FixedWidth.width.Goals as goal

pub returns : goal.returns
returns c = λ k d lt. omega (arith, c.type_inv.self k)
