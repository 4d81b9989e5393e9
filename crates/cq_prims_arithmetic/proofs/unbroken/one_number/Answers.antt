use Rattle.std.proofs.Common.{◌≡◌, replicate, to_z, of_z, ap, ◌∙◌, arith}
use Rattle.std.specs.Int.{w128}
use Rattle.std.proofs.lemmas.Int.{ints, to_z-of_z}
use Rattle.cq_values.specs.Lent.{owned}
use Rattle.cq_prims_arithmetic.proofs.WideLemmas.{number_everywhere}
use Rattle.cq_prims_arithmetic.proofs.unbroken.one_number.Goals as goal

pub returns-in-Number : goal.returns-in-Number
returns-in-Number c =
    let kept : to_z w128 (of_z w128 c.in-Number.n) ≡ c.in-Number.n = search (arith, ints, to_z-of_z) in
    rw kept (ap (λ v. replicate c.args.len (owned v)) c.in-Number.is ∙ number_everywhere c.args.len c.in-Number.n)
