use Rattle.std.proofs.lemmas.Option.{IfSome_then}
use Rattle.cq_prims_arithmetic.proofs.ColumnLemmas.{within_sizes}
use Rattle.cq_prims_arithmetic.proofs.columns.size_of_results.Goals as goal

pub returns-in-Some-clause-within : goal.returns-in-Some-clause-within
returns-in-Some-clause-within g c =
    within_sizes g.O.Operation.apply c.size.result c.size-2.result c.in-Some.size c.in-Some.ensures.within (g.A.Side.numbers c.args.a.now) (g.B.Side.numbers c.args.b.now) c.size.ensures c.size-2.ensures

pub returns-in-None-clause-within : goal.returns-in-None-clause-within
returns-in-None-clause-within g c =
    IfSome_then c.size-in-None.result c.size-in-None.ensures.within (λ size within. within_sizes g.O.Operation.apply c.seen_size.result c.seen_size-in-None.result size within (g.A.Side.numbers c.args.a.now) (g.B.Side.numbers c.args.b.now) c.seen_size.ensures c.seen_size-in-None.ensures)
