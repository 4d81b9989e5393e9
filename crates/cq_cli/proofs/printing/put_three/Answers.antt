use Rattle.std.proofs.Common.{◌++◌}
use Rattle.std.proofs.lemmas.Result.{err_from_is_err_and}
use Rattle.cq_cli.proofs.Writes.{wrote_then, prefix_of_more}
use Rattle.cq_cli.proofs.printing.put_three.Goals as goal

pub returns-in_err-put_all-clause-written : goal.returns-in_err-put_all-clause-written
returns-in_err-put_all-clause-written g c =
    let p = err_from_is_err_and c.from_residual.result c.from_residual.ensures.1 in
    rw p.1 (prefix_of_more c.args.first.now (c.args.second.now ++ c.args.third.now) _ _ _ _ c.in_err-put_all.ensures.written)

pub returns-clause-written : goal.returns-clause-written
returns-clause-written g c =
    wrote_then c.args.first.now (c.args.second.now ++ c.args.third.now) _ _ _ _ _ _ c.put_two.result c.in_ok-put_all.ensures.written c.put_two.ensures.written
