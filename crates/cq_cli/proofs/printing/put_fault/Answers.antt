use Rattle.std.proofs.Common.{rules, ◌≡◌, ◌++◌, ◌∷◌, [], codes}
use Rattle.std.proofs.lemmas.Result.{err_from_is_err_and}
use Rattle.cq_binder_rules.specs.FaultText.{fault_text}
use Rattle.cq_cli.proofs.Writes.{wrote_then, prefix_of_more}
use Rattle.cq_cli.proofs.printing.put_fault.Goals as goal

pub returns-in_err-put_all-clause-written : goal.returns-in_err-put_all-clause-written
returns-in_err-put_all-clause-written g c =
    let p = err_from_is_err_and c.from_residual.result c.from_residual.ensures.1 in
    rw p.1 (prefix_of_more (codes "error ") (fault_text c.args.fault ++ 10 ∷ []) _ _ _ _ c.in_err-put_all.ensures.written)

pub returns-clause-written : goal.returns-clause-written
returns-clause-written g c =
    let text : c.as_bytes.result.now ++ c.as_bytes-2.result.now ≡ fault_text c.args.fault = search rules in
    wrote_then (codes "error ") (fault_text c.args.fault ++ 10 ∷ []) _ _ _ _ _ _ c.put_line.result c.in_ok-put_all.ensures.written (rw text at c.put_line.ensures.written)
