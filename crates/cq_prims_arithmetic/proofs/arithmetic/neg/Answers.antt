use Rattle.std.proofs.Common.{◌≡◌, IfOk, List, pos, replicate, ap, subst, sym, ◌∙◌}
use lib.Lanes.{zip2}
use Rattle.cq_values.specs.declared.value.Value.{Value}
use Rattle.cq_values.specs.declared.value.Value.TheVariants.{Number}
use Rattle.cq_prims_arithmetic.specs.Operation.{AllInRange, lifted, minus}
use Rattle.cq_prims_arithmetic.proofs.CallLemmas.{negated_results}
use Rattle.cq_prims_arithmetic.proofs.arithmetic.neg.Goals as goal

pub worked-requires-clause-fits : goal.worked-requires-clause-fits
worked-requires-clause-fits c =
    let zeros = c.new-zero.ensures ∙ ap (λ n. replicate n (Number (pos 0))) c.len.ensures.len in
    subst AllInRange (sym (ap (λ l. zip2 (lifted minus) l c.args.a.now) zeros ∙ negated_results c.args.a.now)) c.requires

pub returns : goal.returns
returns c =
    let zeros = c.new-zero.ensures ∙ ap (λ n. replicate n (Number (pos 0))) c.len.ensures.len in
    let same = ap (λ l. zip2 (lifted minus) l c.args.a.now) zeros ∙ negated_results c.args.a.now in
    subst (λ (l : List Value). IfOk c.worked.result (λ made. made ≡ l)) same c.worked.ensures
