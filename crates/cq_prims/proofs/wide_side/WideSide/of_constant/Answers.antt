use Rattle.std.proofs.Common.{rules, ◌≡◌, false, sym, ap, subst, replicate}
use Rattle.cq_values.specs.Lent.{owned}
use Rattle.cq_prims.specs.Numbers.{ShowsNumbers}
use Rattle.cq_prims.proofs.Shown.{constant_shows}
use Rattle.cq_prims.proofs.wide_side.WideSide.of_constant.Goals as goal

pub returns-in-Number : goal.returns-in-Number
returns-in-Number c =
    let n = c.in-Number.value in
    let is : c.constant.result ≡ replicate c.args.len n = search rules in
    subst (λ v. ShowsNumbers false c.constant.result (replicate c.args.len v)) (sym (ap owned c.in-Number.is)) (constant_shows false c.args.len n c.constant.result is)
