use Rattle.std.proofs.Common.{rules, ◌≡◌, true, sym, ap, subst, replicate}
use Rattle.cq_values.specs.Lent.{owned}
use Rattle.cq_prims.specs.Numbers.{ShowsNumbers}
use Rattle.cq_prims.proofs.Shown.{constant_shows}
use Rattle.cq_prims.proofs.day_side.DaySide.of_constant.Goals as goal

pub returns-in-Day : goal.returns-in-Day
returns-in-Day c =
    let d = c.in-Day.day in
    let is : c.constant.result ≡ replicate c.args.len d = search rules in
    subst (λ v. ShowsNumbers true c.constant.result (replicate c.args.len v)) (sym (ap owned c.in-Day.is)) (constant_shows true c.args.len d c.constant.result is)
