use Rattle.std.proofs.Common.{ℕ, Option, subst, sym}
use Rattle.cq_operators_listing.specs.Ranked.{TakesFirst}
use Rattle.cq_operators_listing.proofs.Rows.{takes-none}
use Rattle.cq_operators_listing.proofs.arranging.count_within.Goals as goal

-- without LIMIT all are left
pub returns-in-None-clause-first : goal.returns-in-None-clause-first
returns-in-None-clause-first c = subst (λ (limit : Option ℕ). TakesFirst limit c.args.len c.args.len) (sym c.in-None.is) (takes-none c.args.len)
