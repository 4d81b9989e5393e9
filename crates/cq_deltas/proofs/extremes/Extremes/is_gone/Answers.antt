use Rattle.std.proofs.Common.{sym, rules, FitsSigned}
use Rattle.std.specs.Int.{w128}
use Rattle.std.proofs.lemmas.Int.{to_z-of_z}
use Rattle.cq_deltas.proofs.Lookups.{is-gone, not-gone, no-entry}
use Rattle.cq_deltas.proofs.extremes.Extremes.is_gone.Goals as goal

pub returns-in-Some : goal.returns-in-Some
returns-in-Some c =
    let fits : FitsSigned w128 c.in-Some.count.now = search rules in
    let zero = simp to_z-of_z at c.is_zero.ensures in
    let found = sym c.in-Some.ensures.value in
    rw (← c.self.view_is) (
      λ yes. is-gone c.self.inside.counts.entries c.self.inside.nulls c.args.value.now c.in-Some.count.now c.self.invariant.are found (zero.0 yes),
      λ gone. zero.1 (not-gone c.self.inside.counts.entries c.self.inside.nulls c.args.value.now c.in-Some.count.now c.self.invariant.are found gone),
    )

pub returns-in-None : goal.returns-in-None
returns-in-None c = rw (← c.self.view_is)
    (λ yes. absurd (search rules), λ gone. absurd (no-entry c.self.inside.counts.entries c.self.inside.nulls c.args.value.now (sym c.in-None.ensures.value) gone))
