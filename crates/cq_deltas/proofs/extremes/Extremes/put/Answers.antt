use Rattle.std.proofs.Common.{◌+ℤ◌, is_some, sym, ◌∙◌, ap, subst, arith, rules, true≢false, FitsSigned}
use mir.Val.{to_z, of_z}
use Rattle.std.specs.Int.{w128}
use Rattle.cq_deltas.specs.Extremes.{HasRoom, Held}
use Rattle.std.specs.Map.{set_value}
use Rattle.std.proofs.lemmas.Int.{to_z-of_z}
use Rattle.cq_deltas.proofs.Different.{counted-again, one-most, one-within, others-fewer}
use Rattle.cq_deltas.proofs.Lookups.{is_value, room-found}
use Rattle.cq_deltas.proofs.Writes.{fits-rounded, more-added, null-fits, null-listed, rounded, set-listed, value-fits}
use Rattle.cq_deltas.proofs.extremes.Extremes.put.Goals as goal
use Rattle.cq_model.proofs.Conditions.{null-value}

pub overflow_add-self : goal.overflow_add-self
overflow_add-self c =
    let null = null-value c.args.value.now (sym c.is_null.ensures ∙ c.if-is_null.true) in
    let fits = null-fits c.self.inside.counts.entries c.self.inside.nulls c.self.invariant.are _ c.self.view_is _ c.args.weight c.requires.small null in
    fits-rounded c.self.inside.nulls c.args.weight (search rules) c.ranges.weight fits

pub returns-then-is_null-clause-values : goal.returns-then-is_null-clause-values
returns-then-is_null-clause-values c =
    let null = null-value c.args.value.now (sym c.is_null.ensures ∙ c.if-is_null.true) in
    let fits = null-fits c.self.inside.counts.entries c.self.inside.nulls c.self.invariant.are _ c.self.view_is _ c.args.weight c.requires.small null in
    rw (← c.self.view_is, null, rounded c.self.inside.nulls c.args.weight (search rules) c.ranges.weight fits)
    (more-added _ _ _ _ (null-listed c.self.inside.counts.entries c.self.inside.nulls c.args.weight c.self.invariant.are.known))

pub overflow_add-count : goal.overflow_add-count
overflow_add-count c =
    let fits = value-fits c.self.inside.counts.entries c.self.inside.nulls c.self.invariant.are _ c.self.view_is c.args.value.now c.args.weight c.requires.small c.in-Some.count.now (sym c.in-Some.ensures.value) in
    fits-rounded c.in-Some.count.now c.args.weight (search rules) c.ranges.weight fits

pub unreachable-requires : goal.unreachable-requires
unreachable-requires c =
    let room = subst (λ (held : Held). HasRoom c.args.value.now held.room) (sym c.self.view_is) c.requires.room in
    true≢false (sym (room-found c.self.inside.counts.entries c.args.value.now (sym c.is_null.ensures ∙ c.if-is_null.false) room) ∙ ap is_some (sym c.in-None.ensures.value))

pub returns-clause-values : goal.returns-clause-values
returns-clause-values c =
    let found = sym c.in-Some.ensures.value in
    let fits = value-fits c.self.inside.counts.entries c.self.inside.nulls c.self.invariant.are _ c.self.view_is c.args.value.now c.args.weight c.requires.small c.in-Some.count.now found in
    let h = c.get_mut.follows.holds (to_z w128 (of_z w128 (to_z w128 (of_z w128 c.in-Some.count.now) +ℤ to_z w128 (of_z w128 c.args.weight)))) in
    rw (← c.self.view_is, h.0, rounded c.in-Some.count.now c.args.weight (search rules) c.ranges.weight fits)
    (more-added _ _ _ _ (set-listed c.self.inside.counts.entries c.self.inside.nulls c.args.value.now c.in-Some.count.now c.args.weight (sym c.is_null.ensures ∙ c.if-is_null.false) c.self.invariant.are.ordered found))

pub overflow_sub-others : goal.overflow_sub-others
overflow_sub-others c =
    let fits : FitsSigned w128 c.in-Some.count.now = search rules in
    let one = simp to_z-of_z at c.one_if_counted.ensures in
    let some = one-within c.self.inside.counts.entries c.args.value.now c.in-Some.count.now (sym c.in-Some.ensures.value) in
    omega (arith, one, some, c.self.invariant.different)

pub prove-unreachable-requires : goal.prove-unreachable-requires
prove-unreachable-requires c =
    let fits : FitsSigned w128 c.in-Some.count.now = search rules in
    let one = simp to_z-of_z at c.one_if_counted.ensures in
    let found = sym c.in-Some.ensures.value in
    let some = one-within c.self.inside.counts.entries c.args.value.now c.in-Some.count.now found in
    let fewer = others-fewer c.self.inside.counts.entries c.args.value.now c.in-Some.count.now found in
    omega (arith, one, some, fewer, c.self.invariant.different, c.len-entries.ensures.len, c.if-prove.true)

pub overflow_add-self-in-Some : goal.overflow_add-self-in-Some
overflow_add-self-in-Some c =
    let small : FitsSigned w128 c.in-Some.count.now = search rules in
    let weight = c.ranges.weight in
    let fits = value-fits c.self.inside.counts.entries c.self.inside.nulls c.self.invariant.are _ c.self.view_is c.args.value.now c.args.weight c.requires.small c.in-Some.count.now (sym c.in-Some.ensures.value) in
    let after = simp to_z-of_z at c.one_if_counted-in-Some.ensures in
    omega (arith, after, one-most (c.in-Some.count.now +ℤ c.args.weight), c.if-prove.false, c.len-entries.ensures.small)

pub invariant_of-self-in-Some : goal.invariant_of-self-in-Some
invariant_of-self-in-Some c =
    let found = sym c.in-Some.ensures.value in
    let small : FitsSigned w128 c.in-Some.count.now = search rules in
    let weight = c.ranges.weight in
    let fits = value-fits c.self.inside.counts.entries c.self.inside.nulls c.self.invariant.are _ c.self.view_is c.args.value.now c.args.weight c.requires.small c.in-Some.count.now found in
    let h = c.get_mut.follows.holds (to_z w128 (of_z w128 (to_z w128 (of_z w128 c.in-Some.count.now) +ℤ to_z w128 (of_z w128 c.args.weight)))) in
    let set = h.0 ∙ ap (set_value (is_value c.args.value.now) c.self.inside.counts.entries) (rounded c.in-Some.count.now c.args.weight small weight fits) in
    let before = simp to_z-of_z at c.one_if_counted.ensures in
    let after = simp to_z-of_z at c.one_if_counted-in-Some.ensures in
    counted-again c.self.inside.counts.entries _ c.self.inside.different c.args.value.now c.self.invariant c.in-Some.count.now _ c.one_if_counted.result c.one_if_counted-in-Some.result
    found set h.1 before after
