use Rattle.std.proofs.Common.{None, refl, sym, ◌∙◌, subst, true≢false}
use Rattle.cq_values.specs.declared.value.Value.TheVariants.{Null}
use Rattle.cq_deltas.specs.Extremes.{Held, IsGone}
use Rattle.cq_deltas.proofs.Different.{counted-without}
use Rattle.cq_deltas.proofs.Lookups.{gone-entry}
use Rattle.cq_deltas.proofs.Writes.{remove-listed, other-room, settled}
use Rattle.cq_deltas.proofs.extremes.Extremes.settle.Goals as goal

pub invariant_of-self : goal.invariant_of-self
invariant_of-self c =
    let gone = subst (λ (held : Held). IsGone c.args.value.now held) (sym c.self.view_is) (c.is_gone.ensures.0 c.if-is_gone.true) in
    counted-without c.self.inside.counts.entries c.remove.new.self.entries c.self.inside.different c.args.value.now c.self.invariant
    (gone-entry c.self.inside.counts.entries c.self.inside.nulls c.args.value.now c.self.invariant.are gone)
    c.remove.ensures.ordered c.remove.ensures.entries (c.remove.ensures.updates.0 Null)

pub returns-then-is_gone-clause-values : goal.returns-then-is_gone-clause-values
returns-then-is_gone-clause-values c =
    let gone = subst (λ (held : Held). IsGone c.args.value.now held) (sym c.self.view_is) (c.is_gone.ensures.0 c.if-is_gone.true) in
    rw (← c.self.view_is, c.remove.ensures.entries)
    (remove-listed c.self.inside.counts.entries c.self.inside.nulls c.args.value.now
    (gone-entry c.self.inside.counts.entries c.self.inside.nulls c.args.value.now c.self.invariant.are gone))

pub returns-then-is_gone-clause-settled : goal.returns-then-is_gone-clause-settled
returns-then-is_gone-clause-settled c =
    settled c.self.inside.counts.entries c.args.value.now None c.remove.new.self.entries c.remove.ensures.updates.0 c.self.inside.nulls refl

pub returns-then-is_gone-clause-kept : goal.returns-then-is_gone-clause-kept
returns-then-is_gone-clause-kept c =
    rw (← c.self.view_is) (other-room c.self.inside.counts.entries c.args.value.now None c.remove.new.self.entries c.remove.ensures.updates.0)

pub returns-else-is_gone-clause-settled : goal.returns-else-is_gone-clause-settled
returns-else-is_gone-clause-settled c = λ gone. true≢false (sym (c.is_gone.ensures.1 gone) ∙ c.if-is_gone.false)
