use Rattle.std.proofs.Common.{◌≡◌, pos, false, None, Some, refl, sym, ◌∙◌, ap, subst}
use Rattle.std.specs.Map.{keys_of, lookup}
use Rattle.cq_values.specs.declared.value.Value.{Value}
use Rattle.cq_values.specs.declared.value.Value.TheVariants.{Null}
use Rattle.cq_model.specs.Condition.{is_null}
use Rattle.cq_deltas.specs.Extremes.{HasRoom}
use Rattle.cq_deltas.proofs.Different.{counted-with}
use Rattle.cq_deltas.proofs.Lookups.{is_value, found-room, none-there, null-room}
use Rattle.cq_deltas.proofs.Writes.{insert-listed, has-room, all-room}
use Rattle.cq_deltas.proofs.extremes.Extremes.ready.Goals.{then-is_null-via-then-is_null, then-is_null-via-else-is_null+then-contains_key}
use Rattle.cq_deltas.proofs.extremes.Extremes.ready.Goals as goal

pub invariant_of-self-2 : goal.invariant_of-self-2
invariant_of-self-2 c =
    let none = none-there _ (sym c.contains_key.ensures ∙ c.if-contains_key.false) in
    let new : lookup (is_value c.in_ok-copy.copy) c.self.inside.counts.entries ≡ None = ap (λ (v : Value). lookup (is_value v) c.self.inside.counts.entries) c.in_ok-copy.ensures ∙ none in
    let known : is_null c.in_ok-copy.copy ≡ false = ap is_null c.in_ok-copy.ensures ∙ sym c.is_null.ensures ∙ c.if-is_null.false in
    counted-with c.self.inside.counts.entries c.insert.new.self.entries c.self.inside.different c.in_ok-copy.copy c.self.invariant new known
    c.insert.ensures.ordered c.in_ok-insert.ensures.entries (c.in_ok-insert.ensures.updates.0 Null)

pub returns-then-is_null-clause-room : goal.returns-then-is_null-clause-room
returns-then-is_null-clause-room c =
    elim c.then-is_null.branch [
      | then-is_null-via-then-is_null w ↦ null-room c.args.self.now.room c.args.value.now (sym c.is_null.ensures ∙ w.if-is_null.true)
      | then-is_null-via-else-is_null+then-contains_key w ↦ rw (← c.self.view_is) (found-room c.self.inside.counts.entries c.args.value.now (sym w.contains_key.ensures ∙ w.if-contains_key.true))
    ]

pub returns-clause-values : goal.returns-clause-values
returns-clause-values c =
    let none = none-there _ (sym c.contains_key.ensures ∙ c.if-contains_key.false) in
    let new : lookup (is_value c.in_ok-copy.copy) c.self.inside.counts.entries ≡ None = ap (λ (v : Value). lookup (is_value v) c.self.inside.counts.entries) c.in_ok-copy.ensures ∙ none in
    rw (← c.self.view_is, c.in_ok-insert.ensures.entries) (insert-listed c.self.inside.counts.entries c.self.inside.nulls c.in_ok-copy.copy new)

pub returns-clause-room : goal.returns-clause-room
returns-clause-room c =
    subst (λ (v : Value). HasRoom v (keys_of c.insert.new.self.entries)) c.in_ok-copy.ensures
    (has-room c.self.inside.counts.entries c.in_ok-copy.copy (Some (pos 0)) c.insert.new.self.entries c.in_ok-insert.ensures.updates.0 refl)

pub returns-clause-kept : goal.returns-clause-kept
returns-clause-kept c =
    rw (← c.self.view_is) (all-room c.self.inside.counts.entries c.in_ok-copy.copy (Some (pos 0)) c.insert.new.self.entries c.in_ok-insert.ensures.updates.0 refl)
