-- The row of a group, value by value.
use Rattle.std.proofs.Common.{◌≡◌, ◌∙◌, ℕ, ◌+◌, ◌<◌, List, [], ◌∷◌, ◌++◌, ap, get_or, length, map, sym, take}
use Rattle.std.proofs.lemmas.List.{append_assoc, map-append, take_more}
use Rattle.cq_values.specs.declared.value.Value.{Value}
use Rattle.cq_values.specs.Value.{Row}
use Rattle.cq_hash_groups_slots.specs.declared.slots.Slots.{Slots}
use Rattle.cq_hash_groups_slots.specs.Slots.{shown_at}
use Rattle.cq_hash_groups.specs.Groups.{shown_row}

-- the key, the aggregates so far, and the value of the next one
pub shown-more : (group : ℕ) (slots : List Slots) (i : ℕ) (each : Slots) → i < length slots → each ≡ get_or slots i each
    → (key begun : Row) (v : Value) → begun ≡ shown_row key group (take i slots) → v ≡ shown_at group each → begun ++ v ∷ [] ≡ shown_row key group (take (i + 1) slots)
shown-more group slots i each lt is key begun v so_far v_is =
    let next : take i slots ++ each ∷ [] ≡ take (i + 1) slots = ap (λ (s : Slots). take i slots ++ s ∷ []) is ∙ sym (take_more slots i each lt) in
    ap (λ (vs : Row). vs ++ v ∷ []) so_far ∙ ap (λ (w : Value). shown_row key group (take i slots) ++ w ∷ []) v_is
    ∙ append_assoc key (map (shown_at group) (take i slots)) (shown_at group each ∷ [])
    ∙ ap (λ (vs : Row). key ++ vs) (sym (map-append (shown_at group) (take i slots) (each ∷ [])) ∙ ap (map (shown_at group)) next)
