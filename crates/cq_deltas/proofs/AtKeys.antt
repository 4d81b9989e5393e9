-- What a write at one key leaves at each key.
use Rattle.std.proofs.Common.{◌≡◌, pos, Bool, true, false, cond, List, [], Option, None, Some, unwrap_or, refl, sym, ◌∙◌, ap, subst, int_eq}
use Rattle.std.specs.Option.{option_map, option_map_or}
use Rattle.cq_values.specs.Value.{Row}
use Rattle.cq_values.specs.Order.{same_row}
use Rattle.cq_values.specs.Keys.{same_row-same}
use Rattle.cq_model_bags.proofs.Totals.{by_test}
use Rattle.cq_model.specs.declared.query.Aggregate.{Aggregate}
use Rattle.cq_views_model.specs.Kept.{Group, group_of}
use Rattle.cq_deltas.specs.Additions.{Addition}
use Rattle.cq_deltas.specs.declared.group.Group.{Group as StoredGroup}
use Rattle.cq_deltas.specs.Kept.{group_with, seen_group}
use Rattle.cq_deltas.specs.Keyed.{AreSettled, IsPut, KeyedGroups, group_at, group_met, held_at, settled, stored_at}

-- new is old with something else at a key
abbrev pub SetsAt : KeyedGroups → Row → Option StoredGroup → KeyedGroups → Type 0
SetsAt old key w new = (k : Row) → held_at new k ≡ cond (same_row key k) w (held_at old k)

module _ (old new : KeyedGroups) (key : Row) (w : Option StoredGroup) (sets : SetsAt old key w new) where
  at-key : (k : Row) → same_row key k ≡ true → held_at new k ≡ w
  at-key k s = sets k ∙ rw s refl

  at-others : (k : Row) → same_row key k ≡ false → held_at new k ≡ held_at old k
  at-others k s = sets k ∙ rw s refl

  -- what was at the key was so at each key that is the same
  was-at : (k : Row) → same_row key k ≡ true → held_at old k ≡ held_at old key
  was-at k s = ap (held_at old) (sym (same_row-same key k s))

  -- what holds of what is written, and of what stays, holds at each key
  pub at-each : (R : Option StoredGroup → Option StoredGroup → Type 0) → R (held_at old key) w → ((o : Option StoredGroup) → R o o) → (k : Row) → R (held_at old k) (held_at new k)
  at-each R here other k = by_test (same_row key k)
      (λ s. subst (λ (o : Option StoredGroup). R o (held_at new k)) (sym (was-at k s)) (subst (λ (o : Option StoredGroup). R (held_at old key) o) (sym (at-key k s)) here))
      (λ s. subst (λ (o : Option StoredGroup). R (held_at old k) o) (sym (at-others k s)) (other (held_at old k)))

  -- each key has the group that it had
  pub set-same : option_map seen_group w ≡ option_map seen_group (held_at old key) → (k : Row) → stored_at new k ≡ stored_at old k
  set-same same k = at-each (λ o p. option_map seen_group p ≡ option_map seen_group o) same (λ o. refl) k

-- a group that is made where none was is that of no rows
pub made-same : (old new : KeyedGroups) (key : Row) (aggregates : List Aggregate) (g : StoredGroup) → seen_group g ≡ group_of aggregates [] → SetsAt old key (Some g) new
    → held_at old key ≡ None → (k : Row) → group_at aggregates new k ≡ group_at aggregates old k
made-same old new key aggregates g empty sets none k =
    at-each old new key (Some g) sets (λ o p. unwrap_or (option_map seen_group p) (group_of aggregates []) ≡ unwrap_or (option_map seen_group o) (group_of aggregates []))
    (empty ∙ sym (ap (λ (o : Option StoredGroup). unwrap_or (option_map seen_group o) (group_of aggregates [])) none)) (λ o. refl) k

-- where a group is written over that shows the same, each key has the group that it had
pub over-same : (old new : KeyedGroups) (key : Row) (g h : StoredGroup) → SetsAt old key (Some h) new → held_at old key ≡ Some g → seen_group h ≡ seen_group g → (k : Row) → stored_at new k ≡ stored_at old k
over-same old new key g h sets is same = set-same old new key (Some h) sets (ap Some same ∙ sym (ap (option_map seen_group) is))

-- a row is put in its group, and in no other
pub put-everywhere : (old new : KeyedGroups) (x : Addition) (g h : StoredGroup) → SetsAt old x.key (Some h) new → seen_group h ≡ group_with x.weight x.addends (seen_group g) → held_at old x.key ≡ Some g → IsPut old x new
put-everywhere old new x g h sets put is k = by_test (same_row x.key k)
    (λ s.
    let met : group_met k (seen_group g) x ≡ group_with x.weight x.addends (seen_group g) = rw s refl in
    ap (option_map seen_group) (at-key old new x.key (Some h) sets k s) ∙ ap Some (put ∙ sym met)
    ∙ sym (ap (λ (o : Option StoredGroup). option_map (λ (f : Group). group_met k f x) (option_map seen_group o)) (was-at old new x.key (Some h) sets k s ∙ is)))
    (λ s. ap (option_map seen_group) (at-others old new x.key (Some h) sets k s) ∙ rw s (unmoved (stored_at old k)))
  where
    unmoved : (o : Option Group) → o ≡ option_map (λ h. h) o
    unmoved None = refl
    unmoved (Some h) = refl

-- whether a group is stored that has no rows
abbrev pub is_without_rows : Option StoredGroup → Bool
is_without_rows o = option_map_or (λ (g : StoredGroup). int_eq g.count (pos 0)) o false

-- a group that is dropped where it has no rows
pub drop-settles : (old new : KeyedGroups) (key : Row) → SetsAt old key None new → is_without_rows (held_at old key) ≡ true → AreSettled (same_row key) old new
drop-settles old new key sets empty k = by_test (same_row key k)
    (λ s.
    ap (option_map seen_group) (at-key old new key None sets k s) ∙ dropped (held_at old key) empty
    ∙ ap (λ (o : Option StoredGroup). settled (option_map seen_group o)) (sym (was-at old new key None sets k s)) ∙ rw s refl)
    (λ s. ap (option_map seen_group) (at-others old new key None sets k s) ∙ rw s refl)
  where
    dropped : (o : Option StoredGroup) → is_without_rows o ≡ true → None ≡ settled (option_map seen_group o)
    dropped None e = refl
    dropped (Some g) e = rw e refl

-- what is settled after nothing changed is settled
pub settled-after : (keys : Row → Bool) (old middle new : KeyedGroups) → ((k : Row) → stored_at middle k ≡ stored_at old k) → AreSettled keys middle new → AreSettled keys old new
settled-after keys old middle new same drop k = drop k ∙ ap (λ (o : Option Group). cond (keys k) (settled o) o) (same k)

-- a group that has rows is settled
pub settled-already : (old new : KeyedGroups) (key : Row) → ((k : Row) → stored_at new k ≡ stored_at old k)
    → is_without_rows (held_at old key) ≡ false → AreSettled (same_row key) old new
settled-already old new key same full k = same k ∙ by_test (same_row key k)
    (λ s.
    let here : held_at old k ≡ held_at old key = ap (held_at old) (sym (same_row-same key k s)) in
    ap (option_map seen_group) here ∙ stays (held_at old key) full ∙ ap (λ (o : Option StoredGroup). settled (option_map seen_group o)) (sym here) ∙ rw s refl)
    (λ s. rw s refl)
  where
    stays : (o : Option StoredGroup) → is_without_rows o ≡ false → option_map seen_group o ≡ settled (option_map seen_group o)
    stays None e = refl
    stays (Some g) e = rw e refl
