-- Groups that stand for rows stand for the changed rows, once their change is put in.
use Rattle.std.proofs.Common.{◌≡◌, pos, true, List, [], ◌∷◌, ◌++◌, Option, None, Some, is_some, unwrap_or, refl, sym, ◌∙◌, ap, subst, int_eq, true≢false}
use Rattle.std.specs.Cmp.{signed_Decides}
use Rattle.std.specs.List.{AllByRecursion}
use Rattle.std.specs.Option.{option_map}
use Rattle.cq_values.specs.Value.{Row}
use Rattle.cq_values.specs.Order.{same_row}
use Rattle.cq_model_bags.specs.Bag.{Weighted, IsBag}
use Rattle.cq_model_bags.proofs.Bags.{same-sym}
use Rattle.cq_model_bags.proofs.Totals.{by_test}
use Rattle.cq_model_bags.proofs.Positives.{filtered-bag}
use Rattle.cq_model.specs.declared.query.Aggregate.{Aggregate}
use Rattle.cq_model.specs.declared.query.Shape.TheVariants.{Grouped}
use Rattle.cq_model.specs.Group.{key_of, rows_of_key}
use Rattle.cq_views_model.specs.Kept.{Group, GroupStands, Groups, LastStands, group_of}
use Rattle.cq_model_laws.proofs.Keeps.{last-respects}
use Rattle.cq_deltas.specs.Additions.{Addition}
use Rattle.cq_deltas.specs.Placed.{Placed}
use Rattle.cq_deltas.specs.Keyed.{IsReadyAt, KeyedGroups, additions_at, key_at, stored_at, group_at, is_met, group_with_all, settled, HasKeys, Takes, GroupsGoOn}
use Rattle.cq_deltas.proofs.MetKeys.{unmet-stays}
use Rattle.cq_deltas.proofs.NoRows.{empty-stands}
use Rattle.cq_deltas.proofs.Places.{place-stored}
use Rattle.cq_deltas.proofs.Rowwise.{rowwise-stands}

module _ (aggregates : List Aggregate) (rows : Weighted) (bag : IsBag rows) where
  -- a group that stands for rows still does once it is settled
  pub settled-stands : (g : Group) → GroupStands aggregates rows g → GroupStands aggregates rows (unwrap_or (settled (Some g)) (group_of aggregates []))
  settled-stands g stands = by_test (int_eq g.count (pos 0))
      (λ b. rw b (empty-stands aggregates rows bag (sym stands.count ∙ (signed_Decides g.count (pos 0)).0 b)))
      (λ b. rw b stands)

there-is : (o : Option Group) → is_some o ≡ true → (e : Group) → o ≡ Some (unwrap_or o e)
there-is None h e = absurd (true≢false (sym h))
there-is (Some g) h e = refl

-- a key that a change meets has its group
met-there : (old : KeyedGroups) (change : List Placed) (k : Row) → AllByRecursion (λ x. IsReadyAt x.addends old x.place) change → is_met (additions_at old change) k ≡ true → is_some (stored_at old k) ≡ true
met-there old [] k ready met = absurd (true≢false (sym met))
met-there old (x ∷ change) k ready met = by_test (same_row (key_at old x.place) k)
    (λ s. place-stored old x.place x.addends k ready.0 s)
    (λ s. met-there old change k ready.1 (rw s at met))

-- the groups go on with their change
pub groups-go-on : (old new : KeyedGroups) (rows : List Placed) → HasKeys rows old → Takes old (additions_at old rows) new → GroupsGoOn old (additions_at old rows) new
groups-go-on old new rows keyed takes = λ q keys aggregates having xs dxs ys is same bag stands k.
    let change = additions_at old rows in
    let columns = unwrap_or keys [] in
    let own = rows_of_key columns k ys in
    let none = group_of aggregates [] in
    let g = group_at aggregates old k in
    let after : LastStands q (Grouped keys aggregates having) (xs ++ dxs) (Groups (λ h. group_with_all change h (group_at aggregates old h))) =
    λ h. subst (λ (c : List Addition). GroupStands aggregates (rows_of_key columns h (xs ++ dxs)) (group_with_all c h (group_at aggregates old h))) (sym is)
    (rowwise-stands columns aggregates h xs dxs (group_at aggregates old h) (stands h)) in
    let stand : GroupStands aggregates own (group_with_all change k g) =
    last-respects q (Grouped keys aggregates having) (xs ++ dxs) ys (same-sym ys (xs ++ dxs) same) (Groups (λ h. group_with_all change h (group_at aggregates old h))) after k in
    by_test (is_met change k)
    (λ b.
    let there = there-is (stored_at old k) (met-there old rows k keyed.at b) none in
    let new_at : stored_at new k ≡ settled (Some (group_with_all change k g)) = takes.at k ∙ rw b (ap (λ o. settled (option_map (group_with_all change k) o)) there) in
    subst (λ o. GroupStands aggregates own (unwrap_or o none)) (sym new_at)
    (settled-stands aggregates own (filtered-bag (λ r. same_row (key_of columns r) k) ys bag) (group_with_all change k g) stand))
    (λ b.
    let new_at : stored_at new k ≡ stored_at old k = takes.at k ∙ rw b refl in
    subst (λ o. GroupStands aggregates own (unwrap_or o none)) (sym new_at) (subst (GroupStands aggregates own) (unmet-stays change k g b) stand))
