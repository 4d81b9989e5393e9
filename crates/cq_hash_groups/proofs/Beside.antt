-- What is added for an aggregate, on its own or beside the first SUM.
use Rattle.std.proofs.Common.{◌≡◌, ℕ, true, false, List, get_or, map, refl, sym, ◌∙◌, ap, Option, Some, None}
use Rattle.cq_values.specs.Value.{Row}
use Rattle.cq_model.specs.declared.query.Aggregate.{Aggregate}
use Rattle.cq_model.specs.declared.query.Aggregate.TheVariants.{CountAll, Count, CountDistinct, Sum, Min, Max}
use Rattle.cq_hash_groups.specs.Arguments.{argument}
use Rattle.cq_hash_groups.specs.Groups.{added_as, added_slots}
use Rattle.cq_hash_groups.specs.Lead.{at_place, counted_beside, first_sum, is_count_all, sum_place}
use Rattle.cq_hash_groups_slots.specs.declared.slots.Slots.{Slots}
use Rattle.cq_hash_groups_slots.specs.Slots.{grown_slots, put_nulls, put_slots}

alone : (lead : Option Aggregate) (a : Aggregate) → is_count_all a ≡ false → counted_beside lead a ≡ None
alone lead CountAll is = absurd (cc is)
alone lead (Count e) is = refl
alone lead (CountDistinct e) is = refl
alone lead (Sum e) is = refl
alone lead (Min e) is = refl
alone lead (Max e) is = refl

beside-lead : (lead : Option Aggregate) (a : Aggregate) → is_count_all a ≡ true → counted_beside lead a ≡ lead
beside-lead lead CountAll is = refl
beside-lead lead (Count e) is = absurd (cc is)
beside-lead lead (CountDistinct e) is = absurd (cc is)
beside-lead lead (Sum e) is = absurd (cc is)
beside-lead lead (Min e) is = absurd (cc is)
beside-lead lead (Max e) is = absurd (cc is)

module _ (aggregates : List Aggregate) (groups : ℕ) (numbers : List ℕ) (rows : List Row) (a : Aggregate) (old : Slots) where
  -- what the aggregate reads is put in, where it is not counted beside another
  read-added : counted_beside (first_sum aggregates) a ≡ None → put_slots numbers (map (argument a) rows) (grown_slots groups old) ≡ added_slots (first_sum aggregates) groups numbers rows a old
  read-added is = ap (λ (beside : Option Aggregate). added_as beside groups numbers rows a old) (sym is)

  pub other-added : is_count_all a ≡ false → put_slots numbers (map (argument a) rows) (grown_slots groups old) ≡ added_slots (first_sum aggregates) groups numbers rows a old
  other-added is = read-added (alone (first_sum aggregates) a is)

  -- the NULLs of the first SUM are counted for COUNT(*)
  pub nulls-added : (place : ℕ) → sum_place aggregates ≡ Some place → is_count_all a ≡ true
      → put_nulls numbers (map (argument (get_or aggregates place CountAll)) rows) (grown_slots groups old) ≡ added_slots (first_sum aggregates) groups numbers rows a old
  nulls-added place at is =
      ap (λ (beside : Option Aggregate). added_as beside groups numbers rows a old)
      (sym (beside-lead (first_sum aggregates) a is ∙ ap (at_place aggregates) at))
