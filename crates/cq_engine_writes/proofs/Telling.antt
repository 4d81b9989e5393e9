-- Changes that writes tell: what they take a table to, and that they are small.
use Rattle.std.proofs.Common.{◌≡◌, ◌∙◌, ◌+◌, ◌*◌, ◌≤◌, ℕ, ℤ, pos, neg_ℤ, Bool, not, List, [], ◌∷◌, ◌++◌, length, map, Option, Some, None, refl, sym, ap, subst, arith}
use Rattle.std.specs.Prelude.{filter, if◌then◌else◌, IfSome, is_some}
use Rattle.std.specs.List.{AllByRecursion}
use Rattle.std.proofs.lemmas.List.{append-nil, length-map}
use Rattle.cq_values.specs.Value.{Row}
use Rattle.cq_model_bags.specs.Bag.{Weighted, SameBag, once_each}
use Rattle.cq_model_bags.specs.Canonical.{bag_of}
use Rattle.cq_model_bags.proofs.Canonicals.{length-bag_of}
use Rattle.cq_model_bags.proofs.Lists.{all-filter, fewer}
use Rattle.cq_model.specs.Sizes.{IsStored}
use Rattle.cq_model_state.specs.State.{ChangeOf}
use Rattle.cq_model_state.specs.Fitting.{rows_limit}
use Rattle.cq_sides_weights.proofs.RowByRow.{sizes-append}
use Rattle.cq_sides_weights.specs.Held.{sizes}
use Rattle.cq_deltas_joins.proofs.Storing.{stored-append}
use Rattle.cq_deltas_joins.specs.Steps.{AreStored}
use Rattle.cq_table.proofs.Replaced.{images_replace}
use Rattle.cq_table.proofs.RowLists.{gone_all}
use Rattle.cq_views.proofs.Exchanges.{sizes-weighed}
use Rattle.cq_views.specs.Changes.{exchanged, weighed}
use Rattle.cq_engine_writes.proofs.Changes.{taken_to, with_fewer, with_more}
use Rattle.cq_engine_writes.proofs.Exchanged.{with_exchanged}
use Rattle.cq_engine_writes.specs.Changing.{IsChangeAt, Tells, TellsAtMost}

-- ---- The change of one table
-- stored rows that all come, or all go
stored-weighed : (w : ℤ) (rows : List Row) → AllByRecursion IsStored rows → AreStored (weighed rows w)
stored-weighed w [] stored = tt
stored-weighed w (r ∷ rows) stored = (stored.0, stored-weighed w rows stored.1)

-- the change of the table of a number that some rows leave and others come to
abbrev pub change_by : ℕ → List Row → List Row → ChangeOf
change_by n gone come = record { table = n; rows = exchanged gone come }

-- its weights come to one for each row
sizes-exchanged : (gone come : List Row) → sizes (exchanged gone come) ≡ length gone + length come
sizes-exchanged gone come =
    omega (arith, sizes-append (weighed gone (neg_ℤ (pos 1))) (weighed come (pos 1)), sizes-weighed (neg_ℤ (pos 1)) refl gone, sizes-weighed (pos 1) refl come)

-- which is what is told
pub at_most : (n most : ℕ) (gone come : List Row) → length gone + length come ≤ most → (told : Option ChangeOf) → IfSome told (λ d. d ≡ change_by n gone come) → TellsAtMost most told
at_most n most gone come few None same = tt
at_most n most gone come few (Some d) same = omega (arith, ap (λ (e : ChangeOf). sizes e.rows) same, sizes-exchanged gone come, few)

module _ (n : ℕ) (old new gone come : List Row) where
  -- it takes the table to its new rows, and is small where few stored rows go and come
  pub change_at : SameBag (once_each (bag_of new)) (once_each old ++ exchanged gone come) → AllByRecursion IsStored gone → AllByRecursion IsStored come → length gone + length come ≤ 2 * rows_limit → IsChangeAt n old new (change_by n gone come)
  change_at is first second few = record {
    table = refl;
    rows = taken_to old new (exchanged gone come) is;
    small = record {
      stored = stored-append (weighed gone (neg_ℤ (pos 1))) (weighed come (pos 1)) (stored-weighed (neg_ℤ (pos 1)) gone first) (stored-weighed (pos 1) come second);
      few = omega (arith, sizes-exchanged gone come, few);
    };
  }

-- where it is asked for it is told
pub tells : (asked : Bool) (n : ℕ) (old new : List Row) (c : ChangeOf) → IsChangeAt n old new c → (told : Option ChangeOf) → is_some told ≡ asked → IfSome told (λ d. d ≡ c) → Tells asked n old new told
tells asked n old new c is None there same = record { there = there; is = tt }
tells asked n old new c is (Some d) there same = record { there = there; is = subst (λ (e : ChangeOf). IsChangeAt n old new e) (sym same) is }

-- ---- The rows of an INSERT
pub inserted_change : (n : ℕ) (old rows : List Row) → AllByRecursion IsStored rows → length rows ≤ 2 * rows_limit → IsChangeAt n old (old ++ rows) (change_by n [] rows)
inserted_change n old rows stored few = change_at n old (old ++ rows) [] rows (with_more old rows) tt stored (omega (arith, few))

-- ---- The rows that a DELETE or an UPDATE takes
module _ (keep : Row → Bool) (rows gone : List Row) (chosen : bag_of gone ≡ bag_of (filter keep rows)) where
  -- are stored
  gone_stored : AllByRecursion IsStored rows → AllByRecursion IsStored gone
  gone_stored stored = gone_all keep rows gone chosen IsStored (all-filter IsStored keep rows stored)

  -- and no more than there were
  gone_few : length gone ≤ length rows
  gone_few =
      let same : length gone ≡ length (filter keep rows) = sym (length-bag_of gone) ∙ ap length chosen ∙ length-bag_of (filter keep rows) in
      omega (arith, same, fewer keep rows)

  module _ (n : ℕ) (stored : AllByRecursion IsStored rows) (few : length rows ≤ rows_limit) where
    -- those of a DELETE leave the others
    pub deleted_change : IsChangeAt n rows (filter (λ row. not (keep row)) rows) (change_by n gone [])
    deleted_change =
        let left = filter (λ row. not (keep row)) rows in
        let nothing : exchanged gone [] ≡ weighed gone (neg_ℤ (pos 1)) = append-nil (weighed gone (neg_ℤ (pos 1))) in
        let is = subst (λ (dxs : Weighted). SameBag (once_each (bag_of left)) (once_each rows ++ dxs)) (sym nothing) (with_fewer keep rows gone chosen) in
        change_at n rows left gone [] is (gone_stored stored) tt (omega (arith, few, gone_few))

    -- those of an UPDATE leave their images
    pub updated_change : (image : Row → Row) (images : List Row) → images ≡ map image gone → AllByRecursion IsStored images → IsChangeAt n rows (map (λ row. if keep row then image row else row) rows) (change_by n gone images)
    updated_change image images are come =
        let new = map (λ row. if keep row then image row else row) rows in
        let same = images_replace keep rows gone chosen image images are in
        let is = subst (λ (bag : List Row). SameBag (once_each bag) (once_each rows ++ exchanged gone images)) same (with_exchanged keep rows gone chosen images) in
        let count : length images ≡ length gone = ap length are ∙ length-map gone image in
        change_at n rows new gone images is (gone_stored stored) come (omega (arith, few, gone_few, count))
