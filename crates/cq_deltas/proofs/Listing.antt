-- The stored groups that have rows, by their keys.
use Rattle.std.proofs.Common.{◌≡◌, ℕ, zero, suc, ◌+◌, ◌<◌, pos, Bool, false, List, [], ◌∷◌, ◌++◌, map, take, length, get_or, Some, refl, sym, ◌∙◌, ap, subst, arith, int_lt, add-one, slice_get}
use Rattle.std.specs.List.{AllByRecursion, IsDistinct}
use Rattle.std.specs.Map.{keys_of}
use Rattle.std.proofs.Math.IntN.{+ℤ_idl}
use Rattle.cq_values.specs.Value.{Row}
use Rattle.cq_values.specs.Order.{same_row}
use Rattle.cq_values.specs.Keys.{same_row-refl, same_row-equiv, same_row-same}
use Rattle.cq_model_bags.specs.Bag.{weight_of, once_each}
use Rattle.cq_model_bags.proofs.Totals.{by_test}
use Rattle.cq_model.specs.declared.query.Aggregate.{Aggregate}
use Rattle.cq_views_model.specs.Kept.{Group, Groups, shown_row}
use Rattle.cq_views_model.specs.Shown.{ListsKeys}
use Rattle.cq_deltas.specs.declared.group.Group.{Group as StoredGroup}
use Rattle.cq_deltas.specs.Kept.{seen_group}
use Rattle.cq_deltas.specs.Keyed.{KeyedGroups, group_at}
use Rattle.std.proofs.Math.Seq.{take-suc, take-length}
use Rattle.std.proofs.lemmas.Option.{get_or_from_slice_get, slice_get_within}
use Rattle.cq_deltas.specs.Shown.{AllCanBeShown, EntriesCanBeShown, GroupsCanBeShown, counted_keys, entry_rows, group_rows}

-- whether an entry's group has rows
abbrev pub has_rows : Row × StoredGroup → Bool
has_rows e = int_lt (pos 0) e.1.count

-- a key that no entry has is not listed
unlisted : (table : KeyedGroups) (k : Row) → AllByRecursion (λ y. same_row k y ≡ false) (keys_of table) → weight_of (once_each (counted_keys table)) k ≡ pos 0
unlisted [] k h = refl
unlisted (e ∷ es) k h = by_test (has_rows e)
    (λ b. rw (b, same_row-equiv.symm e.0 k ∙ h.0, unlisted es k h.1) refl)
    (λ b. rw b (unlisted es k h.1))

-- each key whose group has rows is listed once
pub lists-keys : (aggregates : List Aggregate) (table : KeyedGroups) → IsDistinct same_row (keys_of table) → ListsKeys (counted_keys table) (Groups (group_at aggregates table))
unfolding IsDistinct
lists-keys aggregates [] d k = refl
lists-keys aggregates (e ∷ es) d k = by_test (same_row k e.0)
    (λ s.
    let same = same_row-same k e.0 s in
    let absent = unlisted es e.0 d.0 in
    by_test (has_rows e)
    (λ b. rw (s, b, same_row-equiv.symm e.0 k ∙ s, ap (weight_of (once_each (counted_keys es))) same ∙ absent) refl)
    (λ b. rw (s, b, ap (weight_of (once_each (counted_keys es))) same ∙ absent) refl))
    (λ s. by_test (has_rows e)
    (λ b. rw (s, b, same_row-equiv.symm e.0 k ∙ s) (+ℤ_idl _ ∙ lists-keys aggregates es d.1 k))
    (λ b. rw (s, b) (lists-keys aggregates es d.1 k)))

-- ---- each entry is the group of its key
module _ (aggregates : List Aggregate) where
  IsOwn : KeyedGroups → Row × StoredGroup → Type 0
  IsOwn table e = group_at aggregates table e.0 ≡ seen_group e.1

  behind : (e : Row × StoredGroup) (table es : KeyedGroups) → AllByRecursion (λ y. same_row e.0 y ≡ false) (keys_of es) → AllByRecursion (IsOwn table) es → AllByRecursion (IsOwn (e ∷ table)) es
  unfolding IsOwn
  behind e table [] other own = tt
  behind e table (x ∷ es) other own = (rw (same_row-equiv.symm x.0 e.0 ∙ other.0) own.0, behind e table es other.1 own.1)

  each-own : (table : KeyedGroups) → IsDistinct same_row (keys_of table) → AllByRecursion (IsOwn table) table
  unfolding IsDistinct IsOwn
  each-own [] d = tt
  each-own (e ∷ es) d = (rw (same_row-refl e.0) refl, behind e es es d.0 (each-own es d.1))

  -- so rows and ranges of entries are those of the keys
  rows-own : (table es : KeyedGroups) → AllByRecursion (IsOwn table) es → entry_rows aggregates es ≡ map (λ k. shown_row aggregates k (group_at aggregates table k).kept) (counted_keys es)
  unfolding IsOwn
  rows-own table [] own = refl
  rows-own table (e ∷ es) own = by_test (has_rows e)
      (λ b. rw b (λ i. shown_row aggregates e.0 (sym own.0 i).kept ∷ rows-own table es own.1 i))
      (λ b. rw b (rows-own table es own.1))

  range-to : (table es : KeyedGroups) → AllByRecursion (IsOwn table) es → EntriesCanBeShown aggregates es → AllByRecursion (λ k. AllCanBeShown aggregates (group_at aggregates table k).kept) (counted_keys es)
  unfolding IsOwn
  range-to table [] own all = tt
  range-to table (e ∷ es) own all = by_test (has_rows e)
      (λ b. let here = rw b at all in rw b (subst (λ (g : Group). AllCanBeShown aggregates g.kept) (sym own.0) here.0, range-to table es own.1 here.1))
      (λ b. rw b (range-to table es own.1 (rw b at all)))

  range-from : (table es : KeyedGroups) → AllByRecursion (IsOwn table) es → AllByRecursion (λ k. AllCanBeShown aggregates (group_at aggregates table k).kept) (counted_keys es) → EntriesCanBeShown aggregates es
  unfolding IsOwn
  range-from table [] own all = tt
  range-from table (e ∷ es) own all = by_test (has_rows e)
      (λ b. let here = rw b at all in rw b (subst (λ (g : Group). AllCanBeShown aggregates g.kept) own.0 here.0, range-from table es own.1 here.1))
      (λ b. rw b (range-from table es own.1 (rw b at all)))

  pub rows-shown : (table : KeyedGroups) → IsDistinct same_row (keys_of table) → entry_rows aggregates table ≡ group_rows aggregates table
  rows-shown table d = rows-own table table (each-own table d)

  pub range-shown : (table : KeyedGroups) → IsDistinct same_row (keys_of table) → EntriesCanBeShown aggregates table → GroupsCanBeShown aggregates table
  range-shown table d = range-to table table (each-own table d)

  entries-range : (table : KeyedGroups) → IsDistinct same_row (keys_of table) → GroupsCanBeShown aggregates table → EntriesCanBeShown aggregates table
  entries-range table d = range-from table table (each-own table d)

  -- ---- one entry after the other
  rows-append : (es fs : KeyedGroups) → entry_rows aggregates (es ++ fs) ≡ entry_rows aggregates es ++ entry_rows aggregates fs
  rows-append [] fs = refl
  rows-append (e ∷ es) fs = by_test (has_rows e)
      (λ b. rw b (ap (λ rows. shown_row aggregates e.0 (seen_group e.1).kept ∷ rows) (rows-append es fs)))
      (λ b. rw b (rows-append es fs))

  range-append : (es fs : KeyedGroups) → EntriesCanBeShown aggregates es → EntriesCanBeShown aggregates fs → EntriesCanBeShown aggregates (es ++ fs)
  range-append [] fs all more = more
  range-append (e ∷ es) fs all more = by_test (has_rows e)
      (λ b. let here = rw b at all in rw b (here.0, range-append es fs here.1 more))
      (λ b. rw b (range-append es fs (rw b at all) more))

  range-in : (es : KeyedGroups) (i : ℕ) (d : Row × StoredGroup) → i < length es → EntriesCanBeShown aggregates es → EntriesCanBeShown aggregates (get_or es i d ∷ [])
  range-in [] i d h all = absurd (omega (arith, h))
  range-in (e ∷ es) zero d h all = by_test (has_rows e) (λ b. let here = rw b at all in rw b (here.0, tt)) (λ b. rw b tt)
  range-in (e ∷ es) (suc i) d h all = by_test (has_rows e)
      (λ b. let here = rw b at all in range-in es i d (omega (arith, h)) here.1)
      (λ b. range-in es i d (omega (arith, h)) (rw b at all))

  module _ (table : KeyedGroups) (i : ℕ) (e : Row × StoredGroup) (at : Some e ≡ slice_get table i) where
    in_table : i < length table
    in_table = slice_get_within table i e (sym at)

    is : e ≡ get_or table i e
    is = sym (get_or_from_slice_get table i e e (sym at))

    one-more : take (i + 1) table ≡ take i table ++ e ∷ []
    one-more = rw (add-one i) (take-suc table i e in_table ∙ ap (λ (x : Row × StoredGroup). take i table ++ x ∷ []) (sym is))

    pub rows-more : (rows : List Row) → rows ≡ entry_rows aggregates (take i table) → rows ++ entry_rows aggregates (e ∷ []) ≡ entry_rows aggregates (take (i + 1) table)
    rows-more rows so_far = rw (one-more, rows-append (take i table) (e ∷ []), so_far) refl

    pub range-more : EntriesCanBeShown aggregates (take i table) → EntriesCanBeShown aggregates (e ∷ []) → EntriesCanBeShown aggregates (take (i + 1) table)
    range-more all can = rw one-more (range-append (take i table) (e ∷ []) all can)

    range-of : EntriesCanBeShown aggregates table → EntriesCanBeShown aggregates (e ∷ [])
    range-of all = subst (λ (x : Row × StoredGroup). EntriesCanBeShown aggregates (x ∷ [])) (sym is) (range-in table i e in_table all)

    -- where all groups can be shown the entry can
    pub place-range : IsDistinct same_row (keys_of table) → GroupsCanBeShown aggregates table → EntriesCanBeShown aggregates (e ∷ [])
    place-range d all = range-of (entries-range table d all)

  -- at the end all entries are shown
  module _ (table : KeyedGroups) (n : ℕ) (d : IsDistinct same_row (keys_of table)) (at_end : n ≡ length table) where
    whole : take n table ≡ table
    whole = ap (λ (m : ℕ). take m table) at_end ∙ take-length table

    pub rows-done : (rows : List Row) → rows ≡ entry_rows aggregates (take n table) → rows ≡ group_rows aggregates table
    rows-done rows so_far = so_far ∙ ap (entry_rows aggregates) whole ∙ rows-shown table d

    pub range-done : EntriesCanBeShown aggregates (take n table) → GroupsCanBeShown aggregates table
    range-done all = range-shown table d (subst (EntriesCanBeShown aggregates) whole all)
