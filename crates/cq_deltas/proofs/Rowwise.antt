-- A group that stands for rows stands for those with changed rows put in one by one.
use Rattle.std.proofs.Common.{◌≡◌, ℕ, ℤ, pos, ◌+ℤ◌, ◌*ℤ◌, true, false, cond, List, [], ◌∷◌, ◌++◌, map, refl, sym, ◌∙◌, ap, subst, append_assoc, arith}
use Rattle.std.proofs.lemmas.Int.{ints}
use Rattle.std.proofs.lemmas.List.{append-nil}
use Rattle.std.proofs.Math.IntN.{*ℤ_comm, *ℤ-zero}
use Rattle.cq_values.specs.declared.value.Value.{Value}
use Rattle.cq_values.specs.declared.value.Value.TheVariants.{Null, Number, Day, Text}
use Rattle.cq_values.specs.Value.{Row}
use Rattle.cq_values.specs.Order.{same_row}
use Rattle.cq_model_bags.specs.Bag.{Weighted, SameBag}
use Rattle.cq_model_bags.proofs.Bags.{same-refl, same-trans, same-append}
use Rattle.cq_model_bags.proofs.Linears.{filtered-append, projected-append}
use Rattle.cq_model_bags.proofs.Totals.{by_test, total-append}
use Rattle.cq_model.specs.Expr.{Expr}
use Rattle.cq_model.specs.declared.query.Aggregate.{Aggregate}
use Rattle.cq_model.specs.declared.query.Aggregate.TheVariants.{CountAll, Count, CountDistinct, Sum, Min, Max}
use Rattle.cq_model.specs.Condition.{is_null}
use Rattle.cq_model.specs.Eval.{eval}
use Rattle.cq_model.specs.Group.{addend, count_all, count_values, sum_values, value_bag, key_of, rows_of_key}
use Rattle.cq_views_model.specs.Kept.{Kept, Counted, Totalled, Listed, IsKept, AreKept, Group, GroupStands}
use Rattle.cq_model_laws.proofs.Groups.{count-append, sum-append}
use Rattle.cq_deltas.specs.Extremes.{alone, with_more}
use Rattle.cq_deltas.proofs.Writes.{more-added}
use Rattle.cq_deltas.specs.Additions.{addend_of, additions, counted_addend}
use Rattle.cq_deltas.specs.Kept.{kept_with, all_kept_with, group_with}
use Rattle.cq_deltas.specs.Keyed.{group_with_all}

-- NULL adds nothing to a total
null-adds-nothing : (v : Value) → is_null v ≡ true → addend v ≡ pos 0
null-adds-nothing Null e = refl
null-adds-nothing (Number n) e = absurd (cc)
null-adds-nothing (Day d) e = absurd (cc)
null-adds-nothing (Text t) e = absurd (cc)

module _ (r : Row) (w : ℤ) (xs : Weighted) where
  -- a row more
  abbrev with_row : Weighted
  with_row = xs ++ (r, w) ∷ []

  counted-one : (e : Expr) (n : ℤ) → n ≡ count_values e xs → IsKept (Count e) with_row (kept_with w (counted_addend (eval e r)) (Counted n))
  counted-one e n h =
      let sum = count-append e xs ((r, w) ∷ []) in
      by_test (is_null (eval e r))
      (λ b. rw b (h ∙ none b ∙ sym sum))
      (λ b. rw b (ap (λ m. m +ℤ w) h ∙ one b ∙ sym sum))
    where
      none : is_null (eval e r) ≡ true → count_values e xs ≡ count_values e xs +ℤ count_values e ((r, w) ∷ [])
      none b = rw (b, *ℤ-zero w) (omega (arith, ints))

      one : is_null (eval e r) ≡ false → count_values e xs +ℤ w ≡ count_values e xs +ℤ count_values e ((r, w) ∷ [])
      one b = rw b (omega (arith, ints))

  totalled-one : (e : Expr) (n total : ℤ) → n ≡ count_values e xs → total ≡ sum_values e xs → IsKept (Sum e) with_row (kept_with w (counted_addend (eval e r)) (Totalled n total))
  totalled-one e n total h t =
      let counts = count-append e xs ((r, w) ∷ []) in
      let sums = sum-append e xs ((r, w) ∷ []) in
      by_test (is_null (eval e r))
      (λ b. rw b (h ∙ none b ∙ sym counts, t ∙ no_sum b ∙ sym sums))
      (λ b. rw b (ap (λ m. m +ℤ w) h ∙ one b ∙ sym counts, ap (λ m. m +ℤ addend (eval e r) *ℤ w) t ∙ a_sum ∙ sym sums))
    where
      none : is_null (eval e r) ≡ true → count_values e xs ≡ count_values e xs +ℤ count_values e ((r, w) ∷ [])
      none b = rw (b, *ℤ-zero w) (omega (arith, ints))

      one : is_null (eval e r) ≡ false → count_values e xs +ℤ w ≡ count_values e xs +ℤ count_values e ((r, w) ∷ [])
      one b = rw b (omega (arith, ints))

      no_sum : is_null (eval e r) ≡ true → sum_values e xs ≡ sum_values e xs +ℤ sum_values e ((r, w) ∷ [])
      no_sum b = rw (null-adds-nothing (eval e r) b, *ℤ-zero w) (omega (arith, ints))

      a_sum : sum_values e xs +ℤ addend (eval e r) *ℤ w ≡ sum_values e xs +ℤ sum_values e ((r, w) ∷ [])
      a_sum = rw (*ℤ_comm w (addend (eval e r))) (omega (arith, ints))

  listed-one : (e : Expr) (values : Weighted) → SameBag values (value_bag e xs) → SameBag (with_more (alone (eval e r)) w values) (value_bag e with_row)
  listed-one e values h =
      let one = (alone (eval e r), w) ∷ [] in
      subst (λ (ys : Weighted). SameBag (with_more (alone (eval e r)) w values) ys) (sym (projected-append (λ s. eval e s ∷ []) xs ((r, w) ∷ [])))
      (same-trans (with_more (alone (eval e r)) w values) (values ++ one) (value_bag e xs ++ one)
      (more-added (alone (eval e r)) w values (with_more (alone (eval e r)) w values) refl).bag
      (same-append values (value_bag e xs) one one h (same-refl one)))

  -- one aggregate with a row put in
  kept-one : (a : Aggregate) (k : Kept) → IsKept a xs k → IsKept a with_row (kept_with w (addend_of r a) k)
  kept-one CountAll (Counted n) h = ap (λ m. m +ℤ w) h ∙ one ∙ sym (total-append (λ s. pos 1) xs ((r, w) ∷ []))
    where
      one : count_all xs +ℤ w ≡ count_all xs +ℤ count_all ((r, w) ∷ [])
      one = omega (arith, ints)
  kept-one (Count e) (Counted n) h = counted-one e n h
  kept-one (Sum e) (Totalled n total) h = totalled-one e n total h.0 h.1
  kept-one (CountDistinct e) (Listed values) h = listed-one e values h
  kept-one (Min e) (Listed values) h = listed-one e values h
  kept-one (Max e) (Listed values) h = listed-one e values h
  kept-one CountAll (Totalled n total) h = absurd h
  kept-one CountAll (Listed values) h = absurd h
  kept-one (Count e) (Totalled n total) h = absurd h
  kept-one (Count e) (Listed values) h = absurd h
  kept-one (Sum e) (Counted n) h = absurd h
  kept-one (Sum e) (Listed values) h = absurd h
  kept-one (CountDistinct e) (Counted n) h = absurd h
  kept-one (CountDistinct e) (Totalled n total) h = absurd h
  kept-one (Min e) (Counted n) h = absurd h
  kept-one (Min e) (Totalled n total) h = absurd h
  kept-one (Max e) (Counted n) h = absurd h
  kept-one (Max e) (Totalled n total) h = absurd h

  -- so all aggregates of a group
  all-kept-one : (aggregates : List Aggregate) (kept : List Kept) → AreKept aggregates xs kept → AreKept aggregates with_row (all_kept_with w (map (addend_of r) aggregates) kept)
  all-kept-one [] [] h = tt
  all-kept-one [] (k ∷ kept) h = absurd h
  all-kept-one (a ∷ aggregates) [] h = absurd h
  all-kept-one (a ∷ aggregates) (k ∷ kept) h = (kept-one a k h.0, all-kept-one aggregates kept h.1)

  group-one : (aggregates : List Aggregate) (g : Group) → GroupStands aggregates xs g → GroupStands aggregates with_row (group_with w (map (addend_of r) aggregates) g)
  group-one aggregates g stands = record { count = kept-one CountAll (Counted g.count) stands.count; kept = all-kept-one aggregates g.kept stands.kept }

-- the group of a key stands for the rows with that key, once a change is put in row by row
pub rowwise-stands : (columns : List ℕ) (aggregates : List Aggregate) (k : Row) (xs dxs : Weighted) (g : Group) → GroupStands aggregates (rows_of_key columns k xs) g
    → GroupStands aggregates (rows_of_key columns k (xs ++ dxs)) (group_with_all (additions columns aggregates dxs) k g)
rowwise-stands columns aggregates k xs [] g stands = subst (λ (ys : Weighted). GroupStands aggregates (rows_of_key columns k ys) g) (sym (append-nil xs)) stands
rowwise-stands columns aggregates k xs (x ∷ dxs) g stands =
    let test = same_row (key_of columns x.0) k in
    let more = group_with x.1 (map (addend_of x.0) aggregates) g in
    let rows = rows_of_key columns k xs in
    let apart : rows_of_key columns k (xs ++ x ∷ []) ≡ rows ++ rows_of_key columns k (x ∷ []) = filtered-append (λ r. same_row (key_of columns r) k) xs (x ∷ []) in
    let next : GroupStands aggregates (rows_of_key columns k (xs ++ x ∷ [])) (cond test more g) =
    by_test test
    (λ b.
    let met : rows_of_key columns k (x ∷ []) ≡ x ∷ [] = rw b refl in
    let here : GroupStands aggregates (rows ++ x ∷ []) (cond test more g) = rw b (group-one x.0 x.1 rows aggregates g stands) in
    subst (λ (ys : Weighted). GroupStands aggregates ys (cond test more g)) (sym (apart ∙ ap (λ (ys : Weighted). rows ++ ys) met)) here)
    (λ b.
    let met : rows_of_key columns k (x ∷ []) ≡ [] = rw b refl in
    let here : GroupStands aggregates rows (cond test more g) = rw b stands in
    subst (λ (ys : Weighted). GroupStands aggregates ys (cond test more g)) (sym (apart ∙ ap (λ (ys : Weighted). rows ++ ys) met ∙ append-nil rows)) here) in
    subst (λ (ys : Weighted). GroupStands aggregates (rows_of_key columns k ys) (group_with_all (additions columns aggregates (x ∷ dxs)) k g)) (append_assoc xs (x ∷ []) dxs)
    (rowwise-stands columns aggregates k (xs ++ x ∷ []) dxs (cond test more g) next)
