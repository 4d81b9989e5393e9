-- Rows that are cut to columns one after the other, and the change of a table that is cut.
use Rattle.std.proofs.Common.{◌≡◌, ◌∙◌, ◌+◌, ◌<◌, ◌^◌, ℕ, ℤ, pos, neg_ℤ, ◌+ℤ◌, nat_abs, List, [], ◌∷◌, ◌++◌, length, map, take, get_or, Option, Some, None, refl, sym, ap, ap₂, subst, arith}
use Rattle.std.proofs.lemmas.Int.{ints}
use Rattle.std.proofs.lemmas.List.{length-map, length-take-le, map-append, take_more}
use Rattle.cq_values.specs.Value.{Row}
use Rattle.cq_model_bags.proofs.Bags.{same-append, same-refl, same-trans}
use Rattle.cq_model_bags.proofs.Linears.{projected-append}
use Rattle.cq_model_bags.proofs.Totals.{by_test, weight_of-append}
use Rattle.cq_model_bags.specs.Bag.{SameBag, Weighted, once_each, projected, weight_of}
use Rattle.cq_model_bags.specs.Size.{IsClean}
use Rattle.cq_deltas_joins.specs.Sources.{rows_at}
use Rattle.cq_views.proofs.Bags.{cut-none}
use Rattle.cq_views.proofs.Taking.{only-have}
use Rattle.cq_views.specs.Changes.{StaysInRange, exchanged, weighed}
use Rattle.cq_views.specs.Cut.{AreCut, IsCut, cut_to, entry_of}
use Rattle.cq_views.specs.Filling.{only}
use Rattle.cq_model.specs.Sources.{same_source}
use Rattle.cq_model.specs.Group.{key_of}
use Rattle.cq_model.specs.declared.query.Source.{Source}
use Rattle.cq_views_columns.specs.declared.columns.SourceColumns.{SourceColumns}
use Rattle.cq_sides_weights.proofs.RowByRow.{sizes-cons, weight-size}
use Rattle.cq_sides_weights.specs.Held.{Held, sizes}
use Rattle.cq_model_bags.proofs.Sizes.{clean-nil}
use Rattle.cq_model_bags.proofs.Integers.{abs-plus}
use Rattle.cq_model.proofs.SameSources.{only_itself}

-- ---- one row after the other
-- rows that all come, or all go, have their number as their sizes
pub sizes-weighed : (w : ℤ) → nat_abs w ≡ 1 → (rows : List Row) → sizes (weighed rows w) ≡ length rows
sizes-weighed w one [] = refl
sizes-weighed w one (r ∷ rows) = omega (arith, sizes-cons (r, w) (weighed rows w), one, sizes-weighed w one rows)

module _ (w : ℤ) (init old : Weighted) (done : List Row) (r : Row) (before : SameBag old (init ++ weighed done w)) where
  -- no weight leaves its range with another one of them
  pub still-in_range : (count : ℕ) → nat_abs w ≡ 1 → StaysInRange count init → length done < count → nat_abs (weight_of old r) + 1 < 2 ^ 127
  still-in_range count one small more =
      let whole : weight_of old r ≡ weight_of init r +ℤ weight_of (weighed done w) r = before.at r ∙ weight_of-append init (weighed done w) r in
      omega (arith, ap nat_abs whole, abs-plus (weight_of init r) (weight_of (weighed done w) r), weight-size (weighed done w) r, sizes-weighed w one done, small r, more)

  -- one row more has changed
  pub one-more : (new : Weighted) (more : List Row) → more ≡ done ++ r ∷ [] → SameBag new (old ++ (r, w) ∷ []) → SameBag new (init ++ weighed more w)
  one-more new more longer put = subst (λ (rows : List Row). SameBag new (init ++ weighed rows w)) (sym longer) (record { at = weights })
    where
      weights : (q : Row) → weight_of new q ≡ weight_of (init ++ weighed (done ++ r ∷ []) w) q
      weights q =
          let grown : weight_of (weighed (done ++ r ∷ []) w) q ≡ weight_of (weighed done w) q +ℤ weight_of ((r, w) ∷ []) q =
          ap (λ (xs : Weighted). weight_of xs q) (map-append (λ (x : Row). (x, w)) done (r ∷ [])) ∙ weight_of-append (weighed done w) ((r, w) ∷ []) q in
          omega (
            arith,
            ints,
            put.at q,
            before.at q,
            weight_of-append old ((r, w) ∷ []) q,
            weight_of-append init (weighed done w) q,
            weight_of-append init (weighed (done ++ r ∷ []) w) q,
            grown,
          )

-- the rows so far are cut, and one more
module _ {X : Type 0} (cut : X → Row) (xs : List X) (i : ℕ) (within : i < length xs) where
  pub cut-longer : (x : X) (short : Row) → short ≡ cut (get_or xs i x) → map cut (take (i + 1) xs) ≡ map cut (take i xs) ++ short ∷ []
  cut-longer x short same =
      ap (map cut) (take_more xs i x within) ∙ map-append cut (take i xs) (get_or xs i x ∷ []) ∙ ap (λ (r : Row). map cut (take i xs) ++ r ∷ []) (sym same)

  -- which was left over
  pub cut-fewer : length (map cut (take i xs)) < length xs
  cut-fewer = omega (arith, within, length-map (take i xs) cut, length-take-le i xs (omega (arith, within)))

-- ---- all rows of a change
-- no row is there, and so many may come
pub none-in_range : (count : ℕ) → count < 2 ^ 64 → StaysInRange count []
none-in_range count few r = omega (arith, ints, few)

-- rows that went leave room in the range for others to come
pub gone-in_range : (old : Weighted) (gone : List Row) (count : ℕ) → SameBag old (weighed gone (neg_ℤ (pos 1))) → length gone < 2 ^ 64 → count < 2 ^ 64 → StaysInRange count old
gone-in_range old gone count same few more r =
    omega (arith, ap nat_abs (same.at r), weight-size (weighed gone (neg_ℤ (pos 1))) r, sizes-weighed (neg_ℤ (pos 1)) refl gone, few, more)

module _ (f : Row → Row) where
  -- images of rows have their weights
  projected-weighed : (w : ℤ) (rows : List Row) → projected f (weighed rows w) ≡ weighed (map f rows) w
  projected-weighed w [] = refl
  projected-weighed w (r ∷ rows) = ap (λ (xs : Weighted). (f r, w) ∷ xs) (projected-weighed w rows)

  -- so rows that are cut go and come as the whole ones do
  pub projected-exchanged : (gone come : List Row) → projected f (exchanged gone come) ≡ exchanged (map f gone) (map f come)
  projected-exchanged gone come =
      projected-append f (weighed gone (neg_ℤ (pos 1))) (once_each come)
      ∙ ap₂ (λ (xs ys : Weighted). xs ++ ys) (projected-weighed (neg_ℤ (pos 1)) gone) (projected-weighed (pos 1) come)

-- the rows that went and those that came are what is cut
pub all-cut_rows : (columns : List ℕ) (gone come : List Row) (left cut : Weighted) → SameBag left (weighed (map (key_of columns) gone) (neg_ℤ (pos 1))) → SameBag cut (left ++ weighed (map (key_of columns) come) (pos 1))
    → SameBag cut (projected (key_of columns) (exchanged gone come))
all-cut_rows columns gone come left cut went came =
    let out = weighed (map (key_of columns) gone) (neg_ℤ (pos 1)) in
    let in_ = weighed (map (key_of columns) come) (pos 1) in
    subst (λ (xs : Weighted). SameBag cut xs) (sym (projected-exchanged (key_of columns) gone come))
    (same-trans cut (left ++ in_) (out ++ in_) came (same-append left out in_ in_ went (same-refl in_)))

-- ---- the change of one table
module _ (columns : List SourceColumns) (source : Source) (xs : Weighted) where
  -- rows of one source are cut to the columns of its entry
  cut-only : (x : Option SourceColumns) → entry_of columns source ≡ x → (s : Source) → cut_to (entry_of columns s) (only source xs s) ≡ only source (cut_to x xs) s
  cut-only x found s = by_test (same_source source s)
      (λ k. rw k (ap (λ (o : Option SourceColumns). cut_to o xs) (ap (entry_of columns) (sym (only_itself source s k)) ∙ found)))
      (λ k. rw k (cut-none (entry_of columns s)))

  -- without an entry none is left
  pub no-entry : entry_of columns source ≡ None → AreCut columns (only source xs) (rows_at [])
  no-entry none = record { same = record { at = λ s. subst (λ (ys : Weighted). SameBag [] ys) (sym (cut-only None none s ∙ nothing s)) (same-refl []) }; clean = λ s. clean-nil }
    where
      nothing : (s : Source) → only source [] s ≡ []
      nothing s = by_test (same_source source s) (λ k. rw k refl) (λ k. rw k refl)

  -- with one the change is that of the rows that are cut
  pub own-entry : (x : SourceColumns) → entry_of columns source ≡ Some x → (rows : Held) → IsCut x.columns xs rows → AreCut columns (only source xs) (rows_at (record { source = source; rows = rows } ∷ []))
  own-entry x found rows is = record {
    same = record { at = λ s. subst (λ (ys : Weighted). SameBag (only source rows.entries s) ys) (sym (cut-only (Some x) found s)) (alike s) };
    clean = only-have IsClean source rows.entries is.clean clean-nil;
  }
    where
      alike : (s : Source) → SameBag (only source rows.entries s) (only source (projected (key_of x.columns) xs) s)
      alike s = by_test (same_source source s) (λ k. rw k is.same) (λ k. rw k (same-refl []))
