-- The row of a group, shown one aggregate after the other.
use Rattle.std.proofs.Common.{◌≡◌, ℕ, zero, suc, ◌+◌, ◌<◌, ◌≤◌, min, List, [], ◌∷◌, ◌++◌, map, take, length, get_or, refl, sym, ◌∙◌, ap, append_assoc, add-one, arith}
use Rattle.std.proofs.lemmas.List.{length-map, get_or-map}
use Rattle.cq_values.specs.declared.value.Value.{Value}
use Rattle.cq_values.specs.Value.{Row}
use Rattle.cq_model.specs.declared.query.Aggregate.{Aggregate}
use Rattle.cq_views_model.specs.Kept.{Kept, kept_value, shown_values, shown_row}
use Rattle.cq_deltas.specs.declared.kept.Kept.{Kept as Stored}
use Rattle.cq_deltas.specs.Kept.{seen}
use Rattle.cq_deltas.specs.Shown.{CanBeShown, AllCanBeShown}

values-more : (xs : List Aggregate) (ks : List Kept) (i : ℕ) (a : Aggregate) (k : Kept) → i < length xs → i < length ks
    → shown_values (take (suc i) xs) (take (suc i) ks) ≡ shown_values (take i xs) (take i ks) ++ kept_value (get_or xs i a) (get_or ks i k) ∷ []
values-more [] ks i a k g h = absurd (omega (arith, g))
values-more (b ∷ xs) [] i a k g h = absurd (omega (arith, h))
values-more (b ∷ xs) (l ∷ ks) zero a k g h = refl
values-more (b ∷ xs) (l ∷ ks) (suc i) a k g h = ap (λ vs. kept_value b l ∷ vs) (values-more xs ks i a k (omega (arith, g)) (omega (arith, h)))

can-more : (xs : List Aggregate) (ks : List Kept) (i : ℕ) (a : Aggregate) (k : Kept) → i < length xs → i < length ks
    → AllCanBeShown (take i xs) (take i ks) → CanBeShown (get_or xs i a) (get_or ks i k) → AllCanBeShown (take (suc i) xs) (take (suc i) ks)
can-more [] ks i a k g h all can = absurd (omega (arith, g))
can-more (b ∷ xs) [] i a k g h all can = absurd (omega (arith, h))
can-more (b ∷ xs) (l ∷ ks) zero a k g h all can = (can, tt)
can-more (b ∷ xs) (l ∷ ks) (suc i) a k g h all can = (all.0, can-more xs ks i a k (omega (arith, g)) (omega (arith, h)) all.1 can)

values-all : (xs : List Aggregate) (ks : List Kept) (n : ℕ) → min (length xs) (length ks) ≤ n → shown_values (take n xs) (take n ks) ≡ shown_values xs ks
values-all [] ks zero h = refl
values-all [] ks (suc n) h = refl
values-all (a ∷ xs) [] zero h = refl
values-all (a ∷ xs) [] (suc n) h = refl
values-all (a ∷ xs) (k ∷ ks) zero h = absurd (omega (arith, h))
values-all (a ∷ xs) (k ∷ ks) (suc n) h = ap (λ vs. kept_value a k ∷ vs) (values-all xs ks n (omega (arith, h)))

can-all : (xs : List Aggregate) (ks : List Kept) (n : ℕ) → min (length xs) (length ks) ≤ n → AllCanBeShown (take n xs) (take n ks) → AllCanBeShown xs ks
can-all [] ks n h all = tt
can-all (a ∷ xs) [] n h all = tt
can-all (a ∷ xs) (k ∷ ks) zero h all = absurd (omega (arith, h))
can-all (a ∷ xs) (k ∷ ks) (suc n) h all = (all.0, can-all xs ks n (omega (arith, h)) all.1)

can-at : (xs : List Aggregate) (ks : List Kept) (i : ℕ) (a : Aggregate) (k : Kept) → i < length xs → i < length ks → AllCanBeShown xs ks → CanBeShown (get_or xs i a) (get_or ks i k)
can-at [] ks i a k g h all = absurd (omega (arith, g))
can-at (b ∷ xs) [] i a k g h all = absurd (omega (arith, h))
can-at (b ∷ xs) (l ∷ ks) zero a k g h all = all.0
can-at (b ∷ xs) (l ∷ ks) (suc i) a k g h all = can-at xs ks i a k (omega (arith, g)) (omega (arith, h)) all.1

-- the same of what is stored
module _ (xs : List Aggregate) (kept : List Stored) (i : ℕ) (a : Aggregate) (k : Stored) (in_list : i < length xs) (in_kept : i < length kept) (is_a : a ≡ get_or xs i a) (is_k : k ≡ get_or kept i k) where
  in_seen : i < length (map seen kept)
  in_seen = omega (arith, in_kept, length-map kept seen)

  seen_at : get_or (map seen kept) i (seen k) ≡ seen k
  seen_at = get_or-map seen kept i k (seen k) in_kept ∙ ap seen (sym is_k)

  pub row-more : (begun key row : Row) (v : Value) → row ≡ begun ++ shown_row (take i xs) key (take i (map seen kept)) → v ≡ kept_value a (seen k)
      → row ++ v ∷ [] ≡ begun ++ shown_row (take (i + 1) xs) key (take (i + 1) (map seen kept))
  row-more begun key row v so_far is =
      let values : Row = shown_values (take i xs) (take i (map seen kept)) in
      let more : Row = kept_value a (seen k) ∷ [] in
      rw (add-one i, values-more xs (map seen kept) i a (seen k) in_list in_seen, sym is_a, seen_at, so_far, is)
      (append_assoc begun (key ++ values) more ∙ ap (λ vs. begun ++ vs) (append_assoc key values more))

  pub range-more : AllCanBeShown (take i xs) (take i (map seen kept)) → CanBeShown a (seen k) → AllCanBeShown (take (i + 1) xs) (take (i + 1) (map seen kept))
  range-more all can =
      rw (add-one i) (can-more xs (map seen kept) i a (seen k) in_list in_seen all (rw (sym is_a, seen_at) can))

  pub range-at : AllCanBeShown xs (map seen kept) → CanBeShown a (seen k)
  range-at all = rw (sym is_a, seen_at) at (can-at xs (map seen kept) i a (seen k) in_list in_seen all)

module _ (xs : List Aggregate) (kept : List Stored) (n : ℕ) (at_end : min (length xs) (length kept) ≤ n) where
  pub row-done : (begun key row : Row) → row ≡ begun ++ shown_row (take n xs) key (take n (map seen kept)) → row ≡ begun ++ shown_row xs key (map seen kept)
  row-done begun key row so_far = so_far ∙ ap (λ vs. begun ++ (key ++ vs)) (values-all xs (map seen kept) n (omega (arith, at_end, length-map kept seen)))

  pub range-done : AllCanBeShown (take n xs) (take n (map seen kept)) → AllCanBeShown xs (map seen kept)
  range-done all = can-all xs (map seen kept) n (omega (arith, at_end, length-map kept seen)) all
