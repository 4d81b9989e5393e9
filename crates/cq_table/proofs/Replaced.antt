-- Rows that are replaced by their images: the bag that is left.
use Rattle.std.proofs.Common.{◌≡◌, ◌+ℤ◌, pos, Bool, not, List, [], ◌∷◌, ◌++◌, length, map, subst, sym, ap, ◌∙◌, arith}
use Rattle.std.specs.Prelude.{filter, if◌then◌else◌}
use Rattle.std.specs.List.{AllByRecursion}
use Rattle.std.proofs.lemmas.Int.{ints}
use Rattle.std.proofs.lemmas.List.{length-map, map-append}
use Rattle.cq_values.specs.Value.{Row}
use Rattle.cq_model_bags.specs.Bag.{Weighted, SameBag, weight_of, once_each}
use Rattle.cq_model_bags.specs.Canonical.{bag_of}
use Rattle.cq_model_bags.proofs.Bags.{projected-respects}
use Rattle.cq_model_bags.proofs.Canonicals.{bag_of-weights, length-bag_of, same-bag_of}
use Rattle.cq_model_bags.proofs.Distincts.{once_each-map}
use Rattle.cq_model_bags.proofs.Lists.{all-map}
use Rattle.cq_model_bags.proofs.Totals.{by_test, weight_of-append}
use Rattle.cq_table.proofs.RowLists.{gone_all}

-- two stretches have their weights together
pub weight_both : (xs ys : List Row) (r : Row) → weight_of (once_each (xs ++ ys)) r ≡ weight_of (once_each xs) r +ℤ weight_of (once_each ys) r
weight_both xs ys r = ap (λ (zs : Weighted). weight_of zs r) (map-append (λ (x : Row). (x, pos 1)) xs ys) ∙ weight_of-append (once_each xs) (once_each ys) r

module _ (keep : Row → Bool) (rows gone : List Row) (chosen : bag_of gone ≡ bag_of (filter keep rows)) where
  abbrev left : List Row
  left = filter (λ x. not (keep x)) rows

  -- as many go as are kept
  length-chosen : length gone ≡ length (filter keep rows)
  length-chosen = sym (length-bag_of gone) ∙ ap length chosen ∙ length-bag_of (filter keep rows)

  gone_same : SameBag (once_each gone) (once_each (filter keep rows))
  gone_same = record {
    at = λ r. sym ((same-bag_of gone).at r) ∙ ap (λ (rs : List Row). weight_of (once_each rs) r) chosen ∙ (same-bag_of (filter keep rows)).at r;
  }

  module _ (image : Row → Row) where
    images_same : (r : Row) → weight_of (once_each (map image gone)) r ≡ weight_of (once_each (map image (filter keep rows))) r
    images_same r =
        ap (λ (xs : Weighted). weight_of xs r) (once_each-map image gone)
        ∙ (projected-respects image (once_each gone) (once_each (filter keep rows)) gone_same).at r
        ∙ sym (ap (λ (xs : Weighted). weight_of xs r) (once_each-map image (filter keep rows)))

    weight_replaced : (rs : List Row) (r : Row)
        → weight_of (once_each (map (λ x. if keep x then image x else x) rs)) r ≡ weight_of (once_each (filter (λ x. not (keep x)) rs)) r +ℤ weight_of (once_each (map image (filter keep rs))) r
    weight_replaced [] r = omega (arith, ints)
    weight_replaced (x ∷ rs) r = by_test (keep x)
        (λ k. rw k (omega (arith, ints, weight_replaced rs r)))
        (λ k. rw k (omega (arith, ints, weight_replaced rs r)))

    -- the rows that are left with the images are the rows with images in their places
    pub same_replaced : bag_of (left ++ map image gone) ≡ bag_of (map (λ x. if keep x then image x else x) rows)
    same_replaced = bag_of-weights (left ++ map image gone) (map (λ x. if keep x then image x else x) rows) (record {
      at = λ r. omega (arith, ints, weight_both left (map image gone) r, images_same r, weight_replaced rows r);
    })

    -- what the images of those that are kept have, the images of those that go have
    images_all : (P : Row → Type 0) → AllByRecursion (λ row. P (image row)) (filter keep rows) → AllByRecursion P (map image gone)
    images_all P all = all-map (λ (row : Row). P (image row)) P image (λ row p. p) gone (gone_all keep rows gone chosen (λ row. P (image row)) all)

    -- so it is with the images as they were worked out
    module _ (images : List Row) (are : images ≡ map image gone) where
      pub length-images : length images ≡ length (filter keep rows)
      length-images = ap length are ∙ length-map gone image ∙ length-chosen

      pub images_have : (P : Row → Type 0) → AllByRecursion (λ row. P (image row)) (filter keep rows) → AllByRecursion P images
      images_have P all = subst (AllByRecursion P) (sym are) (images_all P all)

      pub images_replace : bag_of (left ++ images) ≡ bag_of (map (λ x. if keep x then image x else x) rows)
      images_replace = ap (λ (rs : List Row). bag_of (left ++ rs)) are ∙ same_replaced
