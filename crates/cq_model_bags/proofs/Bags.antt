-- When two lists name one bag, and what keeps it.
use Rattle.std.proofs.Common.{◌≡◌, ◌++◌, refl, sym, ◌∙◌, ap}
use Rattle.cq_values.specs.Value.{Row}
use Rattle.std.specs.Prelude.{Bool}
use Rattle.cq_model_bags.specs.Bag.{Weighted, weight_of, SameBag, filtered, projected}
use Rattle.cq_model_bags.proofs.Totals.{weight_of-append, weight_of-filtered, weight_of-total, total-projected, total-respects, is_row}

pub same-refl : (xs : Weighted) → SameBag xs xs
same-refl xs = record { at = λ r. refl }

-- one list names one bag
pub same-equal : (xs ys : Weighted) → xs ≡ ys → SameBag xs ys
same-equal xs ys e = record { at = λ r. ap (λ (zs : Weighted). weight_of zs r) e }

pub same-sym : (xs ys : Weighted) → SameBag xs ys → SameBag ys xs
same-sym xs ys s = record { at = λ r. sym (s.at r) }

pub same-trans : (xs ys zs : Weighted) → SameBag xs ys → SameBag ys zs → SameBag xs zs
same-trans xs ys zs s t = record { at = λ r. s.at r ∙ t.at r }

pub same-append : (xs xs' ys ys' : Weighted) → SameBag xs xs' → SameBag ys ys' → SameBag (xs ++ ys) (xs' ++ ys')
same-append xs xs' ys ys' s t = record { at = λ r. rw (weight_of-append xs ys r, weight_of-append xs' ys' r, s.at r, t.at r) refl }

pub filtered-respects : (keep : Row → Bool) (xs ys : Weighted) → SameBag xs ys → SameBag (filtered keep xs) (filtered keep ys)
filtered-respects keep xs ys s = record { at = λ r. rw (weight_of-filtered keep xs r, weight_of-filtered keep ys r, s.at r) refl }

pub projected-respects : (f : Row → Row) (xs ys : Weighted) → SameBag xs ys → SameBag (projected f xs) (projected f ys)
projected-respects f xs ys s = record {
  at = λ r.
      weight_of-total (projected f xs) r ∙ total-projected (is_row r) f xs
      ∙ total-respects (λ q. is_row r (f q)) xs ys s
      ∙ sym (weight_of-total (projected f ys) r ∙ total-projected (is_row r) f ys);
}
