-- The extreme of several values depends only on which values there are.
use Rattle.std.proofs.Common.{◌≡◌, true, false, List, [], ◌∷◌, refl, sym, ap, ◌⊎◌, inl, inr, subst}
use Rattle.std.specs.Ordering.{is_gt}
use Rattle.std.proofs.lemmas.Cmp.{tied_itself, upto}
use Rattle.cq_values.specs.declared.value.Value.{Value}
use Rattle.cq_values.specs.Order.{value_cmp}
use Rattle.cq_values.specs.Keys.{value_cmp_total, value_cmp_same}
use Rattle.cq_model.specs.Group.{lower, higher, extreme}
use Rattle.cq_model_bags.proofs.Totals.{by_test}
use Rattle.cq_model_bags.proofs.Listings.{after_other, not_after}

-- a value is one of these
abbrev pub IsOne : Value → List Value → Type 0
IsOne v [] = ⊥
IsOne v (w ∷ ws) = (v ≡ w) ⊎ IsOne v ws

-- v isn't after w
abbrev pub IsUpTo : Value → Value → Type 0
IsUpTo v w = is_gt (value_cmp v w) ≡ false

-- no value is after itself
pub up_to-itself : (v : Value) → IsUpTo v v
up_to-itself v = ap is_gt (tied_itself value_cmp_total v)

-- of two values one is not after the other
pub up_to-other : (v w : Value) → is_gt (value_cmp v w) ≡ true → IsUpTo w v
up_to-other v w e = after_other value_cmp_total v w e

-- values that are not after each other are one
pub up_to-same : (v w : Value) → IsUpTo v w → IsUpTo w v → v ≡ w
up_to-same v w p q = value_cmp_same v w (not_after value_cmp_total v w p q)

-- a choice of the better of two values, in an order
pub record IsChoice (best : Value → Value → Value) (R : Value → Value → Type 0) : Type 0 where
  pub one : (v w : Value) → (best v w ≡ v) ⊎ (best v w ≡ w)
  pub left : (v w : Value) → R (best v w) v
  pub right : (v w : Value) → R (best v w) w
  pub itself : (v : Value) → R v v
  pub trans : (u v w : Value) → R u v → R v w → R u w
  pub same : (v w : Value) → R v w → R w v → v ≡ w

-- v isn't before w
abbrev pub IsDownTo : Value → Value → Type 0
IsDownTo v w = IsUpTo w v

pub lower-choice : IsChoice lower IsUpTo
lower-choice = record {
  one = λ v w. by_test (is_gt (value_cmp v w)) (λ k. rw k (inr refl)) (λ k. rw k (inl refl));
  left = λ v w. by_test (is_gt (value_cmp v w)) (λ k. rw k (up_to-other v w k)) (λ k. rw k (up_to-itself v));
  right = λ v w. by_test (is_gt (value_cmp v w)) (λ k. rw k (up_to-itself w)) (λ k. rw k k);
  itself = up_to-itself;
  trans = upto value_cmp_total;
  same = up_to-same;
}

pub higher-choice : IsChoice higher IsDownTo
higher-choice = record {
  one = λ v w. by_test (is_gt (value_cmp v w)) (λ k. rw k (inl refl)) (λ k. rw k (inr refl));
  left = λ v w. by_test (is_gt (value_cmp v w)) (λ k. rw k (up_to-itself v)) (λ k. rw k k);
  right = λ v w. by_test (is_gt (value_cmp v w)) (λ k. rw k (up_to-other v w k)) (λ k. rw k (up_to-itself w));
  itself = up_to-itself;
  trans = λ u v w p q. upto value_cmp_total w v u q p;
  same = λ v w p q. sym (up_to-same w v p q);
}

module _ {best : Value → Value → Value} {R : Value → Value → Type 0} (c : IsChoice best R) where
  -- the extreme is one of the values
  pub extreme-one : (v : Value) (vs : List Value) → IsOne (extreme best (v ∷ vs)) (v ∷ vs)
  extreme-one v [] = inl refl
  extreme-one v (w ∷ vs) = elim (c.one v (extreme best (w ∷ vs))) [ inl e ↦ inl e | inr e ↦ inr (subst (λ x. IsOne x (w ∷ vs)) (sym e) (extreme-one w vs)) ]

  -- and no value is better
  pub extreme-best : (v : Value) (vs : List Value) (u : Value) → IsOne u (v ∷ vs) → R (extreme best (v ∷ vs)) u
  extreme-best v [] u (inl e) = rw e (c.itself v)
  extreme-best v [] u (inr h) = absurd h
  extreme-best v (w ∷ vs) u (inl e) = rw e (c.left v (extreme best (w ∷ vs)))
  extreme-best v (w ∷ vs) u (inr h) = c.trans (best v (extreme best (w ∷ vs))) (extreme best (w ∷ vs)) u (c.right v (extreme best (w ∷ vs))) (extreme-best w vs u h)

  -- values that occur in both have one extreme
  pub extreme-same : (vs ws : List Value) → ((u : Value) → IsOne u vs → IsOne u ws) → ((u : Value) → IsOne u ws → IsOne u vs) → extreme best vs ≡ extreme best ws
  extreme-same [] [] f g = refl
  extreme-same [] (w ∷ ws) f g = absurd (g w (inl refl))
  extreme-same (v ∷ vs) [] f g = absurd (f v (inl refl))
  extreme-same (v ∷ vs) (w ∷ ws) f g =
      c.same (extreme best (v ∷ vs)) (extreme best (w ∷ ws))
      (extreme-best v vs (extreme best (w ∷ ws)) (g (extreme best (w ∷ ws)) (extreme-one w ws)))
      (extreme-best w ws (extreme best (v ∷ vs)) (f (extreme best (v ∷ vs)) (extreme-one v vs)))
