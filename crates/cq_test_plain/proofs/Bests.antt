-- A value that no other is better than is the extreme.
use Rattle.std.proofs.Common.{◌≡◌, ℕ, zero, suc, ◌+◌, ◌<◌, List, [], ◌∷◌, ◌++◌, take, length, get_or, refl, sym, ◌∙◌, ap, subst, inl, inr, arith, Some}
use Rattle.std.specs.Prelude.{slice_get}
use Rattle.std.specs.List.{AllByRecursion}
use Rattle.std.proofs.lemmas.List.{take_more}
use Rattle.cq_values.specs.declared.value.Value.{Value}
use Rattle.cq_model.specs.Group.{extreme}
use Rattle.cq_model_bags.proofs.Lists.{all-push, all-weaker}
use Rattle.cq_model.proofs.Extremes.{IsChoice, IsDownTo, IsOne, IsUpTo, extreme-best, extreme-one, higher-choice, lower-choice}
use Rattle.cq_test_plain.specs.Ends.{better}
use Rattle.cq_test_plain.specs.declared.aggregates.End.{End}
use Rattle.cq_test_plain.specs.declared.aggregates.End.TheVariants.{Greatest, Least}

-- the first value is as near to the end as the second
abbrev pub IsAsNear : End → Value → Value → Type 0
IsAsNear Least = IsUpTo
IsAsNear Greatest = IsDownTo

-- the nearer of two values is a choice
pub nearer-choice : (end : End) → IsChoice (better end) (IsAsNear end)
nearer-choice Least = lower-choice
nearer-choice Greatest = higher-choice

-- one of the values, and as good as each of these
pub record IsBest (R : Value → Value → Type 0) (v : Value) (values these : List Value) : Type 0 where
  pub one : IsOne v values
  pub best : AllByRecursion (R v) these

-- what holds of each holds of one
at_one : (P : Value → Type 0) (values : List Value) → AllByRecursion P values → (v : Value) → IsOne v values → P v
at_one P [] all v one = absurd one
at_one P (w ∷ values) all v (inl e) = subst P (sym e) all.0
at_one P (w ∷ values) all v (inr rest) = at_one P values all.1 v rest

-- an element is one of the list
pub one_at : (values : List Value) (i : ℕ) (d : Value) → i < length values → IsOne (get_or values i d) values
one_at [] i d h = absurd (omega arith)
one_at (v ∷ values) zero d h = inl refl
one_at (v ∷ values) (suc i) d h = inr (one_at values i d (omega arith))

module _ {best : Value → Value → Value} {R : Value → Value → Type 0} (c : IsChoice best R) where
  -- before the first step it is the first value
  pub best-first : (values : List Value) (v : Value) → Some v ≡ slice_get values 0 → IsBest R v values []
  best-first [] v is = absurd (cc)
  best-first (w ∷ values) v is = record { one = inl cc; best = tt }

  -- the better of it and the next value
  pub best-next : (values : List Value) (i : ℕ) (v next : Value) → i < length values → next ≡ get_or values i next → IsBest R v values (take i values) → IsBest R (best v next) values (take (i + 1) values)
  best-next values i v next h is b = record {
    one = elim (c.one v next) [
      | inl e ↦ subst (λ w. IsOne w values) (sym e) b.one
      | inr e ↦ subst (λ w. IsOne w values) (sym e) (subst (λ w. IsOne w values) (sym is) (one_at values i next h))
    ];
    best = subst (AllByRecursion (R (best v next))) (sym (take_more values i next h ∙ ap (λ w. take i values ++ w ∷ []) (sym is)))
        (all-push (R (best v next)) (take i values) next
        (all-weaker (R v) (R (best v next)) (λ w r. c.trans (best v next) v w (c.left v next) r) (take i values) b.best) (c.right v next));
  }

  -- at the end it is the extreme
  pub best-is_extreme : (values : List Value) (v : Value) → IsBest R v values values → v ≡ extreme best values
  best-is_extreme [] v b = absurd b.one
  best-is_extreme (w ∷ values) v b =
      c.same v (extreme best (w ∷ values)) (at_one (R v) (w ∷ values) b.best (extreme best (w ∷ values)) (extreme-one c w values)) (extreme-best c w values v b.one)
