-- The ends of values, with one value more.
use Rattle.std.proofs.Common.{◌≡◌, ◌⊎◌, ◌∙◌, ℕ, ◌+◌, ◌<◌, Bool, true, false, List, [], ◌∷◌, ◌++◌, Some, None, IfSome, length, get_or, take, inl, inr, refl, sym, ap, ap₂, subst, arith}
use Rattle.std.specs.Prelude.{◌||◌}
use Rattle.std.specs.List.{list_any}
use Rattle.std.proofs.lemmas.List.{get_or-take, get_or_default, length-take, take_more}
use Rattle.std.proofs.lemmas.List.Folds.{list_any-append}
use Rattle.cq_model.specs.Group.{higher, lower}
use Rattle.cq_model.proofs.Extremes.{higher-choice, lower-choice, up_to-itself}
use Rattle.cq_model_bags.proofs.Lists.{all-next, all-weaker}
use Rattle.cq_values.specs.Value.{is_null}
use Rattle.cq_values.specs.declared.value.Value.{Value}
use Rattle.cq_values.specs.declared.value.Value.TheVariants.{Null}
use Rattle.cq_encodings_numbers.specs.Bounds.{AreBounds, Ends, IsAmong, IsBounded}
use Rattle.cq_segments.specs.Bounds.{wider_ends}

or_false : (b : Bool) → (b || (false || false)) ≡ b
or_false false = refl
or_false true = refl

or_true : (b : Bool) → (b || (true || false)) ≡ true
or_true false = refl
or_true true = refl

-- wider ends bound what the others did
wider_bounds : (has_null : Bool) (ends : Ends) (v w : Value) → IsBounded has_null ends w → IsBounded has_null (wider_ends ends v) w
wider_bounds has_null None v w bound = inl bound
wider_bounds has_null (Some e) v w (inl bound) = inl bound
wider_bounds has_null (Some e) v w (inr bound) =
    inr (lower-choice.trans (lower e.0 v) e.0 w (lower-choice.left e.0 v) bound.0, higher-choice.trans (higher e.1 v) e.1 w (higher-choice.left e.1 v) bound.1)

-- and the value itself
wider_itself : (has_null : Bool) (ends : Ends) (v : Value) → IsBounded has_null (wider_ends ends v) v
wider_itself has_null None v = inr (up_to-itself v, up_to-itself v)
wider_itself has_null (Some e) v = inr (lower-choice.right e.0 v, higher-choice.right e.1 v)

-- where NULL is there too, all that was bounded still is
null_bounds : (has_null : Bool) (ends : Ends) (w : Value) → IsBounded has_null ends w → IsBounded true ends w
null_bounds has_null None w bound = (bound.0, refl)
null_bounds has_null (Some e) w (inl bound) = inl (bound.0, refl)
null_bounds has_null (Some e) w (inr bound) = inr bound

-- and so is NULL
pub null_itself : (ends : Ends) (w : Value) → is_null w ≡ true → IsBounded true ends w
null_itself None w null = (null, refl)
null_itself (Some e) w null = inl (null, refl)

one_known : (x v w : Value) → (x ≡ v) ⊎ (x ≡ w) → is_null v ≡ false → is_null w ≡ false → is_null x ≡ false
one_known x v w (inl e) a b = ap is_null e ∙ a
one_known x v w (inr e) a b = ap is_null e ∙ b

-- no end is NULL
wider_known : (ends : Ends) (v : Value) → is_null v ≡ false → IfSome ends (λ e. (is_null e.0 ≡ false) × (is_null e.1 ≡ false)) → IfSome (wider_ends ends v) (λ e. (is_null e.0 ≡ false) × (is_null e.1 ≡ false))
wider_known None v is known = (is, is)
wider_known (Some e) v is known = (one_known (lower e.0 v) e.0 v (lower-choice.one e.0 v) known.0 is, one_known (higher e.1 v) e.1 v (higher-choice.one e.1 v) known.1 is)

one_among : (values : List Value) (x v w : Value) → (x ≡ v) ⊎ (x ≡ w) → IsAmong values v → IsAmong values w → IsAmong values x
one_among values x v w (inl e) a b = subst (IsAmong values) (sym e) a
one_among values x v w (inr e) a b = subst (IsAmong values) (sym e) b

-- wider ends are of the values too
wider_among : (values : List Value) (ends : Ends) (v : Value) → IsAmong values v → IfSome ends (λ e. IsAmong values e.0 × IsAmong values e.1)
    → IfSome (wider_ends ends v) (λ e. IsAmong values e.0 × IsAmong values e.1)
wider_among values None v here among = (here, here)
wider_among values (Some e) v here among = (one_among values (lower e.0 v) e.0 v (lower-choice.one e.0 v) among.0 here, one_among values (higher e.1 v) e.1 v (higher-choice.one e.1 v) among.1 here)

-- what is among values is among more of them
pub ends_among : (values more : List Value) (ends : Ends) → ((w : Value) → IsAmong values w → IsAmong more w) → IfSome ends (λ e. IsAmong values e.0 × IsAmong values e.1) → IfSome ends (λ e. IsAmong more e.0 × IsAmong more e.1)
ends_among values more None each among = tt
ends_among values more (Some e) each among = (each e.0 among.0, each e.1 among.1)

module _ (values : List Value) (i : ℕ) (v : Value) (lt : i < length values) (here : v ≡ get_or values i v) (has_null : Bool) (ends : Ends) (so_far : AreBounds has_null ends (take i values)) where
  next_there : get_or values i Null ≡ v
  next_there = sym (here ∙ get_or_default values i v Null lt)

  next : take (i + 1) values ≡ take i values ++ v ∷ []
  next = take_more values i Null lt ∙ ap (λ w. take i values ++ w ∷ []) next_there

  among-more : (w : Value) → IsAmong (take i values) w → IsAmong (take (i + 1) values) w
  among-more w among =
      let low : among.0 < i = omega (arith, among.1, length-take i values) in (
        among.0,
        omega (arith, among.1, length-take i values, length-take (i + 1) values),
        get_or-take (i + 1) values among.0 Null (omega (arith, low)) ∙ sym (get_or-take i values among.0 Null low) ∙ among.2,
      )

  among-here : IsAmong (take (i + 1) values) v
  among-here = (i, omega (arith, lt, length-take (i + 1) values), get_or-take (i + 1) values i Null (omega arith) ∙ next_there)

  any-next : (b : Bool) → is_null v ≡ b → list_any is_null (take (i + 1) values) ≡ (has_null || (b || false))
  any-next b is = ap (list_any is_null) next ∙ list_any-append is_null (take i values) (v ∷ []) ∙ ap₂ (λ x y. x || (y || false)) (sym so_far.null) is

  -- the bounds with a value more
  pub with_value : is_null v ≡ false → AreBounds has_null (wider_ends ends v) (take (i + 1) values)
  with_value is = record {
    all = all-next (IsBounded has_null (wider_ends ends v)) values i v lt here (all-weaker (IsBounded has_null ends) (IsBounded has_null (wider_ends ends v)) (wider_bounds has_null ends v) (take i values) so_far.all) (wider_itself has_null ends v);
    known = wider_known ends v is so_far.known;
    among = wider_among (take (i + 1) values) ends v among-here (ends_among (take i values) (take (i + 1) values) ends among-more so_far.among);
    null = sym (any-next false is ∙ or_false has_null);
  }

  -- and with a NULL more
  pub with_null : is_null v ≡ true → AreBounds true ends (take (i + 1) values)
  with_null is = record {
    all = all-next (IsBounded true ends) values i v lt here (all-weaker (IsBounded has_null ends) (IsBounded true ends) (null_bounds has_null ends) (take i values) so_far.all) (null_itself ends v is);
    known = so_far.known;
    among = ends_among (take i values) (take (i + 1) values) ends among-more so_far.among;
    null = sym (any-next true is ∙ or_true has_null);
  }
