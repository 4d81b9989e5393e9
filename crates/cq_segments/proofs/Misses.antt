-- What the ends of a column say of comparisons with a constant.
use Rattle.std.proofs.Common.{◌≡◌, ◌∙◌, ◌&&◌, ℕ, Bool, true, false, not, List, [], ◌∷◌, Some, None, refl, sym, ap, subst, inl, inr}
use Rattle.std.specs.List.{AllByRecursion, list_any}
use Rattle.std.specs.Bool.{OnFalse}
use Rattle.std.specs.Ordering.{is_eq, is_ge, is_gt, is_le, is_lt, ordering_reverse}
use Rattle.std.specs.declared.cmp.Ordering.{Ordering}
use Rattle.std.specs.declared.cmp.Ordering.TheVariants.{Less, Equal, Greater}
use Rattle.std.proofs.lemmas.Bool.{OnFalse_at, not-false, or_parts}
use Rattle.std.proofs.lemmas.Cmp.{upto}
use Rattle.cq_values.specs.Comparison.{compared, passes}
use Rattle.cq_values.specs.Keys.{value_cmp_total}
use Rattle.cq_values.specs.Order.{value_cmp}
use Rattle.cq_values.specs.Truth.{is_true, truth_of}
use Rattle.cq_values.specs.Lent.{owned}
use Rattle.cq_values.specs.Value.{Row, column, is_null}
use Rattle.cq_values.specs.declared.lent.Lent.{Lent}
use Rattle.cq_values.specs.declared.comparison.Comparison.{Comparison}
use Rattle.cq_values.specs.declared.comparison.Comparison.TheVariants as test
use Rattle.cq_values.specs.declared.value.Value.{Value}
use Rattle.cq_values.specs.declared.value.Value.TheVariants.{Null, Number, Text, Day}
use Rattle.cq_model.proofs.Conditions.{truth-told}
use Rattle.cq_model.proofs.Extremes.{IsUpTo}
use Rattle.cq_model_bags.proofs.Totals.{by_test}
use Rattle.cq_vectors.specs.Gathered.{column_of}
use Rattle.cq_encodings_numbers.specs.Bounds.{AreBounds, AreBoundsOf, Ends, IsBounded}
use Rattle.cq_encodings_numbers.specs.declared.bounds.Bounds.{Bounds}
use Rattle.cq_segments.specs.ColumnTest.{NoneBetween, NoneMatches, NonePasses, RulesOut, asked_column}
use Rattle.cq_segments.specs.declared.column_test.ColumnTest.{ColumnTest}
use Rattle.cq_segments.specs.declared.column_test.ColumnTest.TheVariants as asked

-- a comparison that the order of the values fails is not True
pub fails : (c : Comparison) (v w : Value) → passes c (value_cmp v w) ≡ false → is_true (compared c v w) ≡ false
fails c Null w e = refl
fails c (Number m) Null e = refl
fails c (Text m) Null e = refl
fails c (Day m) Null e = refl
fails c (Number m) (Number n) e = truth-told _ ∙ e
fails c (Number m) (Text n) e = truth-told _ ∙ e
fails c (Number m) (Day n) e = truth-told _ ∙ e
fails c (Text m) (Number n) e = truth-told _ ∙ e
fails c (Text m) (Text n) e = truth-told _ ∙ e
fails c (Text m) (Day n) e = truth-told _ ∙ e
fails c (Day m) (Number n) e = truth-told _ ∙ e
fails c (Day m) (Text n) e = truth-told _ ∙ e
fails c (Day m) (Day n) e = truth-told _ ∙ e

-- a value is after another
abbrev after : Value → Value → Bool
after v w = is_gt (value_cmp v w)

turned : (o : Ordering) → is_gt (ordering_reverse o) ≡ is_lt o
turned Less = refl
turned Equal = refl
turned Greater = refl

-- a value is before another exactly where that is after it
before : (v w : Value) → is_lt (value_cmp v w) ≡ after w v
before v w = sym (ap is_gt (value_cmp_total.antisymm w v) ∙ turned (value_cmp v w))

not_up_to : (o : Ordering) → is_gt o ≡ true → (is_le o ≡ false) × (is_eq o ≡ false)
not_up_to Less e = absurd (cc)
not_up_to Equal e = absurd (cc)
not_up_to Greater e = (refl, refl)

not_from : (o : Ordering) → is_lt o ≡ true → (is_ge o ≡ false) × (is_eq o ≡ false)
not_from Less e = (refl, refl)
not_from Equal e = absurd (cc)
not_from Greater e = absurd (cc)

-- whether a value between the ends may pass the comparison with a constant
abbrev pub may_pass : Comparison → Value → Value → Value → Bool
may_pass test.Equal k least greatest = not (after least k) && not (after k greatest)
may_pass test.NotEqual k least greatest = true
may_pass test.Less k least greatest = after k least
may_pass test.LessOrEqual k least greatest = not (after least k)
may_pass test.Greater k least greatest = after greatest k
may_pass test.GreaterOrEqual k least greatest = not (after k greatest)

module _ (k least greatest v : Value) (low : IsUpTo least v) (high : IsUpTo v greatest) where
  -- a constant up to the least value is up to each
  none_before : after k least ≡ false → is_lt (value_cmp v k) ≡ false
  none_before e = before v k ∙ upto value_cmp_total k least v e low

  -- and one from the greatest on is not passed
  none_after : after greatest k ≡ false → after v k ≡ false
  none_after e = upto value_cmp_total v greatest k high e

  -- where the least value is after it, each is
  all_after : after least k ≡ true → after v k ≡ true
  all_after e = by_test (after v k) (λ h. h) (λ h. absurd (cc (sym e ∙ upto value_cmp_total least v k low h)))

  -- where it is after the greatest, each is before it
  all_before : after k greatest ≡ true → is_lt (value_cmp v k) ≡ true
  all_before e = before v k ∙ by_test (after k v) (λ h. h) (λ h. absurd (cc (sym e ∙ upto value_cmp_total k v greatest h high)))

  -- so no value between the ends passes what the ends rule out
  missed : (c : Comparison) → may_pass c k least greatest ≡ false → passes c (value_cmp v k) ≡ false
  missed test.Equal e = by_test (after least k)
      (λ h. (not_up_to (value_cmp v k) (all_after h)).1)
      (λ h. (not_from (value_cmp v k) (all_before (not-false _ (sym (ap (λ (b : Bool). not b && not (after k greatest)) h) ∙ e)))).1)
  missed test.NotEqual e = absurd (cc e)
  missed test.Less e = none_before e
  missed test.LessOrEqual e = (not_up_to (value_cmp v k) (all_after (not-false _ e))).0
  missed test.Greater e = none_after e
  missed test.GreaterOrEqual e = (not_from (value_cmp v k) (all_before (not-false _ e))).0

null_fails : (c : Comparison) (v w : Value) → is_null v ≡ true → is_true (compared c v w) ≡ false
null_fails c Null w e = refl
null_fails c (Number m) w e = absurd (cc e)
null_fails c (Text m) w e = absurd (cc e)
null_fails c (Day m) w e = absurd (cc e)

-- where there is no value but NULL, none passes
pub none_at_all : (c : Comparison) (k : Value) → NonePasses c k None
none_at_all c k v bound = null_fails c v k bound.0

-- what tells by the ends whether a value may pass rules out no value that does
pub ruled_out : (least greatest : Value) (c : Comparison) (k : Value) (may : Bool) → may ≡ may_pass c k least greatest → OnFalse may (NoneBetween least greatest c k)
ruled_out least greatest c k may is = by_test may (λ h. rw h tt) (λ h. rw h (none (sym is ∙ h)))
  where
    none : may_pass c k least greatest ≡ false → NoneBetween least greatest c k
    none cannot v (inl null) = null_fails c v k null.0
    none cannot v (inr between) = fails c v k (missed k least greatest v between.0 between.1 c cannot)

-- ---- rows of a column with bounds

on_false : (P : Type 0) (b : Bool) → (b ≡ false → P) → OnFalse b P
on_false P true at = tt
on_false P false at = at refl

known_fails : (c : Bool) → c ≡ true → is_true (truth_of (not c)) ≡ false
known_fails true e = refl
known_fails false e = absurd (cc e)

null_told : (b : Bool) → b ≡ false → is_true (truth_of b) ≡ false
null_told false e = refl
null_told true e = absurd (cc e)

-- bounds in which NULL may stand bound no less
loose : (has_null : Bool) (ends : Ends) (v : Value) → IsBounded has_null ends v → IsBounded true ends v
loose has_null None v bound = (bound.0, refl)
loose has_null (Some e) v (inl bound) = inl (bound.0, refl)
loose has_null (Some e) v (inr bound) = inr bound

module _ (at : ℕ) (has_null : Bool) (ends : Ends) where
  none_in : (c : Comparison) (k : Lent) → NonePasses c (owned k) ends → (rows : List Row) → AllByRecursion (IsBounded has_null ends) (column_of rows at) → NoneMatches (asked.Compare at c k) rows
  none_in c k passes [] all = tt
  none_in c k passes (row ∷ rows) all = (passes (column row at) (loose has_null ends (column row at) all.0), none_in c k passes rows all.1)

  null_in : (rows : List Row) → list_any is_null (column_of rows at) ≡ false → NoneMatches (asked.IsNull at) rows
  null_in [] e = tt
  null_in (row ∷ rows) e = let parts = or_parts (is_null (column row at)) (list_any is_null (column_of rows at)) e in (null_told (is_null (column row at)) parts.0, null_in rows parts.1)

  only_null : (rows : List Row) → AllByRecursion (IsBounded has_null None) (column_of rows at) → NoneMatches (asked.IsNotNull at) rows
  only_null [] all = tt
  only_null (row ∷ rows) all = (known_fails (is_null (column row at)) all.0.0, only_null rows all.1)

  abbrev Bounded : List Row → Type 0
  Bounded rows = AreBounds has_null ends (column_of rows at)

  -- where no value within the bounds passes a comparison, no row does
  pub none_compared : (c : Comparison) (k : Lent) (may : Bool) → OnFalse may (NonePasses c (owned k) ends) → OnFalse may ((rows : List Row) → Bounded rows → NoneMatches (asked.Compare at c k) rows)
  none_compared c k may passes = on_false ((rows : List Row) → Bounded rows → NoneMatches (asked.Compare at c k) rows) may (λ h rows bounds. none_in c k (OnFalse_at h passes) rows bounds.all)

  -- where NULL is not there, no row has it
  pub none_null : OnFalse has_null ((rows : List Row) → Bounded rows → NoneMatches (asked.IsNull at) rows)
  none_null = on_false ((rows : List Row) → Bounded rows → NoneMatches (asked.IsNull at) rows) has_null (λ h rows bounds. null_in rows (sym bounds.null ∙ h))

  -- where there is no least value, no row has one
  pub none_known : ends ≡ None → (rows : List Row) → Bounded rows → NoneMatches (asked.IsNotNull at) rows
  none_known is rows bounds = only_null rows (subst (λ e. AllByRecursion (IsBounded has_null e) (column_of rows at)) is bounds.all)

-- what the bounds of a column rule out is True in none of the rows that have them
pub none_ruled_out : (bounds : Bounds) (test : ColumnTest) (rows : List Row) (at : ℕ) → at ≡ asked_column test → AreBoundsOf bounds (column_of rows at) → (may : Bool) → OnFalse may (RulesOut bounds test) → OnFalse may (NoneMatches test rows)
none_ruled_out bounds test rows at is have may rules =
    on_false (NoneMatches test rows) may (λ h. (OnFalse_at h rules) rows (subst (λ (column : ℕ). AreBoundsOf bounds (column_of rows column)) is have))
