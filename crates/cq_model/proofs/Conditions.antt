-- Where a condition is True, and what no condition keeps.
use Rattle.std.proofs.Common.{◌≡◌, Bool, true, false, List, [], ◌∷◌, filter, refl, ap, Option, None}
use Rattle.cq_values.specs.declared.truth.Truth.{Truth}
use Rattle.cq_values.specs.declared.truth.Truth.TheVariants.{True, False, Unknown}
use Rattle.cq_values.specs.declared.value.Value.{Value}
use Rattle.cq_values.specs.declared.value.Value.TheVariants.{Null, Number, Text, Day}
use Rattle.cq_values.specs.Truth.{is_true, truth_of, and_truth}
use Rattle.cq_values.specs.Value.{Row}
use Rattle.cq_model_bags.specs.Bag.{Weighted, filtered}
use Rattle.cq_model.specs.Expr.{Cond}
use Rattle.cq_model.specs.Condition.{holds, is_null}
use Rattle.cq_model.specs.Meaning.{keeps}
use Rattle.cq_model.specs.Own.{IsPart, whole, before_and, behind_and}

-- NULL is the one value that is NULL
pub null-value : (v : Value) → is_null v ≡ true → v ≡ Null
null-value Null h = refl
null-value (Number n) h = absurd (cc)
null-value (Day d) h = absurd (cc)
null-value (Text t) h = absurd (cc)

-- the truth of a test is the test
pub truth-told : (b : Bool) → is_true (truth_of b) ≡ b
truth-told true = refl
truth-told false = refl

-- AND is True where both parts are
pub both-true : (a b : Truth) → is_true (and_truth a b) ≡ true → (is_true a ≡ true) × (is_true b ≡ true)
both-true True b h = (refl, h)
both-true False b h = absurd (cc)
both-true Unknown True h = absurd (cc)
both-true Unknown False h = absurd (cc)
both-true Unknown Unknown h = absurd (cc)

-- where a condition is True, so is each part that is joined by AND
pub part-true : (c filter : Cond) → IsPart c filter → (r : Row) → is_true (holds filter r) ≡ true → is_true (holds c r) ≡ true
part-true c filter (whole d) r h = h
part-true c filter (before_and part a b is) r h = part-true part a is r (both-true (holds a r) (holds b r) h).0
part-true c filter (behind_and part a b is) r h = part-true part b is r (both-true (holds a r) (holds b r) h).1

-- without a condition all rows are kept
pub none-kept : (rows : List Row) → filter (keeps None) rows ≡ rows
none-kept [] = refl
none-kept (r ∷ rows) = ap (λ (rs : List Row). r ∷ rs) (none-kept rows)

-- with their weights
pub all-pass : (xs : Weighted) → filtered (keeps None) xs ≡ xs
all-pass [] = refl
all-pass (x ∷ xs) = ap (λ (ys : Weighted). x ∷ ys) (all-pass xs)
