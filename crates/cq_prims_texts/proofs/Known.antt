-- Comparisons by their tests, which are not known at NULL.
use Rattle.std.proofs.Common.{◌≡◌, Bool, true, false, refl, sym, ap, ◌∙◌}
use Rattle.cq_values.specs.declared.value.Value.{Value}
use Rattle.cq_values.specs.declared.value.Value.TheVariants.{Null, Number, Text, Day}
use Rattle.cq_values.specs.declared.comparison.Comparison.{Comparison}
use Rattle.cq_values.specs.Comparison.{compared, passes}
use Rattle.cq_values.specs.Order.{value_cmp}
use Rattle.cq_values.specs.Truth.{is_true}
use Rattle.cq_model.specs.Condition.{is_null}
use Rattle.cq_vectors_masks.specs.TruthMask.{known}
use Rattle.cq_vectors_masks.specs.Plane.{either}

-- a comparison is its test, which is not known at NULL
pub compared_known : (c : Comparison) (v w : Value) → compared c v w ≡ known (passes c (value_cmp v w)) (either (is_null v) (is_null w))
compared_known c Null w = refl
compared_known c (Number m) Null = refl
compared_known c (Day m) Null = refl
compared_known c (Text m) Null = refl
compared_known c (Number m) (Number n) = refl
compared_known c (Number m) (Day n) = refl
compared_known c (Number m) (Text n) = refl
compared_known c (Day m) (Number n) = refl
compared_known c (Day m) (Day n) = refl
compared_known c (Day m) (Text n) = refl
compared_known c (Text m) (Number n) = refl
compared_known c (Text m) (Day n) = refl
compared_known c (Text m) (Text n) = refl

known_again : (b n : Bool) → known (is_true (known b n)) n ≡ known b n
known_again true true = refl
known_again true false = refl
known_again false true = refl
known_again false false = refl

-- whether a comparison is True, together with the NULLs, is its truth
pub known_true : (c : Comparison) (v w : Value) → known (is_true (compared c v w)) (either (is_null v) (is_null w)) ≡ compared c v w
known_true c v w =
    let nulls = either (is_null v) (is_null w) in
    ap (λ t. known (is_true t) nulls) (compared_known c v w) ∙ known_again (passes c (value_cmp v w)) nulls ∙ sym (compared_known c v w)
