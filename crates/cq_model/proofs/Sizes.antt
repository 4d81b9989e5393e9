-- What arithmetic gives is no larger than the sizes of its parts allow.
use Rattle.std.proofs.Common.{◌+◌, ◌*◌, ◌≤◌, arith}
use Rattle.std.proofs.lemmas.Int.{ints, unsigned_abs-mul}
use Rattle.cq_values.specs.declared.value.Value.{Value}
use Rattle.cq_values.specs.declared.value.Value.TheVariants.{Null, Number, Text, Day}
use Rattle.cq_model.specs.Eval.{plus, times, negated}
use Rattle.cq_model.specs.Width.{value_size}

pub size-negated : (v : Value) → value_size (negated v) ≤ value_size v
size-negated (Number n) = omega (arith, ints)
size-negated (Text t) = omega arith
size-negated (Day d) = omega arith
size-negated Null = omega arith

pub size-plus : (v w : Value) → value_size (plus v w) ≤ value_size v + value_size w
size-plus (Number m) (Number n) = omega (arith, ints)
size-plus (Number m) (Text t) = omega arith
size-plus (Number m) (Day d) = omega arith
size-plus (Number m) Null = omega arith
size-plus (Text t) w = omega arith
size-plus (Day d) w = omega arith
size-plus Null w = omega arith

pub size-times : (v w : Value) → value_size (times v w) ≤ value_size v * value_size w
size-times (Number m) (Number n) = omega (arith, unsigned_abs-mul m n)
size-times (Number m) (Text t) = omega arith
size-times (Number m) (Day d) = omega arith
size-times (Number m) Null = omega arith
size-times (Text t) w = omega arith
size-times (Day d) w = omega arith
size-times Null w = omega arith
