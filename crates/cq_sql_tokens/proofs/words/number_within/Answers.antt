use Rattle.std.proofs.Common.{◌≤◌, arith}
use Rattle.cq_sql_tokens.proofs.Numbers.{digit_is_small, power_small}
use Rattle.cq_sql_tokens.proofs.words.number_within.Goals as goal

pub overflow_mul-number : goal.overflow_mul-number
overflow_mul-number c = omega (arith, power_small c.loop-i.i (omega arith))

pub overflow_add-number : goal.overflow_add-number
overflow_add-number c =
    let small : c.in-Some.value ≤ 9 = digit_is_small _ c.in-Some.value c.in-Some.ensures.0 c.in-Some.ensures.1 in
    omega (arith, power_small c.loop-i.i (omega arith))
