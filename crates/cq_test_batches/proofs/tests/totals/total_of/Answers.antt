use Rattle.std.proofs.Common.{◌≡◌, ◌+◌, length, get_or, ap, ◌∙◌, arith}
use Rattle.std.proofs.lemmas.List.FromFn.{get_or-range_with_len, length-range_with_len}
use Rattle.cq_test_batches.proofs.tests.totals.total_of.Goals as goal

pub sum_into-requires-clause-there : goal.sum_into-requires-clause-there
sum_into-requires-clause-there c k within =
    let long : length c.set_all.new.self ≡ c.len.result = ap length c.set_all.ensures ∙ length-range_with_len 0 c.len.result in
    let place : get_or c.set_all.new.self k 0 ≡ 0 + k = ap (λ l. get_or l k 0) c.set_all.ensures ∙ get_or-range_with_len 0 c.len.result k 0 (omega (arith, within, long)) in
    omega (arith, within, long, place, c.len.ensures.len)
