use Rattle.std.proofs.Common.{arith, ap₂, subst, sym, ◌<◌, ◌^◌, ℕ, get_or, pos, w64, to_z-of_z, to_z}
use Rattle.std.specs.Prelude.{int_lt}
use Rattle.cq_prims_lanes.proofs.Lanes.{lane_answers, answers_small}
use Rattle.cq_prims.proofs.less_numbers.LessNumbersLaneTest.some.Goals as goal

pub returns-clause-value : goal.returns-clause-value
returns-clause-value c =
    rw (c.four.ensures.value, c.four-2.ensures.value) (lane_answers w64 (λ a b. int_lt (to_z w64 a) (to_z w64 b)) int_lt (λ x y f g. ap₂ int_lt (to_z-of_z f) (to_z-of_z g)) 4 (omega arith) c.args.self.now.a c.args.self.now.b c.args.from c.requires.there c.args.self.now.same c.four.ensures.fit c.four-2.ensures.fit)

pub returns-clause-small : goal.returns-clause-small
returns-clause-small c = subst (λ (n : ℕ). n < 2 ^ 4) (sym (returns-clause-value c)) (answers_small (λ i. int_lt (get_or c.args.self.now.a i (pos 0)) (get_or c.args.self.now.b i (pos 0))) c.args.from 4)
