use Rattle.std.proofs.Common.{arith, subst, sym, ◌<◌, ◌^◌, ℕ, get_or, pos, w32, eqb}
use Rattle.std.specs.Ordering.{int_eq}
use Rattle.cq_prims_lanes.proofs.Lanes.{lane_answers, same_bits, answers_small}
use Rattle.cq_prims.proofs.equal_days.EqualDaysLaneTest.some.Goals as goal

pub returns-clause-value : goal.returns-clause-value
returns-clause-value c =
    rw (c.lanes.ensures.value, c.lanes-2.ensures.value) (lane_answers w32 eqb int_eq (same_bits w32) 16 (omega arith) c.args.self.now.a c.args.self.now.b c.args.from c.requires.there c.args.self.now.same c.lanes.ensures.fit c.lanes-2.ensures.fit)

pub returns-clause-small : goal.returns-clause-small
returns-clause-small c = subst (λ (n : ℕ). n < 2 ^ 16) (sym (returns-clause-value c)) (answers_small (λ i. int_eq (get_or c.args.self.now.a i (pos 0)) (get_or c.args.self.now.b i (pos 0))) c.args.from 16)
