use Rattle.std.proofs.Common.{ℕ, ◌<◌, List, [], length, refl, sym, subst}
use Rattle.std.specs.List.{AllByRecursion, zip}
use Rattle.cq_hash_keys.specs.Grid.{same_pair}
use Rattle.cq_hash_keys_values.specs.Met.{TakesFront}
use Rattle.cq_hash_keys.proofs.stage.Stage.add.Goals as goal

pub returns-in_err-add-clause-part : goal.returns-in_err-add-clause-part
returns-in_err-add-clause-part c = record { seconds = []; values_more = c.add.ensures.front; within = tt; pairs_more = (0, refl) }

pub returns-in_err-fit-clause-part : goal.returns-in_err-fit-clause-part
returns-in_err-fit-clause-part c = record { seconds = []; values_more = c.add.ensures.front; within = tt; pairs_more = (0, c.fit.ensures) }

pub returns-clause-part : goal.returns-clause-part
returns-clause-part c =
    let firsts = c.args.firsts.now in
    record {
      seconds = c.as_slice.result.now;
      values_more = c.add.ensures.front;
      within = subst (AllByRecursion (λ number. number < length c.add.new.self)) (sym c.as_slice.ensures.value) c.in_ok-add.ensures.numbers.within;
      pairs_more = subst (λ (ps : List (ℕ × ℕ)). TakesFront same_pair ps (zip firsts c.as_slice.result.now) c.add-2.new.self) c.fit.ensures c.add-2.ensures.front;
    }
