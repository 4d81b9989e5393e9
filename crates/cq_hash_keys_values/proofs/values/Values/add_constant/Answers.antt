use Rattle.std.proofs.Common.{◌≡◌, ℕ, List, replicate, sym, subst, arith, rules}
use Rattle.std.proofs.lemmas.Grind.{common_steps}
use Rattle.cq_values.specs.Lent.{owned}
use Rattle.cq_values.specs.declared.value.Value.TheVariants.{Null}
use Rattle.cq_hash_keys_values.specs.Met.{AreNumbersOf}
use Rattle.cq_hash_keys_values.specs.Values.{same_value}
use Rattle.cq_hash_keys_values.proofs.Meeting.{all-told, filled}
use Rattle.cq_hash_keys_values.proofs.ValueKeys.{value-itself, value-same}
use Rattle.cq_hash_keys_values.proofs.values.Values.add_constant.Goals as goal

pub returns-clause-values : goal.returns-clause-values
returns-clause-values c = search (rules, arith, filled same_value Null value-same value-itself)

pub returns-clause-numbers : goal.returns-clause-numbers
returns-clause-numbers c =
    let v = owned c.args.value.now in
    let n = c.in_ok-number.number in
    let len = c.args.len in
    let all : c.resize.new.self.items ≡ replicate len n = first_of (search rules, grind (arith, common_steps)) in
    subst (λ (ns : List ℕ). AreNumbersOf Null c.number.new.self (replicate len v) ns) (sym all)
    (all-told same_value Null value-same value-itself c.number.new.self v n len c.in_ok-number.ensures.number)
