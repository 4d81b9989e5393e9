use Rattle.std.proofs.Common.{◌≡◌, ◌∙◌, List, sym, subst, Some, rules}
use Rattle.indexmap.specs.IndexSet.{insert_key}
use Rattle.cq_values.specs.Lent.{owned}
use Rattle.cq_values.specs.declared.value.Value.{Value}
use Rattle.cq_values.specs.declared.value.Value.TheVariants.{Null}
use Rattle.cq_hash_keys_values.specs.Kept.{kept_values}
use Rattle.cq_hash_keys_values.specs.Dictionary.{number_in}
use Rattle.cq_hash_keys_values.specs.Met.{IsNumberIn}
use Rattle.cq_hash_keys_values.specs.Values.{same_value}
use Rattle.cq_hash_keys_values.proofs.Meeting.{there-stays, told}
use Rattle.cq_hash_keys_values.proofs.ValueKeys.{value-itself, value-same}
use Rattle.cq_hash_keys_values.proofs.values.Values.number.Goals as goal

pub returns-in-Some-clause-met : goal.returns-in-Some-clause-met
returns-in-Some-clause-met c =
    let v = owned c.args.value.now in
    let is : number_in c.self.inside.ways v ≡ Some c.in-Some.number = search rules in
    subst (λ (met : List Value). met ≡ insert_key same_value met v) c.self.view_is
    (there-stays same_value Null value-same value-itself (kept_values c.self.inside.met) v c.in-Some.number (sym (c.self.invariant v) ∙ is))

pub returns-in-Some-clause-number : goal.returns-in-Some-clause-number
returns-in-Some-clause-number c =
    let v = owned c.args.value.now in
    let is : number_in c.self.inside.ways v ≡ Some c.in-Some.number = search rules in
    subst (λ (met : List Value). IsNumberIn Null met v c.in-Some.number) c.self.view_is
    (told same_value Null value-same value-itself (kept_values c.self.inside.met) v c.in-Some.number (sym (c.self.invariant v) ∙ is))
