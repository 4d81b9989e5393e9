use Rattle.std.proofs.Common.{◌≡◌, ◌∙◌, ◌∷◌, ◌++◌, List, [], ap, sym, subst, length, Some, None, rules}
use Rattle.indexmap.specs.IndexSet.{insert_key}
use Rattle.cq_values.specs.Lent.{owned}
use Rattle.cq_values.specs.declared.value.Value.{Value}
use Rattle.cq_values.specs.declared.value.Value.TheVariants.{Null}
use Rattle.cq_hash_keys_values.specs.Dictionary.{number_in}
use Rattle.cq_hash_keys_values.specs.Kept.{kept_values}
use Rattle.cq_hash_keys_values.specs.Values.{Finds, place_in, same_value}
use Rattle.cq_hash_keys_values.proofs.Meeting.{finds-more, goes-behind}
use Rattle.cq_hash_keys_values.proofs.ValueKeys.{value-itself, value-same}
use Rattle.cq_hash_keys_values.proofs.values.Values.new_number.Goals as goal

pub invariant_of-self-in-Ok : goal.invariant_of-self-in-Ok
invariant_of-self-in-Ok c =
    let v = owned c.args.value.now in
    let met = kept_values c.self.inside.met in
    let absent : place_in met v ≡ None = ap (λ (vs : List Value). place_in vs v) c.self.view_is ∙ c.requires in
    let pushed : kept_values c.push.new.self ≡ met ++ v ∷ [] = search rules in
    let len : c.len-number.result ≡ length met = search rules in
    let puts = c.in-Ok.ensures.ok in
    subst (Finds c.put.new.self) (sym pushed)
    (finds-more same_value Null value-same value-itself (number_in c.self.inside.ways) (number_in c.put.new.self) met v
    c.self.invariant (c.self.invariant v ∙ absent) (puts.there ∙ ap Some len) puts.others)

pub returns-in-Ok-clause-met : goal.returns-in-Ok-clause-met
returns-in-Ok-clause-met c =
    let v = owned c.args.value.now in
    let met = kept_values c.self.inside.met in
    let absent : place_in met v ≡ None = ap (λ (vs : List Value). place_in vs v) c.self.view_is ∙ c.requires in
    let pushed : kept_values c.push.new.self ≡ met ++ v ∷ [] = search rules in
    pushed ∙ subst (λ (vs : List Value). met ++ v ∷ [] ≡ insert_key same_value vs v) c.self.view_is (goes-behind same_value Null value-same value-itself met v absent)
