use Rattle.std.proofs.Common.{◌≡◌, ◌∙◌, ap, false, get_or, length, map, sym, Bool, List, ℕ}
use Rattle.std.proofs.lemmas.List.{length-map}
use Rattle.cq_values.specs.Order.{number}
use Rattle.cq_model.specs.Condition.{is_null}
use Rattle.cq_hash_keys_values.proofs.WholeKeys.{stands_days}
use Rattle.cq_hash_keys_values.proofs.widened.copy_days.Goals as goal

pub returns-clause-whole : goal.returns-clause-whole
returns-clause-whole c =
    let days = c.args.days.now in
    let values = c.values.result.now in
    let clear : (k : ℕ) → get_or (map is_null days) k false ≡ false =
    λ k. sym (ap (λ (fs : List Bool). get_or fs k false) c.nulls.ensures) ∙ c.if-not-is_clear.ensures k in
    let long : length values ≡ length days = ap length c.values.ensures.values ∙ length-map days number in
    stands_days values (map is_null days) days c.put_days.new.to long (length-map days is_null ∙ sym long) clear c.put_days.ensures.put c.values.ensures.whole
