use Rattle.std.proofs.Common.{◌≡◌, ◌∙◌, List, [], Option, ℕ, replicate, sym, ap, arith, rules}
use Rattle.std.proofs.lemmas.Grind.{common_steps}
use Rattle.cq_values.specs.Value.{Row}
use Rattle.cq_hash_keys.specs.Keys.{StoredKeys, key_rows, places_of}
use Rattle.cq_hash_keys.proofs.EmptyKeys.{empty-found, keys-none}
use Rattle.cq_hash_keys.proofs.key_table.KeyTable.find_empty.Goals as goal

pub returns : goal.returns
returns c =
    let table = c.self.inside in
    let none : table.width ≡ 0 = ap (λ (t : StoredKeys). t.width) c.self.view_is ∙ c.requires in
    let all : c.resize.new.self.items ≡ replicate c.args.len c.empty_place-found.result = first_of (search rules, grind (arith, common_steps)) in
    all ∙ ap (λ (o : Option ℕ). replicate c.args.len o) c.empty_place-found.ensures
    ∙ empty-found table.is_met c.args.len
    ∙ ap (λ (ks : List Row). places_of ks (key_rows c.args.len [])) (sym (keys-none table.width table.is_met table.first table.stages.items none) ∙ ap (λ (t : StoredKeys). t.keys) c.self.view_is)
