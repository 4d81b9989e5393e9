use Rattle.std.proofs.Common.{◌≡◌, ◌∙◌, ◌++◌, List, [], replicate, true, sym, ap, subst, arith, rules}
use Rattle.std.proofs.lemmas.Grind.{common_steps}
use Rattle.cq_model_bags.specs.Bag.{firsts}
use Rattle.cq_values.specs.Value.{Row}
use Rattle.cq_hash_keys.specs.Keys.{AreNumbers, AreWithin, StoredKeys, key_rows}
use Rattle.cq_hash_keys.specs.Table.{keys_in}
use Rattle.cq_hash_keys.proofs.EmptyKeys.{empty-added, empty-told, keys-none}
use Rattle.cq_hash_keys.proofs.key_table.KeyTable.add_empty.Goals as goal

pub returns-then-len-gt0-clause-keys : goal.returns-then-len-gt0-clause-keys
returns-then-len-gt0-clause-keys c =
    let table = c.self.inside in
    let none : table.width ≡ 0 = ap (λ (t : StoredKeys). t.width) c.self.view_is ∙ c.requires in
    keys-none table.width true table.first table.stages.items none
    ∙ empty-added table.is_met c.args.len c.if-len-gt0.true
    ∙ ap (λ (ks : List Row). firsts (ks ++ key_rows c.args.len [])) (sym (keys-none table.width table.is_met table.first table.stages.items none) ∙ ap (λ (t : StoredKeys). t.keys) c.self.view_is)

pub returns-then-len-gt0-clause-numbers : goal.returns-then-len-gt0-clause-numbers
returns-then-len-gt0-clause-numbers c =
    let table = c.self.inside in
    let none : table.width ≡ 0 = ap (λ (t : StoredKeys). t.width) c.self.view_is ∙ c.requires in
    let all : replicate c.args.len 0 ≡ c.lay_zeros.new.numbers.items = first_of (search rules, grind (arith, common_steps)) in
    subst (AreNumbers (keys_in table.width true table.first table.stages.items) c.args.len []) all
    (subst (λ (ks : List Row). AreNumbers ks c.args.len [] (replicate c.args.len 0)) (sym (keys-none table.width true table.first table.stages.items none)) (empty-told c.args.len).named)

pub returns-then-len-gt0-clause-within : goal.returns-then-len-gt0-clause-within
returns-then-len-gt0-clause-within c =
    let table = c.self.inside in
    let none : table.width ≡ 0 = ap (λ (t : StoredKeys). t.width) c.self.view_is ∙ c.requires in
    let all : replicate c.args.len 0 ≡ c.lay_zeros.new.numbers.items = first_of (search rules, grind (arith, common_steps)) in
    subst (AreWithin (keys_in table.width true table.first table.stages.items)) all
    (subst (λ (ks : List Row). AreWithin ks (replicate c.args.len 0)) (sym (keys-none table.width true table.first table.stages.items none)) (empty-told c.args.len).within)
