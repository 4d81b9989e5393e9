use Rattle.std.proofs.Common.{◌≡◌, ◌∙◌, ◌+◌, List, None, length, replicate, sym, ap, subst, arith, rules}
use Rattle.std.proofs.lemmas.Grind.{common_steps}
use Rattle.std.proofs.lemmas.Result.{on_ok_weaker}
use Rattle.cq_hash_keys.specs.declared.stage.Stage.{Stage}
use Rattle.cq_hash_keys.specs.Keys.{StoredKeys, places_of, values_of}
use Rattle.cq_hash_keys.specs.Stages.{FindsOn, rows_with, singles}
use Rattle.cq_hash_keys.proofs.Tables.{ready-found, unready-found}
use Rattle.cq_hash_keys.proofs.key_table.KeyTable.find_columns.Goals as goal

pub returns-then-len-others : goal.returns-then-len-others
returns-then-len-others c =
    let table = c.self.inside in
    let values = c.args.first.now in
    let others = values_of c.args.others.now in
    let wide : length c.args.others.now + 1 ≡ table.width = c.requires.width ∙ sym (ap (λ (t : StoredKeys). t.width) c.self.view_is) in
    let all : c.resize.new.self.items ≡ replicate (length values) None = first_of (search rules, grind (arith, common_steps)) in
    let unready : length table.stages.items ≡ length c.args.others.now → ⊥ = search rules in
    all
    ∙ unready-found table.width (length c.args.others.now) table.is_met table.first table.stages.items values others c.self.invariant wide unready c.requires.long
    ∙ ap (λ (t : StoredKeys). places_of t.keys (rows_with (singles values) others)) c.self.view_is

pub returns : goal.returns
returns c =
    let table = c.self.inside in
    let values = c.args.first.now in
    let others = values_of c.args.others.now in
    let wide : length c.args.others.now + 1 ≡ table.width = c.requires.width ∙ sym (ap (λ (t : StoredKeys). t.width) c.self.view_is) in
    let found = c.find.new.numbers.items in
    let last = c.find_on.new.numbers.items in
    on_ok_weaker c.find_on.result
    (λ finds.
    ready-found table.width (length c.args.others.now) table.is_met table.first table.stages.items values others c.self.invariant wide found last
    c.in_ok-find.ensures (subst (λ (ss : List Stage). FindsOn ss others found last) c.as_slice.ensures.value finds)
    ∙ ap (λ (t : StoredKeys). places_of t.keys (rows_with (singles values) others)) c.self.view_is)
    c.find_on.ensures
