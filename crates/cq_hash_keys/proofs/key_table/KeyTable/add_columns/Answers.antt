use Rattle.std.proofs.Common.{◌≡◌, ◌∙◌, ◌+◌, ◌++◌, List, [], drop, length, take, sym, ap, subst, arith, rules}
use Rattle.std.proofs.lemmas.Grind.{common_steps}
use Rattle.std.proofs.lemmas.Result.{on_ok_weaker}
use Rattle.cq_model_bags.specs.Bag.{firsts}
use Rattle.cq_hash_keys.specs.declared.stage.Stage.{Stage}
use Rattle.cq_hash_keys.specs.Keys.{StoredKeys, values_of}
use Rattle.cq_hash_keys_values.specs.Met.{AreNumbersOf}
use Rattle.cq_hash_keys.specs.Stages.{GoesOn, StaysStages, rows_with, singles}
use Rattle.cq_hash_keys.specs.Table.{IsKeyTable, keys_in}
use Rattle.cq_hash_keys.proofs.Tables.{keys-added, numbers-added, part-table, whole-table}
use Rattle.cq_hash_keys.proofs.key_table.KeyTable.add_columns.Goals as goal

pub invariant_of-self-in_err-add : goal.invariant_of-self-in_err-add
invariant_of-self-in_err-add c =
    let table = c.self.inside in
    let wide : length c.args.others.now + 1 ≡ table.width = c.requires.width ∙ sym (ap (λ (t : StoredKeys). t.width) c.self.view_is) in
    part-table table.width (length c.args.others.now) table.is_met table.first c.add.new.self table.stages.items c.make_ready.new.stages.items c.args.first.now
    c.self.invariant wide c.in_ok-make_ready.ensures.ok c.add.ensures.front

pub invariant_of-self-2 : goal.invariant_of-self-2
invariant_of-self-2 c =
    let table = c.self.inside in
    let ready = c.make_ready.new.stages.items in
    let new = c.go_on.new.stages in
    let numbers = c.add.new.numbers.items in
    let wide : length c.args.others.now + 1 ≡ table.width = c.requires.width ∙ sym (ap (λ (t : StoredKeys). t.width) c.self.view_is) in
    let slice : c.as_mut_slice-stages.result.now ≡ ready = search rules in
    let stays = subst (λ (ss : List Stage). StaysStages ss numbers new) slice c.go_on.ensures.stays in
    let long : length new ≡ length ready = c.go_on.ensures.count ∙ ap (λ (ss : List Stage). length ss) slice in
    let all : new ≡ take c.make_ready.new.stages.len (new ++ drop (length new) ready) = first_of (search rules, grind (arith, common_steps)) in
    subst (IsKeyTable table.width c.add.new.self) all
    (whole-table table.width (length c.args.others.now) table.is_met table.first c.add.new.self table.stages.items ready c.args.first.now
    c.self.invariant wide c.in_ok-make_ready.ensures.ok numbers c.in_ok-add.ensures.values c.in_ok-add.ensures.numbers new stays long)

pub returns-clause-keys : goal.returns-clause-keys
returns-clause-keys c =
    let table = c.self.inside in
    let ready = c.make_ready.new.stages.items in
    let new = c.go_on.new.stages in
    let numbers = c.add.new.numbers.items in
    let others = values_of c.args.others.now in
    let last = c.go_on.new.numbers.items in
    let rows = rows_with (singles c.args.first.now) others in
    let wide : length c.args.others.now + 1 ≡ table.width = c.requires.width ∙ sym (ap (λ (t : StoredKeys). t.width) c.self.view_is) in
    let slice : c.as_mut_slice-stages.result.now ≡ ready = search rules in
    let long : length new ≡ length ready = c.go_on.ensures.count ∙ ap (λ (ss : List Stage). length ss) slice in
    let all : take c.make_ready.new.stages.len (new ++ drop (length new) ready) ≡ new = first_of (search rules, grind (arith, common_steps)) in
    on_ok_weaker c.go_on.result
    (λ goes.
    ap (keys_in table.width table.is_met c.add.new.self) all
    ∙ keys-added table.width (length c.args.others.now) table.is_met table.first c.add.new.self table.stages.items ready c.args.first.now
    c.self.invariant wide c.in_ok-make_ready.ensures.ok numbers c.in_ok-add.ensures.values c.in_ok-add.ensures.numbers new others last
    (subst (λ (ss : List Stage). GoesOn ss others numbers new last) slice goes)
    ∙ ap (λ (t : StoredKeys). firsts (t.keys ++ rows)) c.self.view_is)
    c.go_on.ensures.ok

pub returns-clause-numbers : goal.returns-clause-numbers
returns-clause-numbers c =
    let table = c.self.inside in
    let ready = c.make_ready.new.stages.items in
    let new = c.go_on.new.stages in
    let numbers = c.add.new.numbers.items in
    let others = values_of c.args.others.now in
    let last = c.go_on.new.numbers.items in
    let rows = rows_with (singles c.args.first.now) others in
    let wide : length c.args.others.now + 1 ≡ table.width = c.requires.width ∙ sym (ap (λ (t : StoredKeys). t.width) c.self.view_is) in
    let slice : c.as_mut_slice-stages.result.now ≡ ready = search rules in
    let long : length new ≡ length ready = c.go_on.ensures.count ∙ ap (λ (ss : List Stage). length ss) slice in
    let all : new ≡ take c.make_ready.new.stages.len (new ++ drop (length new) ready) = first_of (search rules, grind (arith, common_steps)) in
    on_ok_weaker c.go_on.result
    (λ goes.
    subst (λ (ss : List Stage). AreNumbersOf [] (keys_in table.width table.is_met c.add.new.self ss) rows last) all
    (numbers-added table.width (length c.args.others.now) table.is_met table.first c.add.new.self table.stages.items ready c.args.first.now
    c.self.invariant wide c.in_ok-make_ready.ensures.ok numbers c.in_ok-add.ensures.values c.in_ok-add.ensures.numbers new others last
    (subst (λ (ss : List Stage). GoesOn ss others numbers new last) slice goes)))
    c.go_on.ensures.ok
