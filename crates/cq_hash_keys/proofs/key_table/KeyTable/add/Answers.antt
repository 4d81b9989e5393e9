use Rattle.std.proofs.Common.{◌∙◌, ◌++◌, List, sym, ap, subst}
use Rattle.std.specs.List.{AllByRecursion}
use Rattle.std.proofs.lemmas.Result.{on_ok_weaker}
use Rattle.cq_model_bags.specs.Bag.{firsts}
use Rattle.cq_values.specs.Value.{Row}
use Rattle.cq_hash_keys.specs.Keys.{HasLength, key_rows, values_of}
use Rattle.cq_hash_keys.proofs.KeyRows.{all-columns}
use Rattle.cq_hash_keys.proofs.key_table.KeyTable.add.Goals as goal

pub returns-in-Some-clause-keys : goal.returns-in-Some-clause-keys
returns-in-Some-clause-keys c =
    let values = c.in-Some.first.now.now in
    let others = values_of c.in-Some.others.now in
    let columns = ap values_of c.in-Some.ensures.cases.0 in
    let rows = all-columns c.args.len values others (subst (AllByRecursion (HasLength c.args.len)) columns c.requires.long) ∙ ap (key_rows c.args.len) (sym columns) in
    on_ok_weaker c.add_columns.result (λ made. made ∙ ap (λ (rs : List Row). firsts (c.args.self.now.keys ++ rs)) rows) c.add_columns.ensures.keys

pub returns-in-Some-clause-numbers : goal.returns-in-Some-clause-numbers
returns-in-Some-clause-numbers c =
    let values = c.in-Some.first.now.now in
    let others = values_of c.in-Some.others.now in
    let columns = ap values_of c.in-Some.ensures.cases.0 in
    let rows = all-columns c.args.len values others (subst (AllByRecursion (HasLength c.args.len)) columns c.requires.long) ∙ ap (key_rows c.args.len) (sym columns) in
    on_ok_weaker c.add_columns.result (λ told. told.named ∙ rows) c.add_columns.ensures.numbers
