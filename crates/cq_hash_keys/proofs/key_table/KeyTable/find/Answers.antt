use Rattle.std.proofs.Common.{◌∙◌, sym, ap, subst}
use Rattle.std.specs.List.{AllByRecursion}
use Rattle.std.proofs.lemmas.Result.{on_ok_weaker}
use Rattle.cq_hash_keys.specs.Keys.{HasLength, key_rows, places_of, values_of}
use Rattle.cq_hash_keys.proofs.KeyRows.{all-columns}
use Rattle.cq_hash_keys.proofs.key_table.KeyTable.find.Goals as goal

pub returns-in-Some : goal.returns-in-Some
returns-in-Some c =
    let values = c.in-Some.first.now.now in
    let others = values_of c.in-Some.others.now in
    let columns = ap values_of c.in-Some.ensures.cases.0 in
    let rows = all-columns c.args.len values others (subst (AllByRecursion (HasLength c.args.len)) columns c.requires.long) ∙ ap (key_rows c.args.len) (sym columns) in
    on_ok_weaker c.find_columns.result (λ found. found ∙ ap (places_of c.args.self.now.keys) rows) c.find_columns.ensures
