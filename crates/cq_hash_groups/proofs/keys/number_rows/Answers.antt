use Rattle.std.proofs.Common.{◌≡◌, ℕ, List, ◌++◌, map, length, sym, ◌∙◌, ap, ap₂, subst}
use Rattle.std.specs.List.{AllByRecursion}
use Rattle.std.proofs.lemmas.Result.{IfOk-weaker}
use Rattle.cq_values.specs.Value.{Row}
use Rattle.cq_model_bags.specs.Bag.{firsts}
use Rattle.cq_hash_keys.specs.Keys.{HasLength, key_rows, values_of}
use Rattle.cq_model.specs.Group.{key_of}
use Rattle.cq_operators_scans.specs.Operand.{values_in}
use Rattle.cq_vectors.specs.Gathered.{column_of}
use Rattle.cq_hash_groups.specs.Groups.{group_columns}
use Rattle.cq_hash_groups.proofs.Columns.{columns-long, keys-of_rows}
use Rattle.cq_hash_groups.proofs.keys.number_rows.Goals as goal

pub add-requires-clause-long : goal.add-requires-clause-long
add-requires-clause-long c =
    let scan = c.args.scan.now in
    let are : values_of c.deref-2.result.now ≡ map (column_of scan) (group_columns c.args.keys.now) =
    ap values_of c.deref-2.ensures.value ∙ c.in_ok-lent.ensures ∙ ap (map values_in) c.deref.ensures.value ∙ c.in_ok-columns.ensures in
    subst (λ (n : ℕ). AllByRecursion (HasLength n) (values_of c.deref-2.result.now)) (sym c.len.ensures.len)
    (subst (AllByRecursion (HasLength (length scan))) (sym are) (columns-long scan (group_columns c.args.keys.now)))

pub returns-clause-keys : goal.returns-clause-keys
returns-clause-keys c =
    let scan = c.args.scan.now in
    let are : values_of c.deref-2.result.now ≡ map (column_of scan) (group_columns c.args.keys.now) =
    ap values_of c.deref-2.ensures.value ∙ c.in_ok-lent.ensures ∙ ap (map values_in) c.deref.ensures.value ∙ c.in_ok-columns.ensures in
    let rows : key_rows c.len.result (values_of c.deref-2.result.now) ≡ map (key_of (group_columns c.args.keys.now)) scan =
    ap₂ key_rows c.len.ensures.len are ∙ keys-of_rows scan (group_columns c.args.keys.now) in
    IfOk-weaker c.add.result _ _ (λ x e. e ∙ ap (λ (ks : List Row). firsts (c.args.found.now.keys ++ ks)) rows) c.add.ensures.keys

pub returns-clause-numbers : goal.returns-clause-numbers
returns-clause-numbers c =
    let scan = c.args.scan.now in
    let are : values_of c.deref-2.result.now ≡ map (column_of scan) (group_columns c.args.keys.now) =
    ap values_of c.deref-2.ensures.value ∙ c.in_ok-lent.ensures ∙ ap (map values_in) c.deref.ensures.value ∙ c.in_ok-columns.ensures in
    let rows : key_rows c.len.result (values_of c.deref-2.result.now) ≡ map (key_of (group_columns c.args.keys.now)) scan =
    ap₂ key_rows c.len.ensures.len are ∙ keys-of_rows scan (group_columns c.args.keys.now) in
    IfOk-weaker c.add.result _ _ (λ x e. e ∙ rows) c.add.ensures.numbers
