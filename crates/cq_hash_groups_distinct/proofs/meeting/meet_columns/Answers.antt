use Rattle.std.proofs.Common.{◌≡◌, List, [], ◌∷◌, ◌++◌, length, rules, arith, refl, sym, ◌∙◌, ap, ap₂}
use Rattle.std.proofs.lemmas.Result.{on_ok_weaker}
use Rattle.cq_values.specs.Value.{Row}
use Rattle.cq_model_bags.specs.Bag.{firsts}
use Rattle.cq_hash_keys.specs.Keys.{key_rows, values_of}
use Rattle.cq_hash_keys.proofs.KeyRows.{new-firsts}
use Rattle.cq_hash_groups_distinct.specs.Sets.{column_pairs}
use Rattle.cq_hash_groups_distinct.proofs.ColumnPairs.{pairs-are}
use Rattle.cq_hash_groups_distinct.proofs.meeting.meet_columns.Goals as goal

pub returns : goal.returns
returns c =
    let keys = c.args.met.now.keys in
    let groups = c.args.groups.now in
    let values = c.args.values.now in
    let are : values_of c.deref.result.now ≡ groups ∷ values ∷ [] = first_of (search rules, grind arith) in
    let rows : key_rows c.len.result (values_of c.deref.result.now) ≡ column_pairs groups values =
    ap₂ key_rows c.len.ensures.len are ∙ pairs-are (length values) groups values c.requires.same refl in
    on_ok_weaker c.add.result
    (λ made. record {
      width = c.add.ensures.width;
      keys = λ once. made ∙ ap (λ (ks : List Row). firsts (keys ++ ks)) rows ∙ sym (new-firsts keys (column_pairs groups values) once);
    })
    c.add.ensures.keys
