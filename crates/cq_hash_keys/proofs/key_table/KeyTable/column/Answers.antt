use Rattle.std.proofs.Common.{◌≡◌, ◌∙◌, ◌<◌, ◌+◌, ◌++◌, ◌∷◌, List, [], drop, get_or, length, map, take, sym, ap, ap₂, arith, rules}
use Rattle.std.proofs.lemmas.Grind.{common_steps}
use Rattle.std.proofs.lemmas.List.{map-append, take_more}
use Rattle.cq_values.specs.declared.value.Value.{Value}
use Rattle.cq_values.specs.Lent.{owned}
use Rattle.cq_values.specs.Value.{Row, column}
use Rattle.cq_vectors.specs.Gathered.{column_of}
use Rattle.cq_hash_keys.specs.Keys.{key_at}
use Rattle.cq_hash_keys.proofs.key_table.KeyTable.column.Goals as goal

pub loop-place-preserved : goal.loop-place-preserved
loop-place-preserved c =
    let keys = c.args.self.now.keys in
    let rows = drop c.args.start keys in
    let at = c.loop-place.place in
    let below = c.loop-place-test.true in
    let lt : at < length rows = grind (arith, common_steps) in
    let read : key_at keys (c.args.start + at) ≡ get_or rows at [] = grind (arith, common_steps) in
    let appended : c.push_reserved.new.self.items ≡ c.loop-place.values.items ++ c.lend.result ∷ [] = search rules in
    record {
      so_far =
          ap (map owned) appended ∙ map-append owned c.loop-place.values.items (c.lend.result ∷ [])
          ∙ ap₂ (λ (vs : List Value) (v : Value). vs ++ v ∷ []) c.loop-place.invariant.so_far (c.lend.ensures ∙ ap (λ (r : Row). column r c.args.column) read)
          ∙ sym (ap (λ (rs : List Row). column_of rs c.args.column) (take_more rows at [] lt) ∙ map-append (λ (r : Row). column r c.args.column) (take at rows) (get_or rows at [] ∷ []));
      room = first_of (search rules, omega arith, grind arith);
    }
