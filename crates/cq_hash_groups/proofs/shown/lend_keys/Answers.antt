use Rattle.std.proofs.Common.{◌≡◌, ◌∙◌, ◌+◌, ◌++◌, ◌∷◌, ℕ, List, [], map, refl, sym, ap, ap₂, arith, rules}
use Rattle.std.proofs.lemmas.List.{map-append}
use Rattle.std.proofs.lemmas.List.FromFn.{map-range_with_len_more}
use Rattle.cq_values.specs.declared.value.Value.{Value}
use Rattle.cq_values.specs.Lent.{owned}
use Rattle.cq_values.specs.Value.{column}
use Rattle.cq_hash_keys.specs.Keys.{key_at}
use Rattle.cq_hash_groups.proofs.shown.lend_keys.Goals as goal

pub loop-place-preserved : goal.loop-place-preserved
loop-place-preserved c =
    let keys = c.args.found.now.keys in
    let start = c.args.start in
    let at = c.loop-place.place in
    let appended : c.push_reserved.new.self.items ≡ c.loop-place.values.items ++ c.lend.result ∷ [] = search rules in
    record {
      so_far =
          ap (map owned) appended ∙ map-append owned c.loop-place.values.items (c.lend.result ∷ [])
          ∙ ap₂ (λ (vs : List Value) (v : Value). vs ++ v ∷ []) c.loop-place.invariant.so_far c.lend.ensures
          ∙ sym (map-range_with_len_more (λ (group : ℕ). column (key_at keys group) c.args.column) start at (start + at) refl);
      room = first_of (search rules, omega arith, grind arith);
    }
