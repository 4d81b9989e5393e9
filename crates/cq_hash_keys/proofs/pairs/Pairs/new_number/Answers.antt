use Rattle.std.proofs.Common.{◌≡◌, ◌∙◌, ◌∷◌, ◌++◌, ℕ, List, [], ap, sym, subst, length, Some, None, rules}
use Rattle.indexmap.specs.IndexSet.{insert_key}
use Rattle.cq_hash_keys.specs.Grid.{pair_in, same_pair}
use Rattle.cq_hash_keys.specs.Pairs.{ArePairs, place_of_pair}
use Rattle.cq_hash_keys.proofs.Grids.{pair-itself, pair-same}
use Rattle.cq_hash_keys_values.proofs.Meeting.{finds-more, goes-behind, once-push}
use Rattle.cq_hash_keys.proofs.pairs.Pairs.new_number.Goals as goal

pub invariant_of-self-2 : goal.invariant_of-self-2
invariant_of-self-2 c =
    let pair : ℕ × ℕ = (c.args.first, c.args.second) in
    let met = c.self.inside.met.items in
    let absent : place_of_pair met pair ≡ None = ap (λ (ps : List (ℕ × ℕ)). place_of_pair ps pair) c.self.view_is ∙ c.requires in
    let pushed : c.push_reserved.new.self.items ≡ met ++ pair ∷ [] = search rules in
    let len : c.len-number.result ≡ length met = search rules in
    let puts = c.in_ok-put.ensures.ok in
    subst (ArePairs c.put.new.self) (sym pushed) (record {
      once = once-push same_pair (0, 0) pair-same pair-itself met pair absent c.self.invariant.once;
      found =
          finds-more same_pair (0, 0) pair-same pair-itself (pair_in c.self.inside.ways) (pair_in c.put.new.self) met pair
          c.self.invariant.found (c.self.invariant.found pair ∙ absent) (puts.there ∙ ap Some len) puts.others;
    })

pub returns-clause-met : goal.returns-clause-met
returns-clause-met c =
    let pair : ℕ × ℕ = (c.args.first, c.args.second) in
    let met = c.self.inside.met.items in
    let absent : place_of_pair met pair ≡ None = ap (λ (ps : List (ℕ × ℕ)). place_of_pair ps pair) c.self.view_is ∙ c.requires in
    let pushed : c.push_reserved.new.self.items ≡ met ++ pair ∷ [] = search rules in
    pushed ∙ subst (λ (ps : List (ℕ × ℕ)). met ++ pair ∷ [] ≡ insert_key same_pair ps pair) c.self.view_is (goes-behind same_pair (0, 0) pair-same pair-itself met pair absent)
