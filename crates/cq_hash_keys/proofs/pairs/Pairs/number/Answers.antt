use Rattle.std.proofs.Common.{◌≡◌, ◌∙◌, ℕ, List, sym, subst, Some, rules}
use Rattle.indexmap.specs.IndexSet.{insert_key}
use Rattle.cq_hash_keys.specs.Grid.{pair_in, same_pair}
use Rattle.cq_hash_keys_values.specs.Met.{IsNumberIn}
use Rattle.cq_hash_keys.proofs.Grids.{pair-itself, pair-same}
use Rattle.cq_hash_keys_values.proofs.Meeting.{there-stays, told}
use Rattle.cq_hash_keys.proofs.pairs.Pairs.number.Goals as goal

pub returns-in-Some-clause-met : goal.returns-in-Some-clause-met
returns-in-Some-clause-met c =
    let pair : ℕ × ℕ = (c.args.first, c.args.second) in
    let is : pair_in c.self.inside.ways pair ≡ Some c.in-Some.number = search rules in
    subst (λ (met : List (ℕ × ℕ)). met ≡ insert_key same_pair met pair) c.self.view_is
    (there-stays same_pair (0, 0) pair-same pair-itself c.self.inside.met.items pair c.in-Some.number (sym (c.self.invariant.found pair) ∙ is))

pub returns-in-Some-clause-number : goal.returns-in-Some-clause-number
returns-in-Some-clause-number c =
    let pair : ℕ × ℕ = (c.args.first, c.args.second) in
    let is : pair_in c.self.inside.ways pair ≡ Some c.in-Some.number = search rules in
    subst (λ (met : List (ℕ × ℕ)). IsNumberIn (0, 0) met pair c.in-Some.number) c.self.view_is
    (told same_pair (0, 0) pair-same pair-itself c.self.inside.met.items pair c.in-Some.number (sym (c.self.invariant.found pair) ∙ is))
